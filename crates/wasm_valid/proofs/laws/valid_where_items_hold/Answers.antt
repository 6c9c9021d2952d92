use Rattle.wasm_valid.specs.Prelude.{order}
use Rattle.wasm_valid.proofs.Order.{each_item, all_items}
use Rattle.wasm_valid.proofs.laws.valid_where_items_hold.Goals as goal

pub returns : goal.returns
returns c = λ m. (each_item m, λ h. all_items m h order)
