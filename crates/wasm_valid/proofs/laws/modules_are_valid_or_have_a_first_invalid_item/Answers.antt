use Rattle.wasm_valid.proofs.Decided.{valid_or_first_invalid}
use Rattle.wasm_valid.proofs.laws.modules_are_valid_or_have_a_first_invalid_item.Goals as goal

pub returns : goal.returns
returns c = valid_or_first_invalid c.bodies_are_well_typed_or_not.ensures
