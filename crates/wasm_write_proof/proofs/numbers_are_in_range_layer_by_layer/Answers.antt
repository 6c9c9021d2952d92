use Rattle.wasm_write_proof.proofs.Inside.{numbers_inside}
use Rattle.wasm_write_proof.proofs.numbers_are_in_range_layer_by_layer.Goals as goal

pub returns : goal.returns
returns c = numbers_inside
