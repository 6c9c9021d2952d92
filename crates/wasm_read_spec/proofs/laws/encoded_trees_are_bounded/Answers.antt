use Rattle.wasm_read_spec.proofs.BoundLaws.{tree_bounded}
use Rattle.wasm_read_spec.proofs.laws.encoded_trees_are_bounded.Goals as goal

pub returns : goal.returns
returns c = λ many bytes m h k. tree_bounded many bytes m h k
