use Rattle.wasm_write_proof.proofs.SizeLaws.{sizes_small}
use Rattle.wasm_write_proof.proofs.trees_that_fit_have_small_sizes.Goals as goal

pub returns : goal.returns
returns c = sizes_small
