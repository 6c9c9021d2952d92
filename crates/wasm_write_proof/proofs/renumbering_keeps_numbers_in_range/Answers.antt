use Rattle.wasm_write_proof.proofs.Inside.{numbers_stay}
use Rattle.wasm_write_proof.proofs.renumbering_keeps_numbers_in_range.Goals as goal

pub returns : goal.returns
returns c = numbers_stay
