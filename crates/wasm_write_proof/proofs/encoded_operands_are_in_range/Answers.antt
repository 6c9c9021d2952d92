use Rattle.wasm_write_proof.proofs.Inside.{spelled_small, spelled_zero}
use Rattle.wasm_write_proof.proofs.encoded_operands_are_in_range.Goals as goal

pub returns : goal.returns
returns c = record { range = λ o h. spelled_small o.space o.index h; memory = λ o h. spelled_zero o.space o.index h }
