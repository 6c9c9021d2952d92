use Rattle.wasm_read_spec.proofs.FileLaws.{no_fault}
use Rattle.wasm_read_spec.proofs.laws.no_fault_where_encoded.Goals as goal

pub returns : goal.returns
returns c = λ many bytes small. no_fault c.frames_are_read.ensures many bytes small
