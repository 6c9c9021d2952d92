use Rattle.wasm_bytes.proofs.FramedLaws.{frames_read}
use Rattle.wasm_bytes.proofs.laws.frames_are_read.Goals as goal

pub returns : goal.returns
returns c = frames_read
