use Rattle.wasm_read_spec.proofs.FileLaws.{decoding_is_unique}
use Rattle.wasm_read_spec.proofs.laws.decoding_is_unique.Goals as goal

pub returns : goal.returns
returns c = λ many bytes m n h k. decoding_is_unique c.frames_are_read.ensures many bytes m n h k
