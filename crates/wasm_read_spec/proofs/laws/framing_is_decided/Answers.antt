use Rattle.wasm_read_spec.proofs.Framing.{framed_exactly, bad_exactly, header_exactly}
use Rattle.wasm_read_spec.proofs.FileLaws.{framed_bytes}
use Rattle.wasm_read_spec.proofs.laws.framing_is_decided.Goals as goal

pub returns : goal.returns
returns c = record {
  framed = λ bytes ss small. framed_exactly c.frames_are_read.ensures bytes small ss;
  bad = λ bytes n small. bad_exactly c.frames_are_read.ensures bytes small n;
  not_module = λ bytes small. header_exactly c.frames_are_read.ensures bytes small;
  contents = framed_bytes;
}
