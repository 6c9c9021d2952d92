use Rattle.wasm_read_spec.proofs.NestLaws.{body_ends}
use Rattle.wasm_read_spec.proofs.laws.body_encodings_are_prefix_free.Goals as goal

pub returns : goal.returns
returns c = λ many text more is js h k. body_ends many text more is js h k
