use Rattle.wasm_read_spec.proofs.CutLaws.{cut_files}
use Rattle.wasm_read_spec.proofs.laws.cut_files_end_with_a_frame.Goals as goal

pub returns : goal.returns
returns c = λ many prefix rest whole part some w p. cut_files many prefix rest whole part some w p
