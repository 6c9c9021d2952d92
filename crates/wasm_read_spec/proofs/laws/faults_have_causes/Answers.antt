use Rattle.wasm_read_spec.proofs.CauseLaws.{causes, one_cause}
use Rattle.wasm_read_spec.proofs.PlaceLaws.{one_place}
use Rattle.wasm_read_spec.proofs.laws.faults_have_causes.Goals as goal

pub returns : goal.returns
returns c = record {
  causes = λ bytes many e small. causes c.frames_are_read.ensures bytes many e small;
  one = λ bytes many e f small h k. one_cause c.frames_are_read.ensures bytes many e f small h k;
  places = λ bytes many n m f g s t small.
      one_place c.frames_are_read.ensures bytes many small n m f g s t;
}
