use Rattle.eval_proof.proofs.RelatedWrites.{quiet_steps_leave_alone}
use Rattle.eval_proof.proofs.quiet.quiet_steps_preserve_what_is_unrelated.Goals as goal

pub returns : goal.returns
returns c = record { preserved = quiet_steps_leave_alone c.steps_write_only_touched_places.ensures.writes }
