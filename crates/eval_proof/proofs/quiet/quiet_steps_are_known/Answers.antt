use Rattle.eval_proof.proofs.KnownSteps as step_law
use Rattle.eval_proof.proofs.KnownCalls.{quiet_calls_are_known}
use Rattle.eval_proof.proofs.quiet.quiet_steps_are_known.Goals as goal

pub returns : goal.returns
returns c = record { known = step_law.quiet_steps_are_known; calls = quiet_calls_are_known }
