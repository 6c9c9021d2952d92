use Rattle.eval_proof.proofs.SimulatedCalls.{quiet_calls_lead}
use Rattle.eval_proof.proofs.quiet.quiet_calls_simulate.Goals as goal

pub returns : goal.returns
returns c = record { simulate = quiet_calls_lead c.steps_agree_off_unknown_places.ensures.steps c.steps_write_only_touched_places.ensures.writes }
