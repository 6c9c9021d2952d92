use Rattle.eval_proof.proofs.RunEnds.{runs_end, ends_are_reached, quiet_ends_are_unique}
use Rattle.eval_proof.proofs.quiet.quiet_runs_end.Goals as goal

pub returns : goal.returns
returns c = record { ends = runs_end; reached = ends_are_reached; determined = quiet_ends_are_unique }
