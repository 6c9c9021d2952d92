use Rattle.eval_proof.proofs.ConstructorCounts.{counted_are_quiet, quiet_are_counted}
use Rattle.eval_proof.proofs.quiet.counted_constructors_are_the_longest_quiet_prefix.Goals as goal

pub returns : goal.returns
returns c = record { quiet = counted_are_quiet; greatest = quiet_are_counted }
