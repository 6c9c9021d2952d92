use Rattle.eval_proof.proofs.EvaluationEnds as law
use Rattle.eval_proof.proofs.quiet.evaluations_end.Goals as goal

pub returns : goal.returns
returns c = record { ends = law.evaluations_end; quiet = law.quiet_where_nothing_stops; unstopped = law.nothing_stops_quiet; none = law.none_counted_before }
