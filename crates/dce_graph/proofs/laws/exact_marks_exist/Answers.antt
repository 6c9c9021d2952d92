use Rattle.dce_graph.proofs.ExactMarks.{some_exact, one_exact}
use Rattle.dce_graph.proofs.laws.exact_marks_exist.Goals as goal

pub returns : goal.returns
returns c = record { exist = some_exact; one = one_exact }
