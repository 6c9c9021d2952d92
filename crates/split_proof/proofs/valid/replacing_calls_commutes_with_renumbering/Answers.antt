use Rattle.split_proof.proofs.RenumberedReplacements.{calls_replaced}
use Rattle.split_proof.proofs.valid.replacing_calls_commutes_with_renumbering.Goals as goal

pub returns : goal.returns
returns c = λ types m listed code others. calls_replaced m code types listed others
