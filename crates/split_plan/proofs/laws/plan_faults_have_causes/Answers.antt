use Rattle.split_plan.proofs.CauseLaws.{faults_have_causes}
use Rattle.split_plan.proofs.laws.plan_faults_have_causes.Goals as goal

pub returns : goal.returns
returns c = faults_have_causes
