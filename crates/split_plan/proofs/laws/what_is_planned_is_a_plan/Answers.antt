use Rattle.split_plan.proofs.Chosen.{plan_shaped}
use Rattle.split_plan.proofs.laws.what_is_planned_is_a_plan.Goals as goal

pub returns : goal.returns
returns c = plan_shaped
