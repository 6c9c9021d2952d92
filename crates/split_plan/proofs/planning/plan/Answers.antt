use Rattle.std.specs.Option.{option_copied}
use Rattle.split_plan.specs.PlannedMoves.{is_wanted}
use Rattle.split_plan.proofs.CauseLaws.{told_by}
use Rattle.split_plan.proofs.Chosen.{result_shaped}
use Rattle.split_plan.proofs.planning.plan.Goals as goal

pub returns-clause-plan : goal.returns-clause-plan
returns-clause-plan c = rw c.as_slice.ensures at c.planned.ensures.plan

pub returns-clause-shape : goal.returns-clause-shape
returns-clause-shape c = result_shaped c.args.input.now (is_wanted c.args.input.now c.as_slice.result.now (option_copied c.args.split) (option_copied c.args.keep)) c.planned.result c.planned.ensures.plan

pub returns-clause-told : goal.returns-clause-told
returns-clause-told c = told_by c.plan_faults_have_causes.ensures c.args.input.now c.args.names.now (option_copied c.args.split) (option_copied c.args.keep) c.planned.result (rw c.as_slice.ensures at c.planned.ensures.none) (rw c.as_slice.ensures at c.planned.ensures.fault)
