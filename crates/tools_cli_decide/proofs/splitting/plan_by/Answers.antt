use Rattle.tools_cli_decide.specs.Command.{split_value}
use Rattle.tools_cli_decide.proofs.SplitDecided.{plan_fails}
use Rattle.tools_cli_decide.proofs.splitting.plan_by.Goals as goal

pub returns-in_ok-refuse_plan-in-Err-clause-stops : goal.returns-in_ok-refuse_plan-in-Err-clause-stops
returns-in_ok-refuse_plan-in-Err-clause-stops c = plan_fails (split_value c.args.task.now) c.args.module.now c.args.names.now _ c.in-Err.fault (rw (c.as_ref.ensures.value, c.as_ref-2.ensures.value) at c.in-Err.ensures.fault) c.in_ok-refuse_plan-in-Err.ensures
