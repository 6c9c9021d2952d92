use Rattle.tools_cli_decide.specs.Command.{split_value}
use Rattle.tools_cli_decide.proofs.SplitDecided.{split_fails}
use Rattle.tools_cli_decide.proofs.splitting.split_by.Goals as goal

pub returns-in_ok-refuse_split-in-Err-clause-stops : goal.returns-in_ok-refuse_split-in-Err-clause-stops
returns-in_ok-refuse_split-in-Err-clause-stops c = split_fails (split_value c.args.task.now) c.args.module c.args.plan.now.moved _ c.in-Err.fault c.in-Err.ensures.fault c.in_ok-refuse_split-in-Err.ensures
