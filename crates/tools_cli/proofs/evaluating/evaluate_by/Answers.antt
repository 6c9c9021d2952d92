use Rattle.tools_cli_decide.specs.Command.{ctor_eval_value}
use Rattle.tools_cli.proofs.CtorEvalDecided.{eval_fails}
use Rattle.tools_cli.proofs.evaluating.evaluate_by.Goals as goal

pub returns-in_ok-refuse_eval-in-Err-clause-stops : goal.returns-in_ok-refuse_eval-in-Err-clause-stops
returns-in_ok-refuse_eval-in-Err-clause-stops c = eval_fails (ctor_eval_value c.args.eval.now) c.args.module _ c.in-Err.fault c.in-Err.ensures.fault c.in_ok-refuse_eval-in-Err.ensures
