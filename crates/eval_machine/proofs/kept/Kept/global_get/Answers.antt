use Rattle.std.proofs.Common.{sym, ◌∙◌}
use Rattle.eval_machine.proofs.GlobalSteps.{global_got, global_not_got}
use Rattle.eval_machine.proofs.kept.Kept.global_get.Goals as goal

pub returns-in_ok-push-in-Ok : goal.returns-in_ok-push-in-Ok
returns-in_ok-push-in-Ok c = rw c.in_ok-push-in-Ok.ensures (global_got c.args.input.now c.args.self.now c.args.global c.args.operands.now c.in-Ok.value c.requires.fits (sym c.get.ensures ∙ c.in-Ok.is))

pub returns-in-Err : goal.returns-in-Err
returns-in-Err c = global_not_got c.args.input.now c.args.self.now c.args.global c.args.operands.now c.args.operands.now c.in-Err.stop c.requires.fits (sym c.get.ensures ∙ c.in-Err.is)
