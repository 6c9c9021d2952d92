use Rattle.std.proofs.Common.{◌∙◌}
use Rattle.eval_machine.proofs.DeclaredLocals.{zeros_drop}
use Rattle.eval_machine.proofs.locals.Locals.declare_all.Goals as goal

pub loop-i-preserved : goal.loop-i-preserved
loop-i-preserved c = zeros_drop c.loop-i.self c.declare.new.self c.args.groups.now c.loop-i.i _ c.loop-i-test.true c.in_ok-declare.ensures ∙ c.loop-i.invariant
