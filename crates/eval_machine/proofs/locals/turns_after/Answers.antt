use Rattle.std.proofs.Common.{arith}
use Rattle.eval_machine.proofs.DeclaredLocals.{declared_drop}
use Rattle.eval_machine.proofs.locals.turns_after.Goals as goal

pub returns-then-count-most-clause-none : goal.returns-then-count-most-clause-none
returns-then-count-most-clause-none c e =
    let more = declared_drop c.args.groups.now c.loop-i.i _ c.from-count.result c.loop-i-test.true c.from-count.ensures in omega (arith, more, c.loop-i.invariant.0, c.if-count-most.true, c.from.ensures)

pub loop-i-preserved : goal.loop-i-preserved
loop-i-preserved c =
    let more = declared_drop c.args.groups.now c.loop-i.i _ c.from-count.result c.loop-i-test.true c.from-count.ensures in (omega (arith, more, c.loop-i.invariant.0), c.if-count-most.false)
