use Rattle.eval_machine.specs.Kept.{Rests}
use Rattle.eval_tests.proofs.evaluated.each.Given as goal

abbrev pub invariant-loop-func : goal.invariant-loop-func
invariant-loop-func l = Rests l.input l.machine
