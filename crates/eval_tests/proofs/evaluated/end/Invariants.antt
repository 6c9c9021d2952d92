use Rattle.eval_machine.specs.Kept.{Rests}
use Rattle.eval_tests.proofs.evaluated.end.Given as goal

abbrev pub invariant-loop-i : goal.invariant-loop-i
invariant-loop-i l = Rests l.input l.machine
