use Rattle.eval_machine.specs.Kept.{IsUnmarked, MemoryFits}
use Rattle.eval_machine.proofs.DataInOrder.{Stands}
use Rattle.eval_machine.proofs.boot.pour_all.Given as goal

abbrev pub invariant-loop-i : goal.invariant-loop-i
invariant-loop-i l = Stands l.input l.initial.memory l.initial.dropped l.i l.memory l.dropped × (MemoryFits l.input.mems l.memory × IsUnmarked l.memory)
