use Rattle.eval_machine.proofs.InitialContents.{AreDefined}
use Rattle.eval_machine.proofs.initial.defined_slots.Given as goal

abbrev pub invariant-loop-i : goal.invariant-loop-i
invariant-loop-i l = AreDefined l.input l.i l.slots
