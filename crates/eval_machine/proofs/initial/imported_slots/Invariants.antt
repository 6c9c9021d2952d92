use Rattle.eval_machine.proofs.InitialContents.{AreImported}
use Rattle.eval_machine.proofs.initial.imported_slots.Given as goal

abbrev pub invariant-loop-i : goal.invariant-loop-i
invariant-loop-i l = AreImported l.input l.i l.slots
