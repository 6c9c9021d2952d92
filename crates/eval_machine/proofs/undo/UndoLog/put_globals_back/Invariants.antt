use Rattle.std.proofs.Common.{◌≡◌, List, length}
use Rattle.eval_machine.specs.declared.globals.GlobalSlot.{GlobalSlot}
use Rattle.eval_machine.specs.Undo.{AreGlobalsBefore, FlagsAreRight}
use Rattle.eval_machine.proofs.undo.UndoLog.put_globals_back.Given as goal

abbrev pub invariant-loop-earlier : goal.invariant-loop-earlier
invariant-loop-earlier l = record {
  before : (gs : List GlobalSlot) → AreGlobalsBefore l.initial.self.globals l.initial.globals gs → AreGlobalsBefore l.self.globals l.globals gs;
  flags : FlagsAreRight l.self.globals l.self.noted;
  dropped : l.self.dropped ≡ l.initial.self.dropped;
}

abbrev pub decreases-loop-earlier : goal.decreases-loop-earlier
decreases-loop-earlier l = length l.self.globals
