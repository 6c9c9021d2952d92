use Rattle.std.proofs.Common.{length}
use Rattle.eval_machine.specs.Undo.{FlagsAreRight}
use Rattle.eval_machine.proofs.undo.UndoLog.forget.Given as goal

abbrev pub invariant-loop-earlier : goal.invariant-loop-earlier
invariant-loop-earlier l = FlagsAreRight l.self.globals l.self.noted

abbrev pub decreases-loop-earlier : goal.decreases-loop-earlier
decreases-loop-earlier l = length l.self.globals
