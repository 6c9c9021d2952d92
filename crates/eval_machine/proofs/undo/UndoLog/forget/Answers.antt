use Rattle.std.proofs.Common.{subst, sym}
use Rattle.eval_machine.specs.Undo.{FlagsAreRight}
use Rattle.eval_machine.proofs.UndoNotes.{noted_popped}
use Rattle.eval_machine.proofs.undo.UndoLog.forget.Goals as goal

pub loop-earlier-preserved : goal.loop-earlier-preserved
loop-earlier-preserved c =
    subst (FlagsAreRight c.pop.new.self) (sym c.write_flag.ensures)
    (noted_popped c.pop.new.self c.loop-earlier.self.noted c.in-Some.earlier (subst (λ es. FlagsAreRight es c.loop-earlier.self.noted) c.in-Some.ensures.some c.loop-earlier.invariant))
