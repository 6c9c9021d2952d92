use Rattle.std.proofs.Common.{refl, subst, sym}
use Rattle.eval_machine.specs.Undo.{AreGlobalsBefore, FlagsAreRight}
use Rattle.eval_machine.proofs.UndoNotes.{all_back, noted_popped, one_back}
use Rattle.eval_machine.proofs.undo.UndoLog.put_globals_back.Goals as goal

pub loop-earlier-preserved : goal.loop-earlier-preserved
loop-earlier-preserved c = record {
  before = λ gs before.
      subst (λ now. AreGlobalsBefore c.pop.new.self now gs) (sym c.put.ensures)
      (one_back c.pop.new.self c.loop-earlier.globals gs c.in-Some.earlier (subst (λ es. AreGlobalsBefore es c.loop-earlier.globals gs) c.in-Some.ensures.some (c.loop-earlier.invariant.before gs before)));
  flags =
      subst (FlagsAreRight c.pop.new.self) (sym c.write_flag.ensures)
      (noted_popped c.pop.new.self c.loop-earlier.self.noted c.in-Some.earlier (subst (λ es. FlagsAreRight es c.loop-earlier.self.noted) c.in-Some.ensures.some c.loop-earlier.invariant.flags));
  dropped = c.loop-earlier.invariant.dropped;
}

pub returns-clause-back : goal.returns-clause-back
returns-clause-back c = λ gs before. all_back c.loop-earlier.globals gs (subst (λ es. AreGlobalsBefore es c.loop-earlier.globals gs) (c.in_default.ensures.none.0 refl) (c.loop-earlier.invariant.before gs before))
