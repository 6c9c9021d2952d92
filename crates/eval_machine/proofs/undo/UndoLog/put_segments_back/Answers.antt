use Rattle.std.proofs.Common.{ap, refl, subst, sym}
use Rattle.eval_machine.specs.declared.undo.UndoLog.{UndoLog}
use Rattle.eval_machine.specs.Undo.{AreSegmentsBefore}
use Rattle.eval_machine.proofs.UndoNotes.{all_segments_back, one_segment_back}
use Rattle.eval_machine.proofs.undo.UndoLog.put_segments_back.Goals as goal

pub loop-segment-preserved : goal.loop-segment-preserved
loop-segment-preserved c = record {
  before = λ bs before.
      subst (λ now. AreSegmentsBefore c.pop.new.self now bs) (sym c.write_flag.ensures)
      (one_segment_back c.pop.new.self c.loop-segment.flags bs c.in-Some.segment (subst (λ ds. AreSegmentsBefore ds c.loop-segment.flags bs) c.in-Some.ensures.some (c.loop-segment.invariant.before bs before)));
  rest = let with_these : UndoLog → UndoLog = λ s. record s { dropped = c.pop.new.self } in ap with_these c.loop-segment.invariant.rest;
}

pub returns-clause-back : goal.returns-clause-back
returns-clause-back c = λ bs before. all_segments_back c.loop-segment.flags bs (subst (λ ds. AreSegmentsBefore ds c.loop-segment.flags bs) (c.in_default.ensures.none.0 refl) (c.loop-segment.invariant.before bs before))
