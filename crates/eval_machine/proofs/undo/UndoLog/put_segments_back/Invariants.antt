use Rattle.std.proofs.Common.{◌≡◌, Bool, List, length}
use Rattle.eval_machine.specs.Undo.{AreSegmentsBefore}
use Rattle.eval_machine.proofs.undo.UndoLog.put_segments_back.Given as goal

abbrev pub invariant-loop-segment : goal.invariant-loop-segment
invariant-loop-segment l = record {
  before : (bs : List Bool) → AreSegmentsBefore l.initial.self.dropped l.initial.flags bs → AreSegmentsBefore l.self.dropped l.flags bs;
  rest : l.self ≡ record l.initial.self { dropped = l.self.dropped };
}

abbrev pub decreases-loop-segment : goal.decreases-loop-segment
decreases-loop-segment l = length l.self.dropped
