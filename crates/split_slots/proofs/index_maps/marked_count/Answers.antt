use Rattle.std.proofs.Common.{arith, true, false}
use Rattle.split_slots.proofs.MarkCounts.{count_more}
use Rattle.split_slots.proofs.index_maps.marked_count.Goals.{then-is_marked, else-is_marked}
use Rattle.split_slots.proofs.index_maps.marked_count.Goals as goal

pub loop-is_marked-preserved : goal.loop-is_marked-preserved
loop-is_marked-preserved c = elim c.if-is_marked.branch [
  | then-is_marked w ↦
      let more = count_more c.args.marks.now c.loop-is_marked.is_marked-index true c.loop-is_marked-test.true w.if-is_marked.true in
      record { count = omega (arith, w.count-is, c.loop-is_marked.invariant.count, more); most = omega (arith, w.count-is, c.loop-is_marked.invariant.most) }
  | else-is_marked w ↦
      let more = count_more c.args.marks.now c.loop-is_marked.is_marked-index false c.loop-is_marked-test.true w.if-is_marked.false in
      record { count = omega (arith, w.count-is, c.loop-is_marked.invariant.count, more); most = omega (arith, w.count-is, c.loop-is_marked.invariant.most) }
]
