use Rattle.base_lists.proofs.Common.{sym, ap, ◌∙◌, not}
use Rattle.split_plan.specs.SegmentReferences.{uses_segment}
use Rattle.split_plan.proofs.Chosen.{filter_more, body_at, both}
use Rattle.split_plan.proofs.choosing.choose.Goals as goal

pub loop-at-preserved : goal.loop-at-preserved
loop-at-preserved c =
    let f = c.func-item.result in
    let funcs = c.as_slice-func-items.ensures in
    let uses = ap uses_segment c.as_slice.ensures ∙ sym (body_at c.args.module.now c.imported_funcs-first.result c.loop-at.at f c.imported_funcs-first.ensures.value (rw funcs at c.loop-at-test.true) (rw funcs at c.func-item.is)) in
    let wanted = c.has_mark-wanted.ensures in record {
      moved = filter_more _ c.imported_funcs-first.result c.loop-at.at _ _ _ (both (sym wanted) (ap not (sym uses))) c.in_ok-put_in_plan.ensures.moved c.loop-at.invariant.moved;
      kept = filter_more _ c.imported_funcs-first.result c.loop-at.at _ _ _ (both (sym wanted) (sym uses)) c.in_ok-put_in_plan.ensures.kept c.loop-at.invariant.kept;
    }
