use Rattle.std.proofs.Common.{sym, ◌∙◌}
use Rattle.index_remap.specs.References.{marked_only}
use Rattle.index_remap.proofs.Marks.{item_kept, item_left}
use Rattle.index_remap.proofs.declaring.items_of.Goals.{then-is_only_inside+in_ok-keep, else-is_only_inside}
use Rattle.index_remap.proofs.declaring.items_of.Goals as goal

pub loop-func-preserved : goal.loop-func-preserved
loop-func-preserved c = elim c.if-is_only_inside.branch [
  | then-is_only_inside+in_ok-keep w ↦ item_kept (marked_only c.args.inside.now c.args.outside.now) c.loop-func.func c.loop-func.items c.if-is_only_inside.items c.loop-func.invariant (sym c.is_only_inside.ensures ∙ w.if-is_only_inside.true) (w.items-is ∙ w.in_ok-keep.ensures.ok)
  | else-is_only_inside w ↦ item_left (marked_only c.args.inside.now c.args.outside.now) c.loop-func.func c.loop-func.items c.if-is_only_inside.items c.loop-func.invariant (sym c.is_only_inside.ensures ∙ w.if-is_only_inside.false) w.items-is
]
