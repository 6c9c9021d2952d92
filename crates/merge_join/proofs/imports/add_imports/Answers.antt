use Rattle.base_lists.proofs.Common.{◌∙◌, sym}
use Rattle.merge_spec.specs.Prelude.{named_modules, stays, merged_import}
use Rattle.merge_join.proofs.Staying.{import_more, import_less}
use Rattle.merge_join.proofs.imports.add_imports.Goals as goal
use Rattle.merge_join.proofs.imports.add_imports.Goals.{then-stays+in_ok-merged_import+in_ok-keep, else-stays}

pub loop-place-preserved : goal.loop-place-preserved
loop-place-preserved c =
    let ps = named_modules c.args.joining.now.parts.now in
    elim c.if-stays.branch [
      | then-stays+in_ok-merged_import+in_ok-keep w ↦
          import_more (stays ps) (merged_import ps) c.args.part c.loop-place.place c.args.all.now c.loop-place.all c.if-stays.all w.in_ok-merged_import.field-0 (sym c.stays.ensures ∙ w.if-stays.true) w.in_ok-merged_import.ensures c.loop-place.invariant
          (w.all-is ∙ w.in_ok-keep.ensures.ok)
      | else-stays w ↦ w.all-is ∙ import_less (stays ps) (merged_import ps) c.args.part c.loop-place.place c.args.all.now c.loop-place.all (sym c.stays.ensures ∙ w.if-stays.false) c.loop-place.invariant
    ]
