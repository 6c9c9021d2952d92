use Rattle.base_lists.proofs.Common.{◌≡◌, Some, slice_get, set, arith, ap, ◌∙◌, part_at, part_more, none_past}
use Rattle.dce_spec.specs.Swept.{kept_elem}
use Rattle.dce_spec.specs.Reached.{marks_of}
use Rattle.dce_sweep.proofs.kept.keep_declared.Goals as goal
use Rattle.dce_sweep.proofs.kept.keep_declared.Goals.{in-Some+in_ok-keep_items, in_default}

pub loop-at-preserved : goal.loop-at-preserved
loop-at-preserved c =
    let f = kept_elem (marks_of c.args.marks.now) in
    let xs = c.args.elems.now in
    let i = c.loop-at.at in
    elim c.match-get_mut.branch [
      | in-Some+in_ok-keep_items w ↦
          let at : Some w.in-Some.elem.now ≡ slice_get xs i = w.in-Some.ensures.value ∙ ap (λ ys. slice_get ys i) c.loop-at.invariant ∙ part_at f xs i in
          w.elems-is ∙ ap (set c.loop-at.elems i) w.in_ok-keep_items.ensures ∙ ap (λ ys. set ys i (f w.in-Some.elem.now)) c.loop-at.invariant ∙ part_more f xs i _ at
      | in_default w ↦ absurd (omega (arith, none_past xs i (w.in_default.ensures.value ∙ ap (λ ys. slice_get ys i) c.loop-at.invariant ∙ part_at f xs i)))
    ]
