use Rattle.base_lists.proofs.Common.{◌≡◌, Some, slice_get, set, arith, ap, ◌∙◌, sym, list_all_each, part_at, part_more, none_past}
use Rattle.index_remap.proofs.in_place.rewrite_each.Goals as goal
use Rattle.index_remap.proofs.in_place.rewrite_each.Goals.{in-Some, in_default}

pub rewrite-requires : goal.rewrite-requires
rewrite-requires g c =
    let f = g.T.Renumber.renewed c.args.entries.now in
    let xs = c.args.items.now in
    let i = c.loop-at.at in
    record { fits = list_all_each (g.T.Renumber.has_entries c.args.entries.now) xs c.requires.fits i _ (sym (c.in-Some.ensures.value ∙ ap (λ ys. slice_get ys i) c.loop-at.invariant ∙ part_at f xs i)) }

pub loop-at-preserved : goal.loop-at-preserved
loop-at-preserved g c =
    let f = g.T.Renumber.renewed c.args.entries.now in
    let xs = c.args.items.now in
    let i = c.loop-at.at in
    elim c.match-get_mut.branch [
      | in-Some w ↦
          let at : Some w.in-Some.item.now ≡ slice_get xs i = w.in-Some.ensures.value ∙ ap (λ ys. slice_get ys i) c.loop-at.invariant ∙ part_at f xs i in
          w.items-is ∙ ap (set c.loop-at.items i) w.rewrite.ensures ∙ ap (λ ys. set ys i (f w.in-Some.item.now)) c.loop-at.invariant ∙ part_more f xs i _ at
      | in_default w ↦ absurd (omega (arith, none_past xs i (w.in_default.ensures.value ∙ ap (λ ys. slice_get ys i) c.loop-at.invariant ∙ part_at f xs i)))
    ]
