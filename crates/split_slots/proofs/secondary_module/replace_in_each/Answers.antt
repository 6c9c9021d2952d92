use Rattle.base_lists.proofs.Common.{◌≡◌, Some, slice_get, set, arith, ap, ◌∙◌, none_past, part_at, part_more}
use Rattle.split_slots.specs.DividedDefinitions.{own_func}
use Rattle.split_slots.proofs.secondary_module.replace_in_each.Goals as goal
use Rattle.split_slots.proofs.secondary_module.replace_in_each.Goals.{in-Some+in_ok-replace_in, in_default}

pub loop-at-preserved : goal.loop-at-preserved
loop-at-preserved c =
    let f = own_func c.args.calls.now in
    let xs = c.args.own.now in
    let i = c.loop-at.at in
    elim c.match-get_mut.branch [
      | in-Some+in_ok-replace_in w ↦
          let at : Some w.in-Some.func.now ≡ slice_get xs i = w.in-Some.ensures.value ∙ ap (λ ys. slice_get ys i) c.loop-at.invariant ∙ part_at f xs i in
          w.own-is ∙ ap (set c.loop-at.own i) w.in_ok-replace_in.ensures ∙ ap (λ ys. set ys i (f w.in-Some.func.now)) c.loop-at.invariant ∙ part_more f xs i _ at
      | in_default w ↦ absurd (omega (arith, none_past xs i (w.in_default.ensures.value ∙ ap (λ ys. slice_get ys i) c.loop-at.invariant ∙ part_at f xs i), c.loop-at-test.true, c.len-at-end.ensures))
    ]
