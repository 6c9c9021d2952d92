use Rattle.base_lists.proofs.Common.{◌≡◌, ◌∙◌, ap, Some, slice_get, set, arith, none_past}
use Rattle.std.specs.Prelude.{unwrap_or}
use Rattle.eval_machine.specs.Prelude.{state_in}
use Rattle.eval_snapshot_spec.specs.Snapshot.{global_left}
use Rattle.eval_snapshot.proofs.Indexed.{written_at, written_more}
use Rattle.eval_snapshot.proofs.left.initialise_globals.Goals as goal
use Rattle.eval_snapshot.proofs.left.initialise_globals.Goals.{in-Some+in-Some-global_value, in-Some+in_default-global_value, in_default}

pub loop-at-preserved : goal.loop-at-preserved
loop-at-preserved c = λ m fits.
    let f = global_left m (state_in m c.args.machine.now) in
    let n = c.args.imported in
    let xs = c.args.globals.now in
    let i = c.loop-at.at in
    let inv = c.loop-at.invariant m fits in
    elim c.match-get_mut.branch [
      | in-Some+in-Some-global_value w ↦
          let x = w.in-Some.global.now in
          let at : Some x ≡ slice_get xs i = w.in-Some.ensures.value ∙ ap (λ ys. slice_get ys i) inv ∙ written_at f n xs i in
          w.globals-is ∙ (ap (λ ys. set ys i (record x { init = w.in-Some-global_value.constant })) inv
          ∙ written_more f n xs i x (record x { init = w.in-Some-global_value.constant }) at (ap (λ o. record x { init = unwrap_or o x.init }) (w.in-Some-global_value.ensures m fits)))
      | in-Some+in_default-global_value w ↦
          let x = w.in-Some.global.now in
          let at : Some x ≡ slice_get xs i = w.in-Some.ensures.value ∙ ap (λ ys. slice_get ys i) inv ∙ written_at f n xs i in
          w.globals-is ∙ (ap (λ ys. set ys i x) inv ∙ written_more f n xs i x x at (ap (λ o. record x { init = unwrap_or o x.init }) (w.in_default-global_value.ensures m fits)))
      | in_default w ↦ absurd (omega (arith, none_past xs i (w.in_default.ensures.value ∙ ap (λ ys. slice_get ys i) inv ∙ written_at f n xs i)))
    ]
