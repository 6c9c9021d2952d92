use Rattle.base_lists.proofs.Common.{◌≡◌, ◌∙◌, ap, ◌+◌, Some, slice_get, set, arith, none_past}
use Rattle.eval_spec.specs.Prelude.{is_dropped}
use Rattle.eval_machine.specs.Prelude.{state_in}
use Rattle.eval_snapshot_spec.specs.Snapshot.{segment_left}
use Rattle.eval_snapshot.specs.Names.{left_or_emptied}
use Rattle.eval_snapshot.proofs.Indexed.{written_at, written_more}
use Rattle.eval_snapshot.proofs.left.empty_segments.Goals as goal
use Rattle.eval_snapshot.proofs.left.empty_segments.Goals.{in-Some, in_default}

pub loop-at-preserved : goal.loop-at-preserved
loop-at-preserved c = λ m fits.
    let s = state_in m c.args.machine.now in
    let f = segment_left s in
    let xs = c.args.segments.now in
    let i = c.loop-at.at in
    let inv = c.loop-at.invariant m fits in
    elim c.match-get_mut.branch [
      | in-Some w ↦
          let x = w.in-Some.segment.now in
          let at : Some x ≡ slice_get xs i = w.in-Some.ensures.value ∙ ap (λ ys. slice_get ys i) inv ∙ written_at f 0 xs i in
          let place : i ≡ 0 + i = omega arith in
          w.segments-is ∙ (ap (λ ys. set ys i w.empty_segment.new.segment) inv
          ∙ written_more f 0 xs i x w.empty_segment.new.segment at (w.empty_segment.ensures ∙ ap (λ b. left_or_emptied b x) (w.dropped.ensures m fits ∙ ap (is_dropped s) place)))
      | in_default w ↦ absurd (omega (arith, none_past xs i (w.in_default.ensures.value ∙ ap (λ ys. slice_get ys i) inv ∙ written_at f 0 xs i)))
    ]
