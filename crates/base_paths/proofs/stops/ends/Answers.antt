use Rattle.base_lists.proofs.Common.{rules, ◌≡◌, ◌∙◌, ap, sym, refl, ℕ, ◌<◌, Some, None, length, slice_get, arith, List, Option, get_or, slice_get-get_or, slice_get_read, slice_get_within}
use Rattle.base_paths.proofs.Marks.{all_more, ends_more, marked_end, IsMarked}
use Rattle.base_paths.proofs.Ended.{ends_told}
use Rattle.base_paths.proofs.stops.ends.Goals as goal
use Rattle.base_paths.proofs.stops.ends.Goals.{in-Some, in-None}

pub loop-start-preserved : goal.loop-start-preserved
loop-start-preserved c =
    let i = c.loop-start.invariant in
    record {
      sizes = c.walk-answer.ensures.sizes;
      count = search rules;
      marked = rw c.in_ok-push.ensures.items c.walk-answer.ensures.marked;
      all = all_more _ _ _ i.all c.walk-answer.ensures.keeps c.walk-answer.ensures.taken;
    }

pub loop-mark-preserved : goal.loop-mark-preserved
loop-mark-preserved c =
    let i = c.loop-mark.invariant in
    let marks = c.loop-start.marks.items in
    let at = c.loop-mark.mark-index in
    let within : at < length marks = search rules in
    let same = c.deref-mark-items.ensures.value in
    record {
      count = search rules;
      right = rw c.in_ok-push-2.ensures.items (ends_more _ _ _ _ i.count i.right (elim c.match-mark.branch [
        | in-Some w ↦
            let m : slice_get marks at ≡ Some (Some w.in-Some.walk) = slice_get-get_or marks at None within ∙ ap Some (ap (λ (xs : List (Option ℕ)). get_or xs at None) (sym same) ∙ w.in-Some.is) in
            let k = c.loop-start.invariant.marked at w.in-Some.walk m in
            let a : slice_get c.loop-start.answers.items w.in-Some.walk ≡ Some c.match-mark.end =
            slice_get_read c.loop-start.answers.items (length c.loop-start.answers.items) w.in-Some.walk w.index.result.now refl (slice_get_within c.loop-start.answers.items w.in-Some.walk k.0 k.1) w.index.ensures ∙ ap Some (sym w.end-is) in
            marked_end _ _ _ at w.in-Some.walk _ c.loop-start.invariant.marked m a
        | in-None w ↦
            let none : slice_get marks at ≡ Some None = slice_get-get_or marks at None within ∙ ap Some (ap (λ (xs : List (Option ℕ)). get_or xs at None) (sym same) ∙ w.in-None.is) in
            let some : IsMarked marks at = c.loop-start.invariant.all at (let z = c.loop-start.invariant.sizes in omega arith) in
            absurd (let both : Some None ≡ Some (Some some.0) = sym none ∙ some.1 in cc)
      ]));
    }

pub returns-clause-told : goal.returns-clause-told
returns-clause-told c = ends_told c.args.steps.now c.loop-mark.ends.items (omega (arith, c.loop-mark.invariant.count, c.loop-start.invariant.sizes, c.deref-mark-items.ensures.len)) c.loop-mark.invariant.right
