use Rattle.std.proofs.Common.{ap, sym, ◌∙◌, map, arith, ◌++◌, ◌∷◌, [], ◌+◌}
use Rattle.base_lists.specs.Places.{numbers}
use Rattle.base_kept.specs.Kept.{kept_before}
use Rattle.base_kept.proofs.Laws.{before_most, one_marked, none_marked, places_more}
use Rattle.base_kept.proofs.places.new_places.Goals as goal
use Rattle.base_kept.proofs.places.new_places.Goals.{then-is_marked, else-is_marked}

-- src/places.rt:20:13
pub overflow_add-count : goal.overflow_add-count
overflow_add-count c =
    let most = before_most c.args.marks.now c.loop-is_marked.is_marked-index in
    let count = c.loop-is_marked.invariant.count in
    let few = c.requires in
    let here = c.loop-is_marked-test.true in
    omega (arith, most, count, few, here)

-- src/places.rt:17:5
pub loop-is_marked-preserved : goal.loop-is_marked-preserved
loop-is_marked-preserved c =
    let marks = c.args.marks.now in
    let n = c.loop-is_marked.is_marked-index in
    let i = c.loop-is_marked.invariant in
    record {
      all = c.in_ok-keep.ensures.ok ∙ ap (λ xs. xs ++ c.loop-is_marked.count ∷ []) i.all ∙ ap (λ x. map (kept_before marks) (numbers 0 n) ++ x ∷ []) i.count ∙ sym (places_more marks n);
      count = elim c.if-is_marked.branch [
        | then-is_marked w ↦ w.count-is ∙ ap (λ x. x + 1) i.count ∙ sym (one_marked marks n w.if-is_marked.true)
        | else-is_marked w ↦ w.count-is ∙ i.count ∙ sym (none_marked marks n w.if-is_marked.false)
      ];
    }
