use Rattle.base_lists.proofs.Common.{◌∙◌, sym, ap, ◌+◌, ◌++◌, ◌∷◌, [], append_assoc, numbers_more}
use Rattle.base_lists.specs.Places.{numbers}
use Rattle.base_kept.proofs.places.add_numbers.Goals as goal

pub loop-at-preserved : goal.loop-at-preserved
loop-at-preserved c =
    let old = c.args.all.now in
    let first = c.args.first in
    let i = c.loop-at.at in
    c.in_ok-keep.ensures.ok ∙ ap (λ xs. xs ++ (first + i) ∷ []) c.loop-at.invariant ∙ append_assoc old (numbers first i) ((first + i) ∷ []) ∙ ap (λ xs. old ++ xs) (sym (numbers_more first i))
