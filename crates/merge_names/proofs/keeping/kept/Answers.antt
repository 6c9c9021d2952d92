use Rattle.base_lists.proofs.Common.{◌≡◌, ◌∙◌, sym, ap, ◌+◌, ◌++◌, ◌∷◌, [], Bool, true, cond, List, ℕ, Option, Some, None, slice_get, take, drop, arith, append_assoc, append-nil, bytes_eq, length-map}
use Rattle.merge_names.specs.Names.{among, kept_behind}
use Rattle.merge_names.specs.Given.{texts}
use Rattle.merge_names.proofs.Among.{among_next}
use Rattle.merge_names.proofs.Loops.{kept_next, kept_last}
use Rattle.merge_names.proofs.keeping.kept.Goals as goal

pub loop-place-preserved : goal.loop-place-preserved
loop-place-preserved c =
    let names = texts c.args.names.now in
    let i = c.loop-place.place in
    let name = c.text_at-name.result.now in
    let at : slice_get names i ≡ Some name = c.text_at-name.ensures in
    let rest = kept_behind (take (i + 1) names) (drop (i + 1) names) in
    let is : c.in_ok-unless.field-0 ≡ cond (among (take i names) name) None (Some name) =
    c.in_ok-unless.ensures ∙ ap (λ (b : Bool). cond b None (Some name)) (c.in_ok-again.ensures.again ∙ c.loop-place.invariant.came name) in
    record {
      came = λ q. c.in_ok-again.ensures.noted q ∙ ap (cond (bytes_eq name q) true) (c.loop-place.invariant.came q) ∙ sym (among_next names i name q at);
      ahead = c.loop-place.invariant.ahead ∙ ap (λ x. c.loop-place.all ++ x) (kept_next names i name at ∙ ap (λ (x : Option (List ℕ)). x ∷ rest) (sym is)) ∙ sym (append_assoc c.loop-place.all (c.in_ok-unless.field-0 ∷ []) rest) ∙ ap (λ x. x ++ rest) (sym c.in_ok-keep.ensures.ok);
    }

pub returns-clause-kept : goal.returns-clause-kept
returns-clause-kept c =
    let names = texts c.args.names.now in
    sym (c.loop-place.invariant.ahead ∙ ap (λ x. c.loop-place.all ++ x) (kept_last names c.loop-place.place (omega (arith, length-map c.args.names.now (λ n. n.now)))) ∙ append-nil c.loop-place.all)
