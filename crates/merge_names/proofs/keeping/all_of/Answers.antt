use Rattle.base_lists.proofs.Common.{◌≡◌, ◌∙◌, ◌+◌, ◌++◌, ◌∷◌, [], sym, ap, Bool, true, false, cond, Some, slice_get, take, drop, arith, bytes_eq, length-map}
use Rattle.merge_names.specs.Names.{among, conflict_behind}
use Rattle.merge_names.specs.Given.{texts}
use Rattle.merge_names.proofs.Among.{among_next}
use Rattle.merge_names.proofs.Loops.{conflict_next, conflict_last, made_more}
use Rattle.merge_names.proofs.keeping.all_of.Goals as goal

pub loop-place-preserved : goal.loop-place-preserved
loop-place-preserved c =
    let names = texts c.args.names.now in
    let i = c.loop-place.place in
    let name = c.text_at-name.result.now in
    let at : slice_get names i ≡ Some name = c.text_at-name.ensures in
    let fresh : among (take i names) name ≡ false = sym (c.in_ok-comes_again.ensures.again ∙ c.loop-place.invariant.came name) ∙ c.if-branch.false in
    record {
      came = λ q. c.in_ok-comes_again.ensures.noted q ∙ ap (cond (bytes_eq name q) true) (c.loop-place.invariant.came q) ∙ sym (among_next names i name q at);
      made = c.in_ok-keep.ensures.ok ∙ ap (λ x. c.loop-place.all ++ Some x ∷ []) c.in_ok-from_text.ensures ∙ ap (λ x. x ++ Some name ∷ []) c.loop-place.invariant.made ∙ sym (made_more names i name at);
      ahead = c.loop-place.invariant.ahead ∙ conflict_next names i name at ∙ ap (λ (b : Bool). cond b (Some i) (conflict_behind (take (i + 1) names) (drop (i + 1) names))) fresh;
    }

pub returns-then-branch-clause-conflict : goal.returns-then-branch-clause-conflict
returns-then-branch-clause-conflict c =
    let names = texts c.args.names.now in
    let i = c.loop-place.place in
    let name = c.text_at-name.result.now in
    let came : among (take i names) name ≡ true = sym (c.in_ok-comes_again.ensures.again ∙ c.loop-place.invariant.came name) ∙ c.if-branch.true in
    c.loop-place.invariant.ahead ∙ conflict_next names i name c.text_at-name.ensures ∙ ap (λ (b : Bool). cond b (Some i) (conflict_behind (take (i + 1) names) (drop (i + 1) names))) came

pub returns-clause-distinct : goal.returns-clause-distinct
returns-clause-distinct c = λ _.
    let names = texts c.args.names.now in
    c.loop-place.invariant.ahead ∙ conflict_last names c.loop-place.place (omega (arith, length-map c.args.names.now (λ n. n.now)))
