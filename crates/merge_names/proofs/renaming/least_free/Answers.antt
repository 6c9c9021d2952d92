use Rattle.base_lists.proofs.Common.{rules, ◌≡◌, ◌∙◌, sym, ap, inl, inr, ℕ, ◌<◌, ◌+◌, ◌^◌, true, arith, contains_text, cases_eq}
use Rattle.merge_names.specs.Names.{numbered}
use Rattle.merge_names.proofs.Few.{few_held}
use Rattle.merge_names.proofs.renaming.least_free.Goals as goal

pub overflow_add-k : goal.overflow_add-k
overflow_add-k c =
    let fits : c.number.k < 2 ^ 64 = omega arith in
    omega (arith, few_held c.args.taken.now c.args.name.now c.number.k fits c.number.invariant.from_one c.number.invariant.tried, c.requires.few)

pub number-smaller : goal.number-smaller
number-smaller c =
    let fits : c.number.k < 2 ^ 64 = omega arith in
    let before = few_held c.args.taken.now c.args.name.now c.number.k fits c.number.invariant.from_one c.number.invariant.tried in
    let text : c.as_str.result.now ≡ numbered c.args.name.now c.number.k = c.as_str.ensures.value ∙ c.in_ok-new.ensures in
    let here : contains_text c.args.taken.now c.as_str.result.now ≡ true = search rules in
    let now = few_held c.args.taken.now c.args.name.now (c.number.k + 1) (omega (arith, c.requires.few)) (omega arith) (λ j a b. elim (cases_eq j c.number.k) [
      | inl e ↦ ap (λ (n : ℕ). contains_text c.args.taken.now (numbered c.args.name.now n)) e ∙ ap (contains_text c.args.taken.now) (sym text) ∙ here
      | inr ne ↦ c.number.invariant.tried j a (omega arith)
    ]) in
    omega (arith, now)
