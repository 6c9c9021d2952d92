use Rattle.base_lists.proofs.Common.{◌≡◌, ◌∙◌, sym, ap, subst, inl, inr, Some, arith, cases_eq}
use Rattle.wasm_tree_spec.specs.Prelude.{IsBounded}
use Rattle.wasm_valid.specs.Prelude.{IsValid}
use Rattle.wasm_meaning.specs.Prelude.{module_at}
use Rattle.merge_spec.specs.Prelude.{named_modules}
use Rattle.merge_join.proofs.ByPart.{part_there}
use Rattle.merge_join.proofs.linked.parts_hold.Goals as goal

pub loop-part-preserved : goal.loop-part-preserved
loop-part-preserved c = λ p m lt at. elim (cases_eq p c.loop-part.part) [
  | inl e ↦
      let there : Some c.module_of-module.result.now ≡ Some m = sym c.module_of-module.ensures.at ∙ ap (module_at (named_modules c.args.parts.now)) (sym e) ∙ at in
      let same : c.module_of-module.result.now ≡ m = cc in
      (subst IsValid same c.module_of-module.ensures.valid, subst IsBounded same c.module_of-module.ensures.bounded)
  | inr ne ↦ c.loop-part.invariant p m (omega arith) at
]

pub returns : goal.returns
returns c = λ p m at. c.loop-part.invariant p m (omega (arith, part_there c.args.parts.now p m at)) at
