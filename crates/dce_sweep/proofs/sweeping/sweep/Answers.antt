use Rattle.std.proofs.Common.{◌∙◌, ap, sym, subst, inr, Ok}
use Rattle.wasm_tree.specs.Bounds.{IsBounded}
use Rattle.wasm_valid.specs.Validity.{IsValid}
use Rattle.module_limits.specs.Counts.{over_limit}
use Rattle.dce_proof.specs.SweptModuleEquivalence.{ObservationallyEquivalent}
use Rattle.dce_spec.specs.Swept.{swept}
use Rattle.dce_spec.specs.Reached.{marks_of}
use Rattle.dce_sweep.specs.Sweeps.{outcome}
use Rattle.dce_sweep.proofs.Parts.{left_is}
use Rattle.dce_sweep.proofs.sweeping.sweep.Goals as goal

-- src/sweeping.rt:58:20
pub known-requires-clause-valid : goal.known-requires-clause-valid
known-requires-clause-valid c =
    let k = marks_of c.args.marks.now in
    let left = left_is k c.args.input c.into_module.result c.in_ok-module.module c.declare_refs.new.module c.in_ok-declare_refs.ensures.ok c.in_ok-module.ensures c.into_module.ensures.value in
    let valid = subst IsValid c.into_module.ensures.value c.into_module.ensures.valid in
    subst IsValid (sym left) (c.swept_modules_are_valid.ensures.valid k c.args.input valid c.requires.closed)

-- src/sweeping.rt:58:20
pub known-requires-clause-bounded : goal.known-requires-clause-bounded
known-requires-clause-bounded c =
    let k = marks_of c.args.marks.now in
    let left = left_is k c.args.input c.into_module.result c.in_ok-module.module c.declare_refs.new.module c.in_ok-declare_refs.ensures.ok c.in_ok-module.ensures c.into_module.ensures.value in
    let valid = subst IsValid c.into_module.ensures.value c.into_module.ensures.valid in
    let bounded = subst IsBounded c.into_module.ensures.value c.into_module.ensures.bounded in
    subst IsBounded (sym left) (c.swept_modules_are_valid.ensures.bounded k c.args.input valid c.requires.closed bounded (sym (ap over_limit left) ∙ sym c.over_limit.ensures ∙ c.in-None.is))

-- src/sweeping.rt:47:1
pub returns-in-Some-clause-fault : goal.returns-in-Some-clause-fault
returns-in-Some-clause-fault c =
    let k = marks_of c.args.marks.now in
    let left = left_is k c.args.input c.into_module.result c.in_ok-module.module c.declare_refs.new.module c.in_ok-declare_refs.ensures.ok c.in_ok-module.ensures c.into_module.ensures.value in
    inr (ap (λ o. outcome o (swept k c.args.input)) (sym (ap over_limit left) ∙ sym c.over_limit.ensures ∙ c.in-Some.is))

-- src/sweeping.rt:47:1
pub returns-in-None-clause-swept : goal.returns-in-None-clause-swept
returns-in-None-clause-swept c =
    let k = marks_of c.args.marks.now in
    let left = left_is k c.args.input c.into_module.result c.in_ok-module.module c.declare_refs.new.module c.in_ok-declare_refs.ensures.ok c.in_ok-module.ensures c.into_module.ensures.value in
    ap (λ o. outcome o (swept k c.args.input)) (sym (ap over_limit left) ∙ sym c.over_limit.ensures ∙ c.in-None.is) ∙ ap Ok (sym left ∙ sym c.known.ensures)

-- src/sweeping.rt:47:1
pub returns-in-None-clause-behaves : goal.returns-in-None-clause-behaves
returns-in-None-clause-behaves c =
    let k = marks_of c.args.marks.now in
    let left = left_is k c.args.input c.into_module.result c.in_ok-module.module c.declare_refs.new.module c.in_ok-declare_refs.ensures.ok c.in_ok-module.ensures c.into_module.ensures.value in
    let valid = subst IsValid c.into_module.ensures.value c.into_module.ensures.valid in
    subst (ObservationallyEquivalent k c.args.input) (sym left ∙ sym c.known.ensures) (c.swept_module_equivalent.ensures k c.args.input valid c.requires.closed)
