use Rattle.base_lists.proofs.Common.{◌≡◌, refl, sym, ap, ap₂, subst, ◌∙◌, ◌⊎◌, inl, inr, ⊎_elim, ℕ, List, Option, None, Some, Result, Ok, Err, IfErr, IfOk, IsOk}
use Rattle.wasm_tree_spec.specs.Prelude.{Module}
use Rattle.split_proof.specs.SplitLaws.{AlwaysLoads, ObservationallyEquivalent, most_params}
use Rattle.split_proof.specs.SplitWorlds.{pair_in_place}
use Rattle.split_slots.specs.declared.module_pair.Pair.{Pair}
use Rattle.split_spec.specs.declared.faults.SplitFault.{SplitFault}
use Rattle.split_spec.specs.declared.faults.SplitFault.TheVariants.{NoMemory}
use Rattle.split_spec.specs.Prelude.{split_fault}
use Rattle.split_slots.proofs.module_pair.split.Goals as goal

-- Where there is a fault, the result is this fault or the lack of memory.
first_told : {A : Type 0} (r : Result A SplitFault) (o : Option SplitFault) → (IsOk r → o ≡ None) → IfErr r (λ e. (e ≡ NoMemory) ⊎ (o ≡ Some e)) → (e : SplitFault) → o ≡ Some e →
    (r ≡ Err e) ⊎ (r ≡ Err NoMemory)
first_told (Ok v) o none fault e is = absurd (let gone : None ≡ Some e = sym (none refl) ∙ is in cc)
first_told (Err f) o none fault e is = ⊎_elim (λ h. inr (ap Err h)) (λ h. inl (let both : Some f ≡ Some e = sym h ∙ is in let same : f ≡ e = cc in ap Err same)) fault

pub returns-clause-none : goal.returns-clause-none
returns-clause-none c ok = sym (ap₂ (λ m xs. split_fault c.args.names.now m xs) c.into_module.ensures.value c.as_slice.ensures) ∙ c.pair_of.ensures.none ok

pub returns-clause-fault : goal.returns-clause-fault
returns-clause-fault c =
    subst (λ (o : Option SplitFault). IfErr c.pair_of.result (λ e. (e ≡ NoMemory) ⊎ (o ≡ Some e))) (ap₂ (λ m xs. split_fault c.args.names.now m xs) c.into_module.ensures.value c.as_slice.ensures) c.pair_of.ensures.fault

pub returns-clause-first : goal.returns-clause-first
returns-clause-first c e is =
    let same = ap₂ (λ m xs. split_fault c.args.names.now m xs) c.into_module.ensures.value c.as_slice.ensures in
    first_told c.pair_of.result (split_fault c.args.names.now c.into_module.result c.as_slice.result.now) c.pair_of.ensures.none c.pair_of.ensures.fault e (same ∙ is)

pub returns-clause-equivalent : goal.returns-clause-equivalent
returns-clause-equivalent c =
    let names = c.args.names.now in
    let result = c.pair_of.result in
    subst (λ (xs : List ℕ). IfOk result (λ (pair : Pair). ObservationallyEquivalent c.args.input (pair_in_place names c.args.input xs pair.primary pair.secondary) (most_params c.args.input xs))) c.as_slice.ensures
    (subst (λ (m : Module). IfOk result (λ (pair : Pair). ObservationallyEquivalent m (pair_in_place names m c.as_slice.result.now pair.primary pair.secondary) (most_params m c.as_slice.result.now))) c.into_module.ensures.value c.pair_of.ensures.equivalent)

pub returns-clause-loads : goal.returns-clause-loads
returns-clause-loads c =
    let names = c.args.names.now in
    let result = c.pair_of.result in
    subst (λ (xs : List ℕ). IfOk result (λ (pair : Pair). AlwaysLoads (pair_in_place names c.args.input xs pair.primary pair.secondary))) c.as_slice.ensures
    (subst (λ (m : Module). IfOk result (λ (pair : Pair). AlwaysLoads (pair_in_place names m c.as_slice.result.now pair.primary pair.secondary))) c.into_module.ensures.value c.pair_of.ensures.loads)
