use Rattle.base_lists.proofs.Common.{◌≡◌, refl, sym, ap, ap₂, subst, ◌∙◌, ◌⊎◌, Option, Some, ℕ, List, [], ◌∷◌, IfErr, IfOk, option_map, option_or}
use Rattle.wasm_tree_spec.specs.Prelude.{Module}
use Rattle.module_limits.specs.Counts.{over_limit}
use Rattle.split_spec.specs.declared.faults.SplitFault.{SplitFault}
use Rattle.split_spec.specs.declared.faults.SplitFault.TheVariants.{NoMemory, TooMany}
use Rattle.split_slots.specs.declared.module_pair.Pair.{Pair}
use Rattle.split_proof.specs.SplitLaws.{AlwaysLoads, ObservationallyEquivalent, most_params}
use Rattle.split_proof.specs.SplitWorlds.{pair_in_place}
use Rattle.split_slots.proofs.PairBehaviour.{can_be_split, of_pair}
use Rattle.split_slots.proofs.RenumberedModules.{can_finish_primary, can_finish_secondary, made_primary, made_secondary}
use Rattle.split_slots.proofs.FirstFaults.{built_last}
use Rattle.split_slots.proofs.module_pair.pair_of.Goals as goal

pub finish_both-requires-clause-primary : goal.finish_both-requires-clause-primary
finish_both-requires-clause-primary c =
    let names = c.args.names.now in
    let m = c.args.module in
    let moved = c.args.moved.now in
    let may = c.in_ok-drafts.ensures.none refl in
    let namespace : ℕ → List ℕ = λ slot. names.placeholder_namespace in
    can_finish_primary names m moved c.in_ok-drafts.drafts c.in_ok-drafts.ensures.drafts may.few (c.split_modules_are_counted.ensures.primary namespace names.export_prefix m moved c.requires.valid c.requires.can)
    (c.maps_of_a_split_fit.ensures.primary namespace names.export_prefix m moved c.requires.valid c.requires.can)
    (c.primary_modules_are_valid.ensures.valid namespace names.export_prefix m moved c.requires.valid c.requires.bounded c.requires.can may.prefix)
    (c.primary_modules_are_valid.ensures.bounded namespace names.export_prefix m moved c.requires.valid c.requires.bounded c.requires.can)

pub finish_both-requires-clause-secondary : goal.finish_both-requires-clause-secondary
finish_both-requires-clause-secondary c =
    let names = c.args.names.now in
    let m = c.args.module in
    let moved = c.args.moved.now in
    let may = c.in_ok-drafts.ensures.none refl in
    can_finish_secondary names m moved c.in_ok-drafts.drafts c.in_ok-drafts.ensures.drafts may.few (c.split_modules_are_counted.ensures.secondary names m moved moved 0 c.requires.valid c.requires.can)
    (c.maps_of_a_split_fit.ensures.secondary names m moved moved 0 c.requires.valid c.requires.can)
    (c.secondary_modules_are_valid.ensures.valid names m moved moved 0 c.requires.valid c.requires.can)
    (c.secondary_modules_are_valid.ensures.bounded names m moved moved 0 c.requires.valid c.requires.bounded c.requires.can)

pub returns-clause-primary : goal.returns-clause-primary
returns-clause-primary c =
    subst (λ (t : Module). IfOk c.finish_both.result (λ (pair : Pair). pair.primary ≡ t)) (made_primary c.args.names.now c.args.module c.args.moved.now c.in_ok-drafts.drafts c.in_ok-drafts.ensures.drafts) c.finish_both.ensures.primary

pub returns-clause-secondary : goal.returns-clause-secondary
returns-clause-secondary c =
    subst (λ (t : Module). IfOk c.finish_both.result (λ (pair : Pair). pair.secondary ≡ t)) (made_secondary c.args.names.now c.args.module c.args.moved.now c.in_ok-drafts.drafts c.in_ok-drafts.ensures.drafts) c.finish_both.ensures.secondary

pub returns-clause-none : goal.returns-clause-none
returns-clause-none c ok =
    let names = c.args.names.now in
    let m = c.args.module in
    let moved = c.args.moved.now in
    let d = c.in_ok-drafts.drafts in
    let are = c.in_ok-drafts.ensures.drafts in
    let both = ap₂ (λ (a b : Module). option_or (over_limit a) (over_limit b)) (made_primary names m moved d are) (made_secondary names m moved d are) in
    built_last names m moved (c.in_ok-drafts.ensures.none refl) ∙ ap (option_map TooMany) (sym both ∙ c.finish_both.ensures.none ok)

pub returns-clause-fault : goal.returns-clause-fault
returns-clause-fault c =
    let names = c.args.names.now in
    let m = c.args.module in
    let moved = c.args.moved.now in
    let d = c.in_ok-drafts.drafts in
    let are = c.in_ok-drafts.ensures.drafts in
    let both = ap₂ (λ (a b : Module). option_or (over_limit a) (over_limit b)) (made_primary names m moved d are) (made_secondary names m moved d are) in
    subst (λ (o : Option SplitFault). IfErr c.finish_both.result (λ (e : SplitFault). (e ≡ NoMemory) ⊎ (o ≡ Some e)))
    (ap (option_map TooMany) both ∙ sym (built_last names m moved (c.in_ok-drafts.ensures.none refl))) c.finish_both.ensures.fault

pub returns-clause-equivalent : goal.returns-clause-equivalent
returns-clause-equivalent c =
    let names = c.args.names.now in
    let m = c.args.module in
    let moved = c.args.moved.now in
    let namespace : ℕ → List ℕ = λ slot. names.placeholder_namespace in
    of_pair (λ first second. ObservationallyEquivalent m (pair_in_place names m moved first second) (most_params m moved)) c.finish_both.result (returns-clause-primary c) (returns-clause-secondary c)
    (c.split_module_equivalent.ensures.equivalent namespace names m moved (moved ∷ []) (can_be_split c.pairs_can_be_split.ensures names m moved c.requires.valid c.requires.bounded c.requires.can c.requires.ascend (c.in_ok-drafts.ensures.none refl)))

pub returns-clause-loads : goal.returns-clause-loads
returns-clause-loads c =
    let names = c.args.names.now in
    let m = c.args.module in
    let moved = c.args.moved.now in
    let namespace : ℕ → List ℕ = λ slot. names.placeholder_namespace in
    of_pair (λ first second. AlwaysLoads (pair_in_place names m moved first second)) c.finish_both.result (returns-clause-primary c) (returns-clause-secondary c)
    (c.secondary_modules_load.ensures.always namespace names m moved (moved ∷ []) (can_be_split c.pairs_can_be_split.ensures names m moved c.requires.valid c.requires.bounded c.requires.can c.requires.ascend (c.in_ok-drafts.ensures.none refl)))
