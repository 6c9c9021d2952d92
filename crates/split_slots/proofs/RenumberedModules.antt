-- The modules of a split after they are renumbered to their own indices.
use Rattle.base_lists.proofs.Common.{◌≡◌, ℕ, ◌+◌, ◌<◌, ◌≤◌, ◌^◌, arith, List, length, None, sym, ap, ap₂, ◌∙◌, subst, IsTrue}
use Rattle.wasm_tree_spec.specs.Prelude.{IsBounded, Module, funcs_of}
use Rattle.wasm_valid.specs.Prelude.{IsValid}
use Rattle.index_remap.specs.Prelude.{declared, fits_tree, renumbered_tree}
use Rattle.module_limits.specs.Counts.{over_limit}
use Rattle.split_spec.specs.declared.names.SplitNames.{SplitNames}
use Rattle.split_spec.specs.Prelude.{primary, primary_map, primary_tree, secondary, secondary_map, secondary_tree}
use Rattle.split_spec.specs.Primary.{primary_with}
use Rattle.split_spec.specs.Secondary.{secondary_with}
use Rattle.split_slots.specs.declared.module_drafts.Drafts.{Drafts}
use Rattle.split_slots.specs.SurveysAndDrafts.{AreDrafts, CanFinish, FewFuncs, made}

-- ---- what is made ----

pub made_primary : (names : SplitNames) (m : Module) (moved : List ℕ) (d : Drafts) → AreDrafts names m moved d → made d.primary ≡ primary names m moved
unfolding primary_with
made_primary names m moved d are = ap₂ (λ r t. declared (renumbered_tree r t)) are.primary_map_is are.primary

pub made_secondary : (names : SplitNames) (m : Module) (moved : List ℕ) (d : Drafts) → AreDrafts names m moved d → made d.secondary ≡ secondary names m moved
unfolding secondary_with
made_secondary names m moved d are = ap₂ (λ r t. declared (renumbered_tree r t)) are.secondary_map_is are.secondary

pub can_finish_primary : (names : SplitNames) (m : Module) (moved : List ℕ) (d : Drafts) → AreDrafts names m moved d → FewFuncs m moved →
    length (funcs_of (renumbered_tree (primary_map m moved) (primary_tree (λ slot. names.placeholder_namespace) names.export_prefix m moved))) ≤ length (funcs_of m) + length moved →
    IsTrue (fits_tree (primary_map m moved) (primary_tree (λ slot. names.placeholder_namespace) names.export_prefix m moved)) → IsValid (primary names m moved) →
    (over_limit (primary names m moved) ≡ None → IsBounded (primary names m moved)) → CanFinish d.primary
can_finish_primary names m moved d are few most fits valid bounded =
    let e = made_primary names m moved d are in
    record {
      fits = subst IsTrue (sym (ap₂ fits_tree are.primary_map_is are.primary)) fits;
      few = subst (λ n. n < 2 ^ 32) (sym (ap₂ (λ r t. length (funcs_of (renumbered_tree r t))) are.primary_map_is are.primary)) (omega (arith, few, most));
      valid = λ none. subst IsValid (sym e) valid;
      bounded = λ none. subst IsBounded (sym e) (bounded (sym (ap over_limit e) ∙ none));
    }

pub can_finish_secondary : (names : SplitNames) (m : Module) (moved : List ℕ) (d : Drafts) → AreDrafts names m moved d → FewFuncs m moved →
    length (funcs_of (renumbered_tree (secondary_map m moved moved) (secondary_tree names m moved moved 0))) ≤ length (funcs_of m) + length moved →
    IsTrue (fits_tree (secondary_map m moved moved) (secondary_tree names m moved moved 0)) → IsValid (secondary names m moved) →
    (over_limit (secondary names m moved) ≡ None → IsBounded (secondary names m moved)) → CanFinish d.secondary
can_finish_secondary names m moved d are few most fits valid bounded =
    let e = made_secondary names m moved d are in
    record {
      fits = subst IsTrue (sym (ap₂ fits_tree are.secondary_map_is are.secondary)) fits;
      few = subst (λ n. n < 2 ^ 32) (sym (ap₂ (λ r t. length (funcs_of (renumbered_tree r t))) are.secondary_map_is are.secondary)) (omega (arith, few, most));
      valid = λ none. subst IsValid (sym e) valid;
      bounded = λ none. subst IsBounded (sym e) (bounded (sym (ap over_limit e) ∙ none));
    }
