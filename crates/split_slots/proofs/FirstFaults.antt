-- The faults of a split that are reported before anything is built, and those that are reported of
-- the built modules.
use Rattle.base_lists.proofs.Common.{◌≡◌, ℕ, ◌+◌, Bool, true, false, List, cond, length, nat_lt, Some, None, refl, ap, ◌∙◌, option_map, option_or}
use Rattle.wasm_tree_spec.specs.Prelude.{Which, Module, limit}
use Rattle.wasm_tree.specs.declared.which.Which.TheVariants as which
use Rattle.module_limits.specs.Counts.{over_limit}
use Rattle.split_spec.specs.declared.names.SplitNames.{SplitNames}
use Rattle.split_spec.specs.declared.faults.SplitFault.TheVariants.{NamespaceTaken, PrefixTaken, TooMany}
use Rattle.split_spec.specs.Prelude.{moved_params, namespace_taken, prefix_taken, split_fault, too_many, primary, secondary}
use Rattle.split_slots.specs.SurveysAndDrafts.{MaySplit, first_counts, first_too_many}
use Rattle.split_slots.proofs.FirstCounts.{few_where_none, first_tells}

module _ (names : SplitNames) (m : Module) (moved : List ℕ) where
  pub namespace_first : (import : ℕ) → namespace_taken names.placeholder_namespace m ≡ Some import → split_fault names m moved ≡ Some (NamespaceTaken import)
  namespace_first import e = ap (λ o. option_or (option_map NamespaceTaken o) (option_or (option_map PrefixTaken (prefix_taken names.export_prefix m moved)) (option_map TooMany (too_many names m moved)))) e

  pub prefix_next : (name : List ℕ) → namespace_taken names.placeholder_namespace m ≡ None → prefix_taken names.export_prefix m moved ≡ Some name → split_fault names m moved ≡ Some (PrefixTaken name)
  prefix_next name none e =
      ap (λ o. option_or (option_map NamespaceTaken o) (option_or (option_map PrefixTaken (prefix_taken names.export_prefix m moved)) (option_map TooMany (too_many names m moved)))) none
      ∙ ap (λ o. option_or (option_map PrefixTaken o) (option_map TooMany (too_many names m moved))) e

  many_left : namespace_taken names.placeholder_namespace m ≡ None → prefix_taken names.export_prefix m moved ≡ None → split_fault names m moved ≡ option_map TooMany (too_many names m moved)
  many_left none clear =
      ap (λ o. option_or (option_map NamespaceTaken o) (option_or (option_map PrefixTaken (prefix_taken names.export_prefix m moved)) (option_map TooMany (too_many names m moved)))) none
      ∙ ap (λ o. option_or (option_map PrefixTaken o) (option_map TooMany (too_many names m moved))) clear

  -- The primary module imports a placeholder for each moved function.
  abbrev ImportsMany : Type 0
  ImportsMany = length (primary names m moved).imports ≡ length m.imports + length moved

  many_told : ImportsMany → (w : Which) → first_too_many m moved ≡ Some w → too_many names m moved ≡ Some w
  many_told many w e = by (nat_lt (limit which.Trampolines) (moved_params m moved)) e
    where
      by : (b : Bool) → cond b (Some which.Trampolines) (first_counts m (length moved)) ≡ Some w →
          cond b (Some which.Trampolines) (option_or (over_limit (primary names m moved)) (over_limit (secondary names m moved))) ≡ Some w
      by true e = e
      by false e = ap (λ o. option_or o (over_limit (secondary names m moved))) (first_tells (λ slot. names.placeholder_namespace) names.export_prefix m moved many w e)

  pub many_next : ImportsMany → (w : Which) → namespace_taken names.placeholder_namespace m ≡ None → prefix_taken names.export_prefix m moved ≡ None → first_too_many m moved ≡ Some w →
      split_fault names m moved ≡ Some (TooMany w)
  many_next many w none clear e = many_left none clear ∙ ap (option_map TooMany) (many_told many w e)

  pub none_first : namespace_taken names.placeholder_namespace m ≡ None → prefix_taken names.export_prefix m moved ≡ None → first_too_many m moved ≡ None → MaySplit names m moved
  none_first none clear e = by (nat_lt (limit which.Trampolines) (moved_params m moved)) refl e
    where
      by : (b : Bool) → nat_lt (limit which.Trampolines) (moved_params m moved) ≡ b → cond b (Some which.Trampolines) (first_counts m (length moved)) ≡ None → MaySplit names m moved
      by true is e = cc
      by false is e = record { namespace = none; prefix = clear; params = is; few = few_where_none m moved e }

  -- The faults that remain are counts of the built modules above their limits.
  pub built_last : MaySplit names m moved → split_fault names m moved ≡ option_map TooMany (option_or (over_limit (primary names m moved)) (over_limit (secondary names m moved)))
  built_last may =
      many_left may.namespace may.prefix ∙ ap (λ b. option_map TooMany (cond b (Some which.Trampolines) (option_or (over_limit (primary names m moved)) (over_limit (secondary names m moved))))) may.params
