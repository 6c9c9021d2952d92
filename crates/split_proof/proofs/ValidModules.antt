-- Both modules of a split are valid, have at most one memory if the module has, and have bounded
-- counts.
use Rattle.base_lists.proofs.Common.{◌≡◌, ap, sym, subst, ℕ, ◌<◌, ◌≤◌, List, length, None, true, arith}
use Rattle.std.proofs.lemmas.List.{append-nil}
use Rattle.base_kept.proofs.Laws.{kept_most}
use Rattle.wasm_tree_spec.specs.Prelude.{Memories, Module, IsBounded, imported_memories, memories_of}
use Rattle.wasm_valid.specs.declared.kinds.ItemKind.{ItemKind}
use Rattle.wasm_valid.specs.declared.kinds.ItemKind.TheVariants as kind
use Rattle.wasm_valid.specs.Prelude.{IsSingle, IsValid, count_of, ValidWhereItemsHold}
use Rattle.module_limits.specs.Counts.{CountsAreWithinWhereNoneIsOver, over_limit}
use Rattle.index_remap.specs.Prelude.{declared}
use Rattle.index_remap_proof.specs.ButForReferences.{HoldsButForReferences, IsValidButForReferences}
use Rattle.split_spec.specs.declared.names.SplitNames.{SplitNames}
use Rattle.split_spec.specs.Prelude.{prefix_taken, marks_from_primary}
use Rattle.split_spec.specs.Primary.{primary_with}
use Rattle.split_spec.specs.Secondary.{secondary_with}
use Rattle.split_proof.specs.Premises.{CanMove}
use Rattle.split_proof.proofs.WellTypedBodies.{BodyLaws}
use Rattle.split_proof.proofs.CountBounds.{declared_bounded, primary_few, secondary_few}
use Rattle.split_proof.proofs.PrimaryExports.{export_holds}
use Rattle.split_proof.proofs.PrimaryItems as primary
use Rattle.split_proof.proofs.PrimarySpaces as primary_spaces
use Rattle.split_proof.proofs.SecondaryItems as secondary
use Rattle.split_proof.proofs.SecondarySpaces as secondary_spaces

-- The laws that the lemmas of this file assume.
pub record Laws : Type 0 where
  pub bodies : BodyLaws
  pub items : ValidWhereItemsHold
  pub valid : (t : Module) → IsValidButForReferences t → IsValid (declared t)
  pub single : (t : Module) → IsSingle t → IsSingle (declared t)
  pub within : CountsAreWithinWhereNoneIsOver

module _ (laws : Laws) (names : SplitNames) (m : Module) (moved own : List ℕ) (before : ℕ) (valid : IsValid m) (can : CanMove m own) where
  abbrev u : Module
  u = secondary_spaces.u names m ((laws.items m).0 valid) moved own before

  pub secondary_valid : IsValid (secondary_with names m moved own before)
  unfolding secondary_with
  secondary_valid = laws.valid u (secondary.items_hold laws.bodies names m ((laws.items m).0 valid) moved own before can)

  pub secondary_single : IsSingle m → IsSingle (secondary_with names m moved own before)
  unfolding secondary_with
  secondary_single one =
      let most = kept_most (marks_from_primary m moved own Memories) (memories_of m) in
      let few : length (memories_of m) ≤ 1 = one in
      let many : length (memories_of u) ≡ length (imported_memories u.imports) = ap length (append-nil (imported_memories u.imports)) in
      let all = ap length (secondary_spaces.imported_memories_are names m ((laws.items m).0 valid) moved own before) in
      laws.single u (omega (arith, most, few, many, all))

  pub secondary_bounded : IsBounded m → over_limit (secondary_with names m moved own before) ≡ None → IsBounded (secondary_with names m moved own before)
  unfolding secondary_with
  secondary_bounded few none = declared_bounded u (laws.within (declared u) none) (secondary_few laws.bodies names m ((laws.items m).0 valid) moved own before can few)

module _ (laws : Laws) (namespace : ℕ → List ℕ) (prefix : List ℕ) (m : Module) (moved : List ℕ) (valid : IsValid m) (can : CanMove m moved) where
  abbrev v : Module
  v = primary_spaces.u namespace prefix m ((laws.items m).0 valid) moved can

  items_hold : IsBounded m → prefix_taken prefix m moved ≡ None → (n : ItemKind) (j : ℕ) → j < count_of v true n → HoldsButForReferences v n j
  items_hold few free kind.Export j lt =
      export_holds namespace prefix m ((laws.items m).0 valid) moved can few free (primary.refs_left laws.bodies namespace prefix m ((laws.items m).0 valid) moved can) j lt
  items_hold few free n j lt = primary.items_hold laws.bodies namespace prefix m ((laws.items m).0 valid) moved can n j tt lt

  pub primary_valid : IsBounded m → prefix_taken prefix m moved ≡ None → IsValid (primary_with namespace prefix m moved)
  unfolding primary_with
  primary_valid few free = laws.valid v (items_hold few free)

  pub primary_single : IsSingle m → IsSingle (primary_with namespace prefix m moved)
  unfolding primary_with
  primary_single one = laws.single v (subst (λ ms. length ms ≤ 1) (sym (primary_spaces.memories_are namespace prefix m ((laws.items m).0 valid) moved can)) one)

  pub primary_bounded : IsBounded m → over_limit (primary_with namespace prefix m moved) ≡ None → IsBounded (primary_with namespace prefix m moved)
  unfolding primary_with
  primary_bounded few none = declared_bounded v (laws.within (declared v) none) (primary_few laws.bodies namespace prefix m ((laws.items m).0 valid) moved can few)
