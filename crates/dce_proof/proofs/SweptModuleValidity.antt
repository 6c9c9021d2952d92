-- What is left of a valid module is valid, a u32 can count what it has, and it has no more memories
-- than the module.
use Rattle.base_lists.proofs.Common.{◌≡◌, sym, subst, ℕ, ◌+◌, ◌^◌, ◌<◌, ◌≤◌, List, [], ◌∷◌, length, None, arith, length-append}
use Rattle.wasm_tree_spec.specs.Prelude.{Module, IsBounded}
use Rattle.wasm_valid.specs.Prelude.{IsSingle, IsValid, ItemsHold, ValidWhereItemsHold}
use Rattle.index_remap.specs.declared.remap.Remap.{Remap}
use Rattle.index_remap.specs.Prelude.{declared, declared_refs, declaring, with_declared}
use Rattle.index_remap_proof.specs.Indices.{Indices}
use Rattle.index_remap_proof.specs.Trees.{EachItemComesFrom, TreesAgree}
use Rattle.index_remap_proof.specs.ButForReferences.{IsValidButForReferences}
use Rattle.module_limits.specs.Counts.{over_limit, CountsAreWithinWhereNoneIsOver}
use Rattle.dce_spec.specs.Marks.{Marks, stays}
use Rattle.dce_spec.specs.Swept.{renumbered_kept, sweep_map, swept}
use Rattle.dce_spec.specs.Closed.{AreClosed}
use Rattle.dce_proof.proofs.KeptIndexSpaces.{memories_are}
use Rattle.dce_proof.proofs.KeptBounds.{kept_bounded}
use Rattle.dce_proof.proofs.ItemOrigins.{ConstantsAreKept, agree, each_stands}

-- The laws of other crates that these lemmas use.
pub record Laws : Type 0 where
  pub items : ValidWhereItemsHold
  pub constants : ConstantsAreKept
  pub undeclared : (m : Remap) (kept : Indices) (t u : Module) → IsValid t → TreesAgree m kept t u → EachItemComesFrom m kept t u → IsValidButForReferences u
  pub valid : (t : Module) → IsValidButForReferences t → IsValid (declared t)
  pub single : (t : Module) → IsSingle t → IsSingle (declared t)
  pub bounded : (t : Module) → IsBounded t → length t.elems + 1 < 2 ^ 32 → IsBounded (declared t)
  pub within : CountsAreWithinWhereNoneIsOver

no_fewer_elems : (t : Module) (fs : List ℕ) → length t.elems ≤ length (with_declared t fs).elems
no_fewer_elems t [] = omega arith
no_fewer_elems t (f ∷ fs) = let n = length-append t.elems (declaring (f ∷ fs) ∷ []) in omega (arith, n)

module _ (laws : Laws) (k : Marks) (m : Module) (valid : IsValid m) (c : AreClosed k m) where
  abbrev r : Remap
  r = sweep_map k m

  abbrev u : Module
  u = renumbered_kept k m

  holds : ItemsHold m
  holds = (laws.items m).0 valid

  pub swept_valid : IsValid (swept k m)
  unfolding swept
  swept_valid = laws.valid u (laws.undeclared r (stays k) m u valid (agree k m c holds) (each_stands k m c holds laws.constants))

  pub swept_single : IsSingle m → IsSingle (swept k m)
  unfolding swept
  swept_single one = laws.single u (subst (λ xs. length xs ≤ 1) (sym (memories_are k m c holds)) one)

  pub swept_bounded : IsBounded m → over_limit (swept k m) ≡ None → IsBounded (swept k m)
  unfolding swept
  swept_bounded few none =
      let most = (laws.within (declared u) none).elems in
      let fewer = no_fewer_elems u (declared_refs u) in
      laws.bounded u (kept_bounded k m c holds few) (omega (arith, most, fewer))
