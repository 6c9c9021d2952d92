-- The merged module with its references declared is valid, a u32 can count its lists, and it has at
-- most one memory.
use Rattle.base_lists.proofs.Common.{◌≡◌, ◌∙◌, ap, sym, subst, refl, ℕ, ◌+◌, ◌^◌, ◌<◌, List, length, Option, Some, None, IsTrue, false}
use Rattle.wasm_tree_spec.specs.Prelude.{ConstExpr, Module, IsBounded}
use Rattle.wasm_valid.specs.Prelude.{IsValid, IsSingle, ItemsHold, ValidWhereItemsHold}
use Rattle.wasm_meaning.specs.Prelude.{Text, EndsArePaths, Part, module_at}
use Rattle.wasm_meaning.specs.Laws.{ReadsArePaths}
use Rattle.index_remap.specs.declared.remap.Remap.{Remap}
use Rattle.index_remap.specs.Prelude.{fits_tree, new_const, declared}
use Rattle.index_remap_proof.specs.Indices.{Indices, with_entry, ConstNamesOnly, TreeNamesOnly}
use Rattle.index_remap_proof.specs.Trees.{TreesAgree, Covers, ReadsImport, ConstComesFrom}
use Rattle.index_remap_proof.specs.ButForReferences.{IsValidButForReferences}
use Rattle.merge_names.specs.declared.mode.Mode.{Mode}
use Rattle.merge_names.specs.Names.{new_names}
use Rattle.merge_names.specs.Laws.{GivenNamesDiffer, ConflictsAreFirst}
use Rattle.merge_spec.specs.Prelude.{link_fault, merged, merged_const, export_names}
use Rattle.merge_spec.specs.Joined.{joined_module}
use Rattle.module_limits.specs.Counts.{over_limit, CountsAreWithinWhereNoneIsOver}
use Rattle.merge_proof.specs.Joinable.{CanBeJoined}
use Rattle.merge_proof.proofs.LinkFaults.{memories_are_few, AllAreSuited, are_linked}
use Rattle.merge_proof.proofs.ConstantTypes.{const_stands}
use Rattle.merge_proof.proofs.MergedExports.{names_differ}
use Rattle.merge_proof.proofs.MergedCounts.{merged_single, few_exports, few_elems, module_bounded}
use Rattle.merge_proof.proofs.MergedItems.{TreeNames, Undeclared, items_hold, locals_few}

joined_is : (parts : List Part) (mode : Mode) → joined_module parts mode ≡ declared (merged parts (new_names mode (export_names parts)))
unfolding joined_module
joined_is parts mode = refl

-- The laws of lower crates on which the validity of the merged module rests.
pub record Laws : Type 0 where
  pub items : ValidWhereItemsHold
  pub entries : (m : Remap) (t : Module) → IsValid t → Covers m t → IsTrue (fits_tree m t)
  pub named : (m : Remap) (t : Module) → IsTrue (fits_tree m t) → TreeNamesOnly (with_entry m) t
  pub constants : (m : Remap) (kept : Indices) (t u : Module) (e : ConstExpr) → TreesAgree m kept t u → ConstNamesOnly kept e → ReadsImport m u e → ConstComesFrom t u e (new_const m e)
  pub undeclared : Undeclared
  pub valid : (t : Module) → IsValidButForReferences t → IsValid (declared t)
  pub single : (t : Module) → IsSingle t → IsSingle (declared t)
  pub bounded : (t : Module) → IsBounded t → length t.elems + 1 < 2 ^ 32 → IsBounded (declared t)
  pub ends : EndsArePaths
  pub reads : ReadsArePaths
  pub differ : GivenNamesDiffer
  pub first : ConflictsAreFirst
  pub within : CountsAreWithinWhereNoneIsOver

module _ (laws : Laws) (parts : List Part) (mode : Mode) (can : CanBeJoined parts mode) where
  abbrev names : List (Option Text)
  names = new_names mode (export_names parts)

  links : AllAreSuited parts
  links = are_linked parts can.linked

  valid : (p : ℕ) (m : Module) → module_at parts p ≡ Some m → ItemsHold m
  valid p m is = (laws.items m).0 (can.valid p m is)

  sizes : over_limit (declared (merged parts names)) ≡ None
  sizes = ap over_limit (sym (joined_is parts mode)) ∙ can.sizes

  stands : (p : ℕ) (m : Module) (e : ConstExpr) → module_at parts p ≡ Some m → ConstComesFrom m (merged parts names) e (merged_const parts p e)
  stands p m e is = const_stands laws.ends parts names links laws.reads valid laws.constants p m e is

  names_only : TreeNames
  names_only m t holds covers = laws.named m t (laws.entries m t ((laws.items t).1 holds) covers)

  pub joined_valid : IsValid (joined_module parts mode)
  joined_valid =
      subst IsValid (sym (joined_is parts mode))
      (laws.valid (merged parts names) (items_hold laws.ends names_only laws.undeclared parts names links valid stands
      (names_differ laws.differ laws.first parts mode can.names (few_exports laws.within (merged parts names) sizes))))

  pub joined_bounded : IsBounded (joined_module parts mode)
  joined_bounded =
      subst IsBounded (sym (joined_is parts mode))
      (laws.bounded (merged parts names)
      (module_bounded laws.within (merged parts names) sizes
      (locals_few laws.ends names_only laws.undeclared parts names links valid stands
      (names_differ laws.differ laws.first parts mode can.names (few_exports laws.within (merged parts names) sizes)) can.bounded))
      (few_elems laws.within (merged parts names) sizes))

  pub joined_single : link_fault parts false ≡ None → IsSingle (joined_module parts mode)
  joined_single linked = subst IsSingle (sym (joined_is parts mode)) (laws.single (merged parts names) (merged_single parts names (memories_are_few parts linked)))
