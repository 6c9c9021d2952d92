-- What is known of the input module, the faults that are reported first, and the drafts.
use Rattle.std.specs.Prelude.{◌≡◌, ℕ, ◌+◌, ◌<◌, ◌^◌, List, length, map, Option, Some, None, cond, nat_lt, false, IsTrue}
use Rattle.base_lists.specs.Places.{numbers}
use Rattle.wasm_tree_spec.specs.Prelude.{Space, Which, Module, IsBounded, limit, funcs_of}
use Rattle.wasm_tree.specs.declared.which.Which.TheVariants as which
use Rattle.wasm_valid.specs.Prelude.{IsValid}
use Rattle.index_remap.specs.Prelude.{declared, fits_tree, renumbered_tree}
use Rattle.module_limits.specs.Counts.{or_above, over_limit}
use Rattle.split_spec.specs.declared.names.SplitNames.{SplitNames}
use Rattle.split_spec.specs.Prelude.{moved_params, namespace_taken, prefix_taken, marks_from_primary, left_marks, primary_map, primary_tree, secondary_imports, secondary_map, secondary_tree}
use Rattle.split_spec.specs.Prelude.{place_among, slot_table}
use Rattle.split_slots.specs.declared.input_survey.Survey.{Survey}
use Rattle.split_slots.specs.declared.module_drafts.Draft.{Draft}
use Rattle.split_slots.specs.declared.module_drafts.Drafts.{Drafts}
use Rattle.split_slots.specs.declared.module_drafts.Frame.{Frame}
use Rattle.split_slots.specs.OperandMarks.{marks_in}

-- the survey of module `m` for the split that moves the functions `moved`
pub record IsSurvey (m : Module) (moved : List ℕ) (s : Survey) : Type 0 where
  pub types : s.types ≡ funcs_of m
  pub slots : s.slots.items ≡ map (place_among moved) (numbers 0 (length (funcs_of m)))
  pub left : s.left ≡ left_marks m moved
  pub marks : (space : Space) → marks_in s.marks space ≡ marks_from_primary m moved moved space
  pub table : s.table ≡ slot_table m

-- ---- counts ----

-- the first of the counts of types, imports and functions of the primary module that is above its
-- limit; functions are counted without trampolines
abbrev pub first_counts : Module → (moved : ℕ) → Option Which
first_counts m moved =
    or_above (length m.types) which.Types (or_above (length m.imports + moved) which.Imports (cond (nat_lt (limit which.Functions + moved) (length m.funcs)) (Some which.Functions) None))

-- the first quantity above its limit that is reported before anything is built
abbrev pub first_too_many : Module → (moved : List ℕ) → Option Which
first_too_many m moved = or_above (moved_params m moved) which.Trampolines (first_counts m (length moved))

-- the functions of the module and the slots together are fewer than 2^31
abbrev pub FewFuncs : Module → (moved : List ℕ) → Type 0
FewFuncs m moved = length (funcs_of m) + length moved < 2 ^ 31

-- Nothing is imported from the placeholder namespace, no export has an added name, the moved
-- functions have no more parameters together than the limit, and functions and slots are few.
pub record MaySplit (names : SplitNames) (m : Module) (moved : List ℕ) : Type 0 where
  pub namespace : namespace_taken names.placeholder_namespace m ≡ None
  pub prefix : prefix_taken names.export_prefix m moved ≡ None
  pub params : nat_lt (limit which.Trampolines) (moved_params m moved) ≡ false
  pub few : FewFuncs m moved

-- ---- drafts ----

-- the types, the imports and the remap of the secondary module that has all moved functions
pub record IsFrame (names : SplitNames) (m : Module) (moved : List ℕ) (f : Frame) : Type 0 where
  pub types : f.types ≡ m.types
  pub imports : f.imports ≡ secondary_imports names m moved moved
  pub map_is : f.map ≡ secondary_map m moved moved

-- both modules in the indices of the input module, and their remaps
pub record AreDrafts (names : SplitNames) (m : Module) (moved : List ℕ) (d : Drafts) : Type 0 where
  pub primary : d.primary.tree ≡ primary_tree (λ slot. names.placeholder_namespace) names.export_prefix m moved
  pub primary_map_is : d.primary.map ≡ primary_map m moved
  pub secondary : d.secondary.tree ≡ secondary_tree names m moved moved 0
  pub secondary_map_is : d.secondary.map ≡ secondary_map m moved moved

-- ---- finished modules ----

-- the module that a draft becomes: renumbered, and with its references declared
abbrev pub made : Draft → Module
made d = declared (renumbered_tree d.map d.tree)

-- A draft can be finished: its remap fits, a u32 can count its functions, and the module that it
-- becomes is valid and bounded if no count is above its limit.
pub record CanFinish (d : Draft) : Type 0 where
  pub fits : IsTrue (fits_tree d.map d.tree)
  pub few : length (funcs_of (renumbered_tree d.map d.tree)) < 2 ^ 32
  pub valid : over_limit (made d) ≡ None → IsValid (made d)
  pub bounded : over_limit (made d) ≡ None → IsBounded (made d)
