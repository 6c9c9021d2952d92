-- Which parts can be joined with which mode.
use Rattle.std.specs.Prelude.{◌≡◌, ℕ, true, List, Some, None}
use Rattle.wasm_tree_spec.specs.Prelude.{Module, IsBounded}
use Rattle.wasm_valid.specs.Prelude.{IsValid}
use Rattle.wasm_meaning.specs.Prelude.{Part, module_at}
use Rattle.merge_names.specs.declared.mode.Mode.{Mode}
use Rattle.merge_spec.specs.Prelude.{link_fault, joined_module, repeated_name}
use Rattle.module_limits.specs.Counts.{over_limit}

-- a property of each part's module
abbrev pub EachPart : (Module → Type 0) → List Part → Type 0
EachPart P parts = (p : ℕ) (m : Module) → module_at parts p ≡ Some m → P m

-- The modules are valid, a u32 can count each of their lists, they link without a fault, no name is
-- repeated if the mode allows none, and no count of the merged module is above its limit.
pub record CanBeJoined (parts : List Part) (mode : Mode) : Type 0 where
  pub valid : EachPart IsValid parts
  pub bounded : EachPart IsBounded parts
  -- several memories are no fault
  pub linked : link_fault parts true ≡ None
  pub names : repeated_name parts mode ≡ None
  pub sizes : over_limit (joined_module parts mode) ≡ None
