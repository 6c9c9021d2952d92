-- The types of the merged module, in terms of those of the parts (WebAssembly Core 2.0, section
-- 2.5.2).
use Rattle.std.specs.Prelude.{◌≡◌, ◌<◌, ℕ, List, Some, slice_get}
use Rattle.std.specs.List.{flat_map}
use Rattle.wasm_tree_spec.specs.Prelude.{FuncType}
use Rattle.wasm_meaning.specs.Prelude.{Part}
use Rattle.merge_names.specs.declared.mode.Mode.{Mode}
use Rattle.merge_spec.specs.Joined.{joined_module}

-- the types of all parts, part by part, in order
abbrev pub part_types : List Part → List FuncType
part_types parts = flat_map (λ p. p.«module».types) parts

-- `types` has the types of `all`, each once, in the order in which they first appear.
pub record AreFirstAppearances (all types : List FuncType) : Type 0 where
  -- no two are equal
  pub apart : (i j : ℕ) (t : FuncType) → slice_get types i ≡ Some t → slice_get types j ≡ Some t → i ≡ j
  -- each is in `all`
  pub from : (i : ℕ) (t : FuncType) → slice_get types i ≡ Some t → (n : ℕ) × (slice_get all n ≡ Some t)
  -- each type in `all` is among them
  pub kept : (n : ℕ) (t : FuncType) → slice_get all n ≡ Some t → (i : ℕ) × (slice_get types i ≡ Some t)
  -- one that comes before another appears in `all` before each appearance of the other
  pub in_order : (i j : ℕ) (t u : FuncType) → i < j → slice_get types i ≡ Some t → slice_get types j ≡ Some u → (n : ℕ) → slice_get all n ≡ Some u → (m : ℕ) × (m < n) × (slice_get all m ≡ Some t)

-- the types of the merged module are those of the parts, each once, in the order in which they
-- first appear
abbrev pub MergedTypesAreDistinct : Type 0
MergedTypesAreDistinct = (parts : List Part) (mode : Mode) → AreFirstAppearances (part_types parts) (joined_module parts mode).types
