-- The number of imports in an index space, and addresses that are indices.
use Rattle.base_lists.proofs.Common.{◌≡◌, ℕ, ◌+◌, ◌<◌, arith, length, slice_get, Some, refl, ap, ◌∙◌, is_some, numbers_at, places_many}
use Rattle.base_lists.specs.Places.{numbers}
use Rattle.wasm_tree_spec.specs.Prelude.{Tables, Memories, Globals, ImportDesc, Module, space_of_import, table_of, memory_of, global_of, imported_tables, imported_memories, imported_globals, same_space}
use Rattle.wasm_tree.specs.declared.module.ImportDesc.TheVariants as im
use Rattle.wasm_meaning.specs.Prelude.{has_kind, imports_of}

-- Each index is its own address.
pub address_of : (count n : ℕ) → n < count → slice_get (numbers 0 count) n ≡ Some n
address_of count n lt = numbers_at 0 count n lt ∙ (let e : 0 + n ≡ n = omega arith in ap Some e)

pub tables_many : (m : Module) → length (imports_of Tables m) ≡ length (imported_tables m.imports)
tables_many m = places_many (has_kind Tables) (λ i. table_of i.desc) m.imports (λ i. kind i.desc) 0
  where
    kind : (d : ImportDesc) → is_some (table_of d) ≡ same_space Tables (space_of_import d)
    kind (im.Func t) = refl
    kind (im.Table t) = refl
    kind (im.Memory t) = refl
    kind (im.Global t) = refl

pub memories_many : (m : Module) → length (imports_of Memories m) ≡ length (imported_memories m.imports)
memories_many m = places_many (has_kind Memories) (λ i. memory_of i.desc) m.imports (λ i. kind i.desc) 0
  where
    kind : (d : ImportDesc) → is_some (memory_of d) ≡ same_space Memories (space_of_import d)
    kind (im.Func t) = refl
    kind (im.Table t) = refl
    kind (im.Memory t) = refl
    kind (im.Global t) = refl

pub globals_many : (m : Module) → length (imports_of Globals m) ≡ length (imported_globals m.imports)
globals_many m = places_many (has_kind Globals) (λ i. global_of i.desc) m.imports (λ i. kind i.desc) 0
  where
    kind : (d : ImportDesc) → is_some (global_of d) ≡ same_space Globals (space_of_import d)
    kind (im.Func t) = refl
    kind (im.Table t) = refl
    kind (im.Memory t) = refl
    kind (im.Global t) = refl
