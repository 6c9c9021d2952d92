-- What is to be kept of a module, as marks on exports and imports by their places, and on functions
-- and globals by their indices (WebAssembly Core 2.0, section 2.5.1). All types, tables, memories
-- and segments are kept.
use Rattle.std.specs.Prelude.{Bool, true, List}
use Rattle.wasm_tree_spec.specs.Prelude.{Types, Functions, Tables, Memories, Globals, ElementSegments, DataSegments}
use Rattle.index_remap_proof.specs.Indices.{Indices}
use Rattle.base_kept.specs.Kept.{is_marked}

pub record Marks : Type 0 where
  pub exports : List Bool
  pub imports : List Bool
  pub funcs : List Bool
  pub globals : List Bool

-- the indices of what is kept, in each index space
abbrev pub stays : Marks → Indices
stays k Types = λ i. true
stays k Functions = is_marked k.funcs
stays k Tables = λ i. true
stays k Memories = λ i. true
stays k Globals = is_marked k.globals
stays k ElementSegments = λ i. true
stays k DataSegments = λ i. true
