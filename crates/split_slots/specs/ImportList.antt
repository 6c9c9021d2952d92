-- What a secondary module imports from the primary one, from marks.
use Rattle.std.specs.Prelude.{ℕ, List, ◌∷◌, ◌++◌, Option, option_map, slice_get}
use Rattle.base_lists.specs.Places.{places}
use Rattle.wasm_tree_spec.specs.Prelude.{Space, Functions, Tables, Memories, Globals, Import, ImportDesc, Module}
use Rattle.wasm_tree.specs.declared.module.ImportDesc.TheVariants as im
use Rattle.split_spec.specs.declared.names.SplitNames.{SplitNames}
use Rattle.split_spec.specs.Prelude.{imports_from_primary, name_from_primary, slots_name, slot_table_type}
use Rattle.split_slots.specs.declared.named_entities.Marks.{Marks}

-- the import of the entity at an index, if there is one
abbrev pub import_of : SplitNames → Space → List ImportDesc → ℕ → Option Import
import_of names space entities i =
    option_map (λ d. record { «module» = names.import_namespace; field = name_from_primary names.export_prefix space i; desc = d }) (slice_get entities i)

-- the marked functions, the marked tables, the slot table with `count` slots, the marked memories
-- and the marked globals, each in ascending order
abbrev pub imports_by : SplitNames → Module → Marks → (count : ℕ) → List Import
imports_by names m marks count =
    imports_from_primary names.import_namespace names.export_prefix m Functions (places (λ named. named) marks.funcs.items 0)
    ++ (imports_from_primary names.import_namespace names.export_prefix m Tables (places (λ named. named) marks.tables.items 0)
    ++ (record { «module» = names.import_namespace; field = slots_name names.export_prefix; desc = im.Table (slot_table_type count) }
    ∷ (imports_from_primary names.import_namespace names.export_prefix m Memories (places (λ named. named) marks.mems.items 0)
    ++ imports_from_primary names.import_namespace names.export_prefix m Globals (places (λ named. named) marks.globals.items 0))))
