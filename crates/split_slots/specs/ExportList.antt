-- What the primary module exports for secondary ones, from marks.
use Rattle.std.specs.Prelude.{ℕ, List, [], ◌∷◌, ◌++◌}
use Rattle.base_lists.specs.Places.{places}
use Rattle.wasm_tree_spec.specs.Prelude.{Space, Types, Functions, Tables, Memories, Globals, ElementSegments, DataSegments, Export, ExportDesc}
use Rattle.wasm_tree.specs.declared.module.ExportDesc.TheVariants as ex
use Rattle.split_spec.specs.Prelude.{exports_for_secondary, name_from_primary, slots_name}
use Rattle.split_slots.specs.declared.named_entities.Marks.{Marks}

-- what is exported for an index of a space; types and segments are never exported
abbrev pub desc_of : Space → ℕ → ExportDesc
desc_of Functions i = ex.Func i
desc_of Tables i = ex.Table i
desc_of Memories i = ex.Memory i
desc_of Globals i = ex.Global i
desc_of Types i = ex.Func i
desc_of ElementSegments i = ex.Func i
desc_of DataSegments i = ex.Func i

abbrev pub exported : (prefix : List ℕ) → Space → ℕ → Export
exported prefix space i = record { name = name_from_primary prefix space i; desc = desc_of space i }

-- the marked entities of each kind, in ascending order, and last the slot table
abbrev pub exports_by : (prefix : List ℕ) → Marks → (table : ℕ) → List Export
exports_by prefix marks table =
    exports_for_secondary prefix Functions ex.Func (places (λ named. named) marks.funcs.items 0)
    ++ (exports_for_secondary prefix Tables ex.Table (places (λ named. named) marks.tables.items 0)
    ++ (exports_for_secondary prefix Memories ex.Memory (places (λ named. named) marks.mems.items 0)
    ++ (exports_for_secondary prefix Globals ex.Global (places (λ named. named) marks.globals.items 0)
    ++ record { name = slots_name prefix; desc = ex.Table table } ∷ [])))
