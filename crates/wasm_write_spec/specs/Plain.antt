-- The canonical encoding of a module (Core 2.0, 5.5): the sections in their order, none of them
-- empty or custom, each number in its shortest encoding, and a data count exactly if a body has
-- memory.init or data.drop.
use Rattle.std.specs.Prelude.{ℕ, List, [], ◌∷◌, ◌++◌, length, Option, Some, None, if◌then◌else◌}
use Rattle.wasm_bytes.specs.Prelude.{u32_text, sized_text, header}
use Rattle.wasm_tree_spec.specs.Prelude.{Module, any_uses_data}
use Rattle.wasm_write_spec.specs.PlainValues.{vector_text, func_type_text, import_text, table_text, limits_text, global_text, export_text, elem_text, data_text}
use Rattle.wasm_write_spec.specs.PlainCode.{entry_text}

-- An id, and a content after its size.
abbrev pub section_text : ℕ → List ℕ → List ℕ
section_text id content = id ∷ sized_text content

-- A section with a vector, if there are items.
abbrev pub list_section : {A : Type 0} → ℕ → (A → List ℕ) → List A → List ℕ
list_section id text [] = []
list_section id text (x ∷ xs) = section_text id (vector_text text (x ∷ xs))

abbrev pub start_section : Option ℕ → List ℕ
start_section None = []
start_section (Some func) = section_text 8 (u32_text func)

abbrev pub count_section : Module → List ℕ
count_section m = if any_uses_data m.funcs then section_text 12 (u32_text (length m.datas)) else []

-- The canonical encoding of the module.
unfoldable pub plain : Module → List ℕ
plain m = header
    ++ list_section 1 func_type_text m.types
    ++ list_section 2 import_text m.imports
    ++ list_section 3 (λ f. u32_text f.ty) m.funcs
    ++ list_section 4 table_text m.tables
    ++ list_section 5 limits_text m.mems
    ++ list_section 6 global_text m.globals
    ++ list_section 7 export_text m.exports
    ++ start_section m.start
    ++ list_section 9 elem_text m.elems
    ++ count_section m
    ++ list_section 10 entry_text m.funcs
    ++ list_section 11 data_text m.datas
