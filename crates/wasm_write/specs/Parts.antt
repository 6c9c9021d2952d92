-- Parts of the canonical encoding of a module.
use Rattle.std.specs.Prelude.{ℕ, List, ◌++◌}
use Rattle.wasm_bytes.specs.Prelude.{u32_text, header}
use Rattle.base_lists.specs.Every.{Every}
use Rattle.wasm_tree_spec.specs.Prelude.{TableType, GlobalDef, Module}
use Rattle.wasm_write_proof.specs.Ranges.{MaxInRange, LimitsInRange, ConstInRange, ImportInRange, ExportInRange, ElemInRange, TypeInRange}
use Rattle.wasm_write_spec.specs.PlainValues.{func_type_text, import_text, table_text, limits_text, global_text, export_text, elem_text}
use Rattle.wasm_write_spec.specs.Plain.{list_section, start_section}

-- The header, and the sections up to that of globals.
unfoldable pub text_up_to_globals : Module → List ℕ
text_up_to_globals m = header
    ++ list_section 1 func_type_text m.types
    ++ list_section 2 import_text m.imports
    ++ list_section 3 (λ f. u32_text f.ty) m.funcs
    ++ list_section 4 table_text m.tables
    ++ list_section 5 limits_text m.mems
    ++ list_section 6 global_text m.globals

-- Everything before the data count section.
unfoldable pub text_before_code : Module → List ℕ
text_before_code m = text_up_to_globals m
    ++ list_section 7 export_text m.exports
    ++ start_section m.start
    ++ list_section 9 elem_text m.elems

-- The numbers and names in these parts are in range.
pub record UpToGlobalsInRange (m : Module) : Type 0 where
  pub imports : Every ImportInRange m.imports
  pub funcs : Every TypeInRange m.funcs
  pub tables : Every (λ (t : TableType). LimitsInRange t.limits) m.tables
  pub mems : Every LimitsInRange m.mems
  pub globals : Every (λ (g : GlobalDef). ConstInRange g.init) m.globals

pub record BeforeCodeInRange (m : Module) : Type 0 where
  pub types : UpToGlobalsInRange m
  pub exports : Every ExportInRange m.exports
  pub start : MaxInRange m.start
  pub elems : Every ElemInRange m.elems
