-- Module files (Core 2.0, 5.5).
use Rattle.std.specs.Prelude.{◌≡◌, ℕ, List, [], ◌∷◌, map, length, Bool, false, Option, Some, None, ◌==◌}
use Rattle.wasm_bytes.specs.Prelude.{Then, U32, Vector, Named, Section, Framed}
use Rattle.wasm_tree_spec.specs.Prelude.{Limits, TableType, FuncType, Import, GlobalDef, Export, ElemSeg, DataSeg, Func, Module, limit, Imports, Exports, any_uses_data}
use Rattle.wasm_tree.specs.declared.which.Which.TheVariants.{Types, Functions, Tables, Memories, Globals, ElementSegments, DataSegments}
use Rattle.wasm_read_spec.specs.declared.parts.Parts.{Parts}
use Rattle.base_lists.specs.Every.{Every}
use Rattle.wasm_read_spec.specs.SpellingForms.{Never, MadeFrom, When, Any, Few, Limited, WhenSmall}
use Rattle.wasm_read_spec.specs.Values.{SpellsFuncType, SmallFuncType, SpellsTable, SpellsLimits}
use Rattle.wasm_read_spec.specs.Sections.{SpellsImport, SpellsGlobalDef, SpellsExport, SpellsElem, SpellsData}
use Rattle.wasm_read_spec.specs.Bodies.{CodeEntry, SpellsEntry, SmallCode}

-- ---- sections

-- The parts before any section.
abbrev pub nothing : Parts
nothing = record { types = []; imports = []; func_types = []; tables = []; mems = []; globals = []; exports = []; start = None; elems = []; codes = []; datas = []; data_count = None }

-- The parts `p` with the contents of a section.
abbrev pub with_types : Parts → List FuncType → Parts
with_types p xs = record p { types = xs }

abbrev pub with_imports : Parts → List Import → Parts
with_imports p xs = record p { imports = xs }

abbrev pub with_func_types : Parts → List ℕ → Parts
with_func_types p xs = record p { func_types = xs }

abbrev pub with_tables : Parts → List TableType → Parts
with_tables p xs = record p { tables = xs }

abbrev pub with_mems : Parts → List Limits → Parts
with_mems p xs = record p { mems = xs }

abbrev pub with_globals : Parts → List GlobalDef → Parts
with_globals p xs = record p { globals = xs }

abbrev pub with_exports : Parts → List Export → Parts
with_exports p xs = record p { exports = xs }

abbrev pub with_start : Parts → ℕ → Parts
with_start p x = record p { start = Some x }

abbrev pub with_elems : Parts → List ElemSeg → Parts
with_elems p xs = record p { elems = xs }

-- The function with this code, before its type index is put in: until then it has index 0.
abbrev pub untyped : CodeEntry → Func
untyped c = record { ty = 0; locals = c.locals; body = c.body }

abbrev pub with_codes : Parts → List CodeEntry → Parts
with_codes p xs = record p { codes = map untyped xs }

abbrev pub with_datas : Parts → List DataSeg → Parts
with_datas p xs = record p { datas = xs }

abbrev pub with_count : Parts → ℕ → Parts
with_count p n = record p { data_count = Some n }

-- A custom section: a name, and then any bytes. It does not change the parts.
abbrev pub SpellsCustom : Parts → List ℕ → Parts → Type 0
SpellsCustom p bytes q = ((name : List ℕ) × Then (λ b. Named b name) Any bytes) × (q ≡ p)

-- The parts that the content of a section with this id makes of `p`.
unfoldable pub section_form : Bool → Parts → ℕ → List ℕ → Parts → Type 0
section_form many p id =
    When (id == 0) (SpellsCustom p)
    (When (id == 1) (MadeFrom (with_types p) (Vector SpellsFuncType))
    (When (id == 2) (MadeFrom (with_imports p) (Vector SpellsImport))
    (When (id == 3) (MadeFrom (with_func_types p) (Vector U32))
    (When (id == 4) (MadeFrom (with_tables p) (Vector SpellsTable))
    (When (id == 5) (MadeFrom (with_mems p) (Vector SpellsLimits))
    (When (id == 6) (MadeFrom (with_globals p) (Vector SpellsGlobalDef))
    (When (id == 7) (MadeFrom (with_exports p) (Vector SpellsExport))
    (When (id == 8) (MadeFrom (with_start p) U32)
    (When (id == 9) (MadeFrom (with_elems p) (Vector SpellsElem))
    (When (id == 10) (MadeFrom (with_codes p) (Vector (SpellsEntry many)))
    (When (id == 11) (MadeFrom (with_datas p) (Vector SpellsData))
    (When (id == 12) (MadeFrom (with_count p) U32)
    Never))))))))))))

abbrev pub SpellsSection : Bool → Parts → Section → Parts → Type 0
SpellsSection many p s q = section_form many p s.0 s.1 q

-- The contents of the sections, in order, make the parts `q` of `p`.
abbrev pub SectionContents : Bool → Parts → List Section → Parts → Type 0
SectionContents many p [] q = p ≡ q
SectionContents many p (s ∷ ss) q = (m : Parts) × SpellsSection many p s m × SectionContents many m ss q

-- ---- the whole file

-- Without a data count section, no body uses memory.init or data.drop. With one, it is the number
-- of data segments.
abbrev pub Counted : Parts → Option ℕ → Type 0
Counted p None = any_uses_data p.codes ≡ false
Counted p (Some n) = n ≡ length p.datas

-- The rules on the whole file (5.5.16).
pub record Rules (p : Parts) : Type 0 where
  pub functions : length p.func_types ≡ length p.codes
  pub counted : Counted p p.data_count

-- The functions with their type indices.
abbrev pub typed : List ℕ → List Func → List Func
typed [] fs = []
typed (t ∷ ts) [] = []
typed (t ∷ ts) (f ∷ fs) = record f { ty = t } ∷ typed ts fs

-- The tree that the parts make.
abbrev pub tree_of : Parts → Module
tree_of p = record {
  types = p.types;
  imports = p.imports;
  funcs = typed p.func_types p.codes;
  tables = p.tables;
  mems = p.mems;
  globals = p.globals;
  exports = p.exports;
  start = p.start;
  elems =
      p.elems;
  datas = p.datas;
}

-- The bytes of the file encode the tree. If `many` is true, memories have indices in bodies.
abbrev pub Spells : List ℕ → Module → Bool → Type 0
Spells bytes tree many = (ss : List Section) × (p : Parts) × Framed bytes ss × SectionContents many nothing ss p × Rules p × (tree ≡ tree_of p)

-- ---- files within the limits

-- If the bytes encode the content of a section with this id, each count in it, the nesting and the
-- sum of the locals are within their limits. Other bytes and other ids have no limit.
unfoldable pub small_form : Bool → ℕ → List ℕ → Type 0
small_form many id =
    WhenSmall (id == 0) Any
    (WhenSmall (id == 1) (Limited (Vector SpellsFuncType) (Few (limit Types) SmallFuncType))
    (WhenSmall (id == 2) (Limited (Vector SpellsImport) (Few (limit Imports) Any))
    (WhenSmall (id == 3) (Limited (Vector U32) (Few (limit Functions) Any))
    (WhenSmall (id == 4) (Limited (Vector SpellsTable) (Few (limit Tables) Any))
    (WhenSmall (id == 5) (Limited (Vector SpellsLimits) (Few (limit Memories) Any))
    (WhenSmall (id == 6) (Limited (Vector SpellsGlobalDef) (Few (limit Globals) Any))
    (WhenSmall (id == 7) (Limited (Vector SpellsExport) (Few (limit Exports) Any))
    (WhenSmall (id == 8) Any
    (WhenSmall (id == 9) (Limited (Vector SpellsElem) (Few (limit ElementSegments) Any))
    (WhenSmall (id == 10) (Limited (Vector (SpellsEntry many)) (Few (limit Functions) SmallCode))
    (WhenSmall (id == 11) (Limited (Vector SpellsData) (Few (limit DataSegments) Any))
    (WhenSmall (id == 12) Any
    Any))))))))))))

-- The section is within the limits.
abbrev pub SectionIsSmall : Bool → Section → Type 0
SectionIsSmall many s = small_form many s.0 s.1

-- Each section of the file is within the limits.
abbrev pub Within : List ℕ → Bool → Type 0
Within bytes many = (ss : List Section) → Framed bytes ss → Every (SectionIsSmall many) ss
