-- When two trees agree along a map of indices, and when an item of one comes from an item of the
-- other.
use Rattle.std.specs.Prelude.{◌≡◌, ℕ, ◌<◌, ◌≤◌, true, IsTrue, length, map, take, Contains, Some, slice_get, slice_index}
use Rattle.wasm_tree_spec.specs.Prelude.{Types, Functions, Tables, Memories, Globals, ElementSegments, DataSegments, ConstExpr, Import, Func, GlobalDef, Export, ElemMode, ElemSeg, DataMode, DataSeg}
use Rattle.wasm_tree_spec.specs.Prelude.{Module, funcs_of, tables_of, memories_of, globals_of, imported_globals, type_of_func}
use Rattle.wasm_tree.specs.declared.module.ConstExpr.TheVariants as const
use Rattle.wasm_tree.specs.declared.module.ElemMode.TheVariants as elem
use Rattle.wasm_tree.specs.declared.module.DataMode.TheVariants as «data»
use Rattle.wasm_valid.specs.declared.kinds.ItemKind.{ItemKind}
use Rattle.wasm_valid.specs.declared.kinds.ItemKind.TheVariants as kind
use Rattle.wasm_valid.specs.Prelude.{const_type, named_of, table_types, elem_types, count_of}
use Rattle.index_remap.specs.declared.remap.Remap.{Remap}
use Rattle.index_remap.specs.Prelude.{new_import_desc, new_export_desc, new_func, Keeps}
use Rattle.index_remap_proof.specs.Indices.{Indices, ImportNamesOnly, ExportNamesOnly, FuncNamesOnly}

-- If a kept index denotes something in `t`, its entry denotes something of the same type in `u`;
-- the limits of tables and memories are not compared. Nothing is said about other indices.
pub record TreesAgree (m : Remap) (kept : Indices) (t u : Module) : Type 0 where
  pub types : (i : ℕ) → IsTrue (kept Types i) → Keeps (slice_get t.types i) (slice_get u.types (slice_index m.types i))
  pub funcs : (i : ℕ) → IsTrue (kept Functions i) → Keeps (type_of_func t i) (type_of_func u (slice_index m.funcs i))
  pub func_space : (i : ℕ) → IsTrue (kept Functions i) → i < length (funcs_of t) → slice_index m.funcs i < length (funcs_of u)
  pub tables : (i : ℕ) → IsTrue (kept Tables i) → Keeps (slice_get (table_types t) i) (slice_get (table_types u) (slice_index m.tables i))
  pub memories : (i : ℕ) → IsTrue (kept Memories i) → i < length (memories_of t) → slice_index m.mems i < length (memories_of u)
  pub globals : (i : ℕ) → IsTrue (kept Globals i) → Keeps (slice_get (globals_of t) i) (slice_get (globals_of u) (slice_index m.globals i))
  pub elems : (i : ℕ) → IsTrue (kept ElementSegments i) → Keeps (slice_get (elem_types t.elems) i) (slice_get (elem_types u.elems) (slice_index m.elems i))
  pub datas : (i : ℕ) → IsTrue (kept DataSegments i) → i < length t.datas → slice_index m.datas i < length u.datas

-- If `ref.func` may name a kept function in bodies of `t`, it may name its entry in bodies of `u`.
abbrev pub RefsAgree : Remap → Indices → Module → Module → Type 0
RefsAgree m kept t u = (i : ℕ) → IsTrue (kept Functions i) → slice_get (named_of t) i ≡ Some true → slice_get (named_of u) (slice_index m.funcs i) ≡ Some true

-- The entry of an imported global that is kept is an imported global.
abbrev pub ImportsAgree : Remap → Indices → Module → Module → Type 0
ImportsAgree m kept t u = (i : ℕ) → IsTrue (kept Globals i) → i < length (imported_globals t.imports) → slice_index m.globals i < length (imported_globals u.imports)

-- The lists of the map are at least as long as the spaces of the tree.
pub record Covers (m : Remap) (t : Module) : Type 0 where
  pub types : length t.types ≤ length m.types
  pub funcs : length (funcs_of t) ≤ length m.funcs
  pub tables : length (tables_of t) ≤ length m.tables
  pub memories : length (memories_of t) ≤ length m.mems
  pub globals : length (globals_of t) ≤ length m.globals
  pub elems : length t.elems ≤ length m.elems
  pub datas : length t.datas ≤ length m.datas

-- ---- constant expressions ----

-- The entry of the global that the expression reads is imported in `u`: only imported globals may
-- be read (section 3.3.10).
abbrev pub ReadsImport : Remap → Module → ConstExpr → Type 0
ReadsImport m u (const.I32 v) = Unit {0}
ReadsImport m u (const.I64 v) = Unit {0}
ReadsImport m u (const.Null ty) = Unit {0}
ReadsImport m u (const.Func func) = Unit {0}
ReadsImport m u (const.Global global) = slice_index m.globals global < length (imported_globals u.imports)

-- `d` has in `u` the type that `e` has in `t`, if `e` has one.
abbrev pub ConstComesFrom : Module → Module → ConstExpr → ConstExpr → Type 0
ConstComesFrom t u e d = Keeps (const_type t e) (const_type u d)

-- ---- items ----

pub data ElemModeComesFrom (m : Remap) (kept : Indices) (t u : Module) : ElemMode → ElemMode → Type 0 where
  active : {table : ℕ} {e d : ConstExpr} → IsTrue (kept Tables table) → ConstComesFrom t u e d → ElemModeComesFrom m kept t u (elem.Active table e) (elem.Active (slice_index m.tables table) d)
  passive : ElemModeComesFrom m kept t u elem.Passive elem.Passive
  declarative : ElemModeComesFrom m kept t u elem.Declarative elem.Declarative

pub data DataModeComesFrom (m : Remap) (kept : Indices) (t u : Module) : DataMode → DataMode → Type 0 where
  active : {memory : ℕ} {e d : ConstExpr} → IsTrue (kept Memories memory) → ConstComesFrom t u e d → DataModeComesFrom m kept t u («data».Active memory e) («data».Active (slice_index m.mems memory) d)
  passive : DataModeComesFrom m kept t u «data».Passive «data».Passive

-- Each item of the second segment has the type of some item of the first, if that has one.
abbrev pub ItemsComeFrom : Module → Module → ElemSeg → ElemSeg → Type 0
ItemsComeFrom t u a b = (p : ℕ) (d : ConstExpr) → slice_get b.items p ≡ Some d → (q : ℕ) × (e : ConstExpr) × (slice_get a.items q ≡ Some e) × ConstComesFrom t u e d

-- The item of `u` at place `j` of its kind comes from the item of `t` at place `i`: its indices are
-- the entries of the other's, which are all kept, and otherwise both are the same. The names of an
-- import, the mutability of a global, the bytes of a data segment, and which items an element
-- segment has and in what order may differ. The locals of a function are compared with its body. A
-- constant expression may be any that has the same type, if the other has one. The name of an
-- export may be any that no earlier export of `u` has. There are no more memories than in `t`.
abbrev pub ItemComesFrom : Remap → Indices → Module → Module → ItemKind → ℕ → ℕ → Type 0
ItemComesFrom m kept t u kind.Import i j =
    (x y : Import) × (slice_get t.imports i ≡ Some x) × (slice_get u.imports j ≡ Some y) × ImportNamesOnly kept x.desc × (y.desc ≡ new_import_desc m x.desc)
ItemComesFrom m kept t u kind.Memories i j = length (memories_of u) ≤ length (memories_of t)
ItemComesFrom m kept t u kind.Func i j =
    (f g : Func) × (slice_get t.funcs i ≡ Some f) × (slice_get u.funcs j ≡ Some g) × IsTrue (kept Types f.ty) × (g.ty ≡ slice_index m.types f.ty)
ItemComesFrom m kept t u kind.Table i j = slice_get u.tables j ≡ slice_get t.tables i
ItemComesFrom m kept t u kind.Memory i j = slice_get u.mems j ≡ slice_get t.mems i
ItemComesFrom m kept t u kind.Global i j =
    (g h : GlobalDef) × (slice_get t.globals i ≡ Some g) × (slice_get u.globals j ≡ Some h) × (h.ty.ty ≡ g.ty.ty) × ConstComesFrom t u g.init h.init
ItemComesFrom m kept t u kind.Export i j =
    (e f : Export) × (slice_get t.exports i ≡ Some e) × (slice_get u.exports j ≡ Some f) × ExportNamesOnly kept e.desc × (f.desc ≡ new_export_desc m e.desc) ×
    (Contains (map (λ x. x.name) (take j u.exports)) f.name → ⊥)
ItemComesFrom m kept t u kind.Start i j = (x : ℕ) × (t.start ≡ Some x) × IsTrue (kept Functions x) × (u.start ≡ Some (slice_index m.funcs x))
ItemComesFrom m kept t u kind.Elem i j =
    (a b : ElemSeg) × (slice_get t.elems i ≡ Some a) × (slice_get u.elems j ≡ Some b) × (b.ty ≡ a.ty) × ItemsComeFrom t u a b × ElemModeComesFrom m kept t u a.mode b.mode
ItemComesFrom m kept t u kind.Segment i j = (a b : DataSeg) × (slice_get t.datas i ≡ Some a) × (slice_get u.datas j ≡ Some b) × DataModeComesFrom m kept t u a.mode b.mode
ItemComesFrom m kept t u kind.Body i j = (f : Func) × (slice_get t.funcs i ≡ Some f) × FuncNamesOnly kept f × (slice_get u.funcs j ≡ Some (new_func m f))

-- Each item of `u` comes from an item of `t`, which may have more.
abbrev pub EachItemComesFrom : Remap → Indices → Module → Module → Type 0
EachItemComesFrom m kept t u = (k : ItemKind) (j : ℕ) → j < count_of u true k → (i : ℕ) × (i < count_of t true k) × ItemComesFrom m kept t u k i j
