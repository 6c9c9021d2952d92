-- The canonical encoding of types, constant expressions, and the contents of sections except code
-- (Core 2.0, 5.3 and 5.5).
use Rattle.std.specs.Prelude.{ℕ, List, [], ◌∷◌, ◌++◌, map, length, Bool, true, false, ◌&&◌, ◌==◌, if◌then◌else◌, Option, Some, None, pos}
use Rattle.wasm_bytes.specs.Prelude.{u32_text, s32_text, s64_text, sized_text}
use Rattle.wasm_bytes.specs.Writing.{s33_text}
use Rattle.wasm_tree_spec.specs.Prelude.{RefType, ValType, I32, I64, Ref, FuncType, Limits, TableType, GlobalType, BlockType, ImportDesc, Import, ExportDesc, Export, ConstExpr, GlobalDef, ElemMode}
use Rattle.wasm_tree_spec.specs.Prelude.{ElemSeg, DataMode, DataSeg}
use Rattle.wasm_tree.specs.declared.types.RefType.TheVariants as ref
use Rattle.wasm_tree.specs.declared.types.BlockType.TheVariants as block
use Rattle.wasm_tree.specs.declared.module.ImportDesc.TheVariants as import
use Rattle.wasm_tree.specs.declared.module.ExportDesc.TheVariants as export
use Rattle.wasm_tree.specs.declared.module.ConstExpr.TheVariants as const
use Rattle.wasm_tree.specs.declared.module.ElemMode.TheVariants as elem
use Rattle.wasm_tree.specs.declared.module.DataMode.TheVariants as segment

-- One text after another.
abbrev pub joined : List (List ℕ) → List ℕ
joined [] = []
joined (t ∷ ts) = t ++ joined ts

abbrev pub each_text : {A : Type 0} → (A → List ℕ) → List A → List ℕ
each_text text xs = joined (map text xs)

-- How many items there are, and the items.
abbrev pub vector_text : {A : Type 0} → (A → List ℕ) → List A → List ℕ
vector_text text xs = u32_text (length xs) ++ each_text text xs

-- ---- types

unfoldable pub ref_code : RefType → ℕ
ref_code ref.Func = 0x70
ref_code ref.Extern = 0x6F

unfoldable pub val_code : ValType → ℕ
val_code I32 = 0x7F
val_code I64 = 0x7E
val_code (Ref t) = ref_code t

abbrev pub ref_text : RefType → List ℕ
ref_text t = ref_code t ∷ []

abbrev pub val_text : ValType → List ℕ
val_text t = val_code t ∷ []

unfoldable pub func_type_text : FuncType → List ℕ
func_type_text t = (0x60 ∷ vector_text val_text t.params) ++ vector_text val_text t.results

abbrev pub max_text : ℕ → Option ℕ → List ℕ
max_text least None = 0x00 ∷ u32_text least
max_text least (Some most) = (0x01 ∷ u32_text least) ++ u32_text most

unfoldable pub limits_text : Limits → List ℕ
limits_text l = max_text l.min l.max

unfoldable pub table_text : TableType → List ℕ
table_text t = ref_text t.ty ++ limits_text t.limits

abbrev pub mutable_code : Bool → ℕ
mutable_code false = 0x00
mutable_code true = 0x01

unfoldable pub global_type_text : GlobalType → List ℕ
global_type_text g = val_code g.ty ∷ mutable_code g.mutable ∷ []

-- A type index is encoded as a signed number.
unfoldable pub block_type_text : BlockType → List ℕ
block_type_text block.Empty = 0x40 ∷ []
block_type_text (block.Value t) = val_text t
block_type_text (block.Index n) = s33_text (pos n)

-- ---- constant expressions

unfoldable pub const_text : ConstExpr → List ℕ
const_text (const.I32 z) = (0x41 ∷ s32_text z) ++ 0x0B ∷ []
const_text (const.I64 z) = (0x42 ∷ s64_text z) ++ 0x0B ∷ []
const_text (const.Null t) = 0xD0 ∷ ref_code t ∷ 0x0B ∷ []
const_text (const.Func x) = (0xD2 ∷ u32_text x) ++ 0x0B ∷ []
const_text (const.Global x) = (0x23 ∷ u32_text x) ++ 0x0B ∷ []

-- ---- imports, globals, exports

unfoldable pub import_desc_text : ImportDesc → List ℕ
import_desc_text (import.Func ty) = 0x00 ∷ u32_text ty
import_desc_text (import.Table t) = 0x01 ∷ table_text t
import_desc_text (import.Memory l) = 0x02 ∷ limits_text l
import_desc_text (import.Global g) = 0x03 ∷ global_type_text g

unfoldable pub import_text : Import → List ℕ
import_text i = sized_text i.«module» ++ sized_text i.field ++ import_desc_text i.desc

unfoldable pub global_text : GlobalDef → List ℕ
global_text g = global_type_text g.ty ++ const_text g.init

unfoldable pub export_desc_text : ExportDesc → List ℕ
export_desc_text (export.Func x) = 0x00 ∷ u32_text x
export_desc_text (export.Table x) = 0x01 ∷ u32_text x
export_desc_text (export.Memory x) = 0x02 ∷ u32_text x
export_desc_text (export.Global x) = 0x03 ∷ u32_text x

unfoldable pub export_text : Export → List ℕ
export_text e = sized_text e.name ++ export_desc_text e.desc

-- ---- element segments

-- Whether the item is `ref.func`, which can be encoded as a function index.
unfoldable pub is_func : ConstExpr → Bool
is_func (const.Func x) = true
is_func _ = false

-- The function of an item that is `ref.func`.
unfoldable pub func_of : ConstExpr → ℕ
func_of (const.Func x) = x
func_of _ = 0

abbrev pub all_funcs : List ConstExpr → Bool
all_funcs [] = true
all_funcs (c ∷ cs) = is_func c && all_funcs cs

unfoldable pub is_funcref : RefType → Bool
is_funcref ref.Func = true
is_funcref ref.Extern = false

-- Function indices are written exactly if the type is funcref and each item is `ref.func`.
abbrev pub by_index : ElemSeg → Bool
by_index s = is_funcref s.ty && all_funcs s.items

unfoldable pub index_items : List ConstExpr → List ℕ
index_items cs = vector_text (λ c. u32_text (func_of c)) cs

unfoldable pub const_items : List ConstExpr → List ℕ
const_items cs = vector_text const_text cs

-- A table other than table 0, or a type other than funcref, is written.
abbrev pub active_by_index : ℕ → ConstExpr → List ConstExpr → List ℕ
active_by_index table offset items =
    if table == 0 then (0x00 ∷ const_text offset) ++ index_items items
    else (0x02 ∷ u32_text table) ++ const_text offset ++ (0x00 ∷ index_items items)

abbrev pub active_by_const : ℕ → ConstExpr → RefType → List ConstExpr → List ℕ
active_by_const table offset ty items =
    if (table == 0) && is_funcref ty then (0x04 ∷ const_text offset) ++ const_items items
    else (0x06 ∷ u32_text table) ++ const_text offset ++ (ref_code ty ∷ const_items items)

abbrev pub mode_by_index : ElemMode → List ConstExpr → List ℕ
mode_by_index (elem.Active table offset) items = active_by_index table offset items
mode_by_index elem.Passive items = 0x01 ∷ 0x00 ∷ index_items items
mode_by_index elem.Declarative items = 0x03 ∷ 0x00 ∷ index_items items

abbrev pub mode_by_const : ElemMode → RefType → List ConstExpr → List ℕ
mode_by_const (elem.Active table offset) ty items = active_by_const table offset ty items
mode_by_const elem.Passive ty items = 0x05 ∷ ref_code ty ∷ const_items items
mode_by_const elem.Declarative ty items = 0x07 ∷ ref_code ty ∷ const_items items

unfoldable pub elem_text : ElemSeg → List ℕ
elem_text s = if by_index s then mode_by_index s.mode s.items else mode_by_const s.mode s.ty s.items

-- ---- data segments

-- A memory other than memory 0 is written.
abbrev pub data_mode_text : DataMode → List ℕ
data_mode_text (segment.Active memory offset) = if memory == 0 then 0x00 ∷ const_text offset else (0x02 ∷ u32_text memory) ++ const_text offset
data_mode_text segment.Passive = 0x01 ∷ []

unfoldable pub data_text : DataSeg → List ℕ
data_text s = data_mode_text s.mode ++ sized_text s.bytes
