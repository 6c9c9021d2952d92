-- A tree in which each index is replaced by its entry in the map of its index space (WebAssembly
-- Core 2.0, section 2.5.1). Labels and locals stay as they are, and so do the order and the length
-- of every list.
use Rattle.std.specs.Prelude.{ℕ, List, map, length, slice_index, Option, Some, None, Bool, true, ◌&&◌, nat_lt}
use Rattle.std.specs.List.{list_all}
use Rattle.wasm_tree_spec.specs.Prelude.{Space, Types, Functions, Tables, Memories, Globals, ElementSegments, DataSegments, Operand, block_operands, mapped_all, operands_pass, all_operands_pass}
use Rattle.wasm_tree_spec.specs.Prelude.{BlockType, FuncType, MemArg, Instr, Import, ImportDesc, Func, ConstExpr, GlobalDef, Export, ExportDesc, ElemMode, ElemSeg, DataMode, DataSeg, Module}
use Rattle.wasm_tree.specs.Operands.{map_arg, map_block, mapped}
use Rattle.wasm_tree.specs.declared.module.ImportDesc.TheVariants as im
use Rattle.wasm_tree.specs.declared.module.ConstExpr.TheVariants as const
use Rattle.wasm_tree.specs.declared.module.ExportDesc.TheVariants as ex
use Rattle.wasm_tree.specs.declared.module.ElemMode.TheVariants as elem
use Rattle.wasm_tree.specs.declared.module.DataMode.TheVariants as data'
use Rattle.index_remap.specs.declared.remap.Remap.{Remap}

-- The map of an index space.
abbrev pub entries : Remap → Space → List ℕ
entries m Types = m.types
entries m Functions = m.funcs
entries m Tables = m.tables
entries m Memories = m.mems
entries m Globals = m.globals
entries m ElementSegments = m.elems
entries m DataSegments = m.datas

-- The new index of an old one.
abbrev pub entry : Remap → Space → ℕ → ℕ
entry m s i = slice_index (entries m s) i

abbrev pub has : List ℕ → ℕ → Bool
has list i = nat_lt i (length list)

-- ---- bodies ----

abbrev pub new_type : Remap → BlockType → BlockType
new_type m = map_block (entry m)

abbrev pub new_memarg : Remap → MemArg → MemArg
new_memarg m = map_arg (entry m)

abbrev pub renumbered : Remap → Instr → Instr
renumbered m = mapped (entry m)

abbrev pub renumbered_all : Remap → List Instr → List Instr
renumbered_all m = mapped_all (entry m)

-- ---- the parts of a module ----

abbrev pub new_const : Remap → ConstExpr → ConstExpr
new_const m (const.I32 v) = const.I32 v
new_const m (const.I64 v) = const.I64 v
new_const m (const.Null t) = const.Null t
new_const m (const.Func f) = const.Func (slice_index m.funcs f)
new_const m (const.Global g) = const.Global (slice_index m.globals g)

abbrev pub new_import_desc : Remap → ImportDesc → ImportDesc
new_import_desc m (im.Func ty) = im.Func (slice_index m.types ty)
new_import_desc m (im.Table t) = im.Table t
new_import_desc m (im.Memory l) = im.Memory l
new_import_desc m (im.Global t) = im.Global t

abbrev pub new_import : Remap → Import → Import
new_import m i = record i { desc = new_import_desc m i.desc }

abbrev pub new_func : Remap → Func → Func
new_func m f = record f { ty = slice_index m.types f.ty; body = renumbered_all m f.body }

abbrev pub new_global : Remap → GlobalDef → GlobalDef
new_global m g = record g { init = new_const m g.init }

abbrev pub new_export_desc : Remap → ExportDesc → ExportDesc
new_export_desc m (ex.Func i) = ex.Func (slice_index m.funcs i)
new_export_desc m (ex.Table i) = ex.Table (slice_index m.tables i)
new_export_desc m (ex.Memory i) = ex.Memory (slice_index m.mems i)
new_export_desc m (ex.Global i) = ex.Global (slice_index m.globals i)

abbrev pub new_export : Remap → Export → Export
new_export m e = record e { desc = new_export_desc m e.desc }

abbrev pub new_elem_mode : Remap → ElemMode → ElemMode
new_elem_mode m (elem.Active table offset) = elem.Active (slice_index m.tables table) (new_const m offset)
new_elem_mode m elem.Passive = elem.Passive
new_elem_mode m elem.Declarative = elem.Declarative

abbrev pub new_elem : Remap → ElemSeg → ElemSeg
new_elem m e = record e { mode = new_elem_mode m e.mode; items = map (new_const m) e.items }

abbrev pub new_data_mode : Remap → DataMode → DataMode
new_data_mode m (data'.Active memory offset) = data'.Active (slice_index m.mems memory) (new_const m offset)
new_data_mode m data'.Passive = data'.Passive

abbrev pub new_data : Remap → DataSeg → DataSeg
new_data m d = record d { mode = new_data_mode m d.mode }

abbrev pub new_start : Remap → Option ℕ → Option ℕ
new_start m None = None
new_start m (Some f) = Some (slice_index m.funcs f)

-- The tree with each index replaced by its entry.
abbrev pub renumbered_tree : Remap → Module → Module
renumbered_tree m t =
    record {
      types = t.types;
      imports = map (new_import m) t.imports;
      funcs = map (new_func m) t.funcs;
      tables = t.tables;
      mems = t.mems;
      globals = map (new_global m) t.globals;
      exports = map (new_export m) t.exports;
      start = new_start m t.start;
      elems = map (new_elem m) t.elems;
      datas = map (new_data m) t.datas;
    }

-- ---- an entry for every index that is named ----

-- The map of the index space has an entry for the index.
abbrev pub has_entry : Remap → Operand → Bool
has_entry m o = has (entries m o.space) o.index

abbrev pub fits_type : Remap → BlockType → Bool
fits_type m ty = list_all (has_entry m) (block_operands ty)

abbrev pub fits : Remap → Instr → Bool
fits m = operands_pass (has_entry m)

abbrev pub fits_all : Remap → List Instr → Bool
fits_all m = all_operands_pass (has_entry m)

abbrev pub fits_const : Remap → ConstExpr → Bool
fits_const m (const.I32 v) = true
fits_const m (const.I64 v) = true
fits_const m (const.Null t) = true
fits_const m (const.Func f) = has m.funcs f
fits_const m (const.Global g) = has m.globals g

abbrev pub fits_import_desc : Remap → ImportDesc → Bool
fits_import_desc m (im.Func ty) = has m.types ty
fits_import_desc m (im.Table t) = true
fits_import_desc m (im.Memory l) = true
fits_import_desc m (im.Global t) = true

abbrev pub fits_import : Remap → Import → Bool
fits_import m i = fits_import_desc m i.desc

abbrev pub fits_func : Remap → Func → Bool
fits_func m f = has m.types f.ty && fits_all m f.body

abbrev pub fits_global : Remap → GlobalDef → Bool
fits_global m g = fits_const m g.init

abbrev pub fits_export_desc : Remap → ExportDesc → Bool
fits_export_desc m (ex.Func i) = has m.funcs i
fits_export_desc m (ex.Table i) = has m.tables i
fits_export_desc m (ex.Memory i) = has m.mems i
fits_export_desc m (ex.Global i) = has m.globals i

abbrev pub fits_export : Remap → Export → Bool
fits_export m e = fits_export_desc m e.desc

abbrev pub fits_elem_mode : Remap → ElemMode → Bool
fits_elem_mode m (elem.Active table offset) = has m.tables table && fits_const m offset
fits_elem_mode m elem.Passive = true
fits_elem_mode m elem.Declarative = true

abbrev pub fits_elem : Remap → ElemSeg → Bool
fits_elem m e = fits_elem_mode m e.mode && list_all (fits_const m) e.items

abbrev pub fits_data_mode : Remap → DataMode → Bool
fits_data_mode m (data'.Active memory offset) = has m.mems memory && fits_const m offset
fits_data_mode m data'.Passive = true

abbrev pub fits_data : Remap → DataSeg → Bool
fits_data m d = fits_data_mode m d.mode

abbrev pub fits_start : Remap → Option ℕ → Bool
fits_start m None = true
fits_start m (Some f) = has m.funcs f

abbrev pub any_type : Remap → FuncType → Bool
any_type m t = true

-- The map has an entry for every index that the tree names.
abbrev pub fits_tree : Remap → Module → Bool
fits_tree m t =
    list_all (fits_import m) t.imports && (list_all (fits_func m) t.funcs && (list_all (fits_global m) t.globals && (list_all (fits_export m) t.exports
    && (fits_start m t.start && (list_all (fits_elem m) t.elems && list_all (fits_data m) t.datas)))))
