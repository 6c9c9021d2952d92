-- Sets of indices, and code and parts of a tree that name only indices of a set.
use Rattle.std.specs.Prelude.{◌≡◌, ℕ, Bool, IsTrue, Some, slice_get}
use Rattle.base_lists.specs.Every.{Every}
use Rattle.wasm_tree_spec.specs.Prelude.{Space, Types, Functions, Tables, Memories, Globals, operands, Instr, ConstExpr, Import, ImportDesc, Func, GlobalDef, Export, ExportDesc, ElemMode, ElemSeg}
use Rattle.wasm_tree_spec.specs.Prelude.{DataMode, DataSeg, Module, ListLayers}
use Rattle.wasm_tree.specs.declared.instr.Instr.TheOpen.{Instr-F}
use Rattle.wasm_tree.specs.declared.module.ConstExpr.TheVariants as const
use Rattle.wasm_tree.specs.declared.module.ImportDesc.TheVariants as im
use Rattle.wasm_tree.specs.declared.module.ExportDesc.TheVariants as ex
use Rattle.wasm_tree.specs.declared.module.ElemMode.TheVariants as elem
use Rattle.wasm_tree.specs.declared.module.DataMode.TheVariants as «data»
use Rattle.index_remap.specs.declared.remap.Remap.{Remap}
use Rattle.index_remap.specs.Prelude.{entries, has}

-- A set of indices of each index space.
abbrev pub Indices : Type 0
Indices = Space → ℕ → Bool

-- The indices that have an entry in the map.
abbrev pub with_entry : Remap → Indices
with_entry m space = has (entries m space)

-- ---- code ----

-- Each index that the layer itself names is in the set.
abbrev pub LayerNamesOnly : Indices → Instr-F Instr → Type 0
LayerNamesOnly kept layer = Every (λ o. IsTrue (kept o.space o.index)) (operands layer)

-- ---- the parts of a tree ----

abbrev pub ConstNamesOnly : Indices → ConstExpr → Type 0
ConstNamesOnly kept (const.I32 v) = Unit {0}
ConstNamesOnly kept (const.I64 v) = Unit {0}
ConstNamesOnly kept (const.Null ty) = Unit {0}
ConstNamesOnly kept (const.Func func) = IsTrue (kept Functions func)
ConstNamesOnly kept (const.Global global) = IsTrue (kept Globals global)

abbrev pub ImportNamesOnly : Indices → ImportDesc → Type 0
ImportNamesOnly kept (im.Func ty) = IsTrue (kept Types ty)
ImportNamesOnly kept (im.Table ty) = Unit {0}
ImportNamesOnly kept (im.Memory limits) = Unit {0}
ImportNamesOnly kept (im.Global ty) = Unit {0}

abbrev pub FuncNamesOnly : Indices → Func → Type 0
FuncNamesOnly kept f = IsTrue (kept Types f.ty) × ListLayers (LayerNamesOnly kept) f.body

abbrev pub ExportNamesOnly : Indices → ExportDesc → Type 0
ExportNamesOnly kept (ex.Func func) = IsTrue (kept Functions func)
ExportNamesOnly kept (ex.Table table) = IsTrue (kept Tables table)
ExportNamesOnly kept (ex.Memory memory) = IsTrue (kept Memories memory)
ExportNamesOnly kept (ex.Global global) = IsTrue (kept Globals global)

abbrev pub ElemModeNamesOnly : Indices → ElemMode → Type 0
ElemModeNamesOnly kept (elem.Active table offset) = IsTrue (kept Tables table) × ConstNamesOnly kept offset
ElemModeNamesOnly kept elem.Passive = Unit {0}
ElemModeNamesOnly kept elem.Declarative = Unit {0}

abbrev pub DataModeNamesOnly : Indices → DataMode → Type 0
DataModeNamesOnly kept («data».Active memory offset) = IsTrue (kept Memories memory) × ConstNamesOnly kept offset
DataModeNamesOnly kept «data».Passive = Unit {0}

-- Each index that the tree names is in the set.
pub record TreeNamesOnly (kept : Indices) (t : Module) : Type 0 where
  pub imports : (i : ℕ) (x : Import) → slice_get t.imports i ≡ Some x → ImportNamesOnly kept x.desc
  pub funcs : (i : ℕ) (f : Func) → slice_get t.funcs i ≡ Some f → FuncNamesOnly kept f
  pub globals : (i : ℕ) (g : GlobalDef) → slice_get t.globals i ≡ Some g → ConstNamesOnly kept g.init
  pub exports : (i : ℕ) (e : Export) → slice_get t.exports i ≡ Some e → ExportNamesOnly kept e.desc
  pub start : (f : ℕ) → t.start ≡ Some f → IsTrue (kept Functions f)
  pub items : (i p : ℕ) (a : ElemSeg) (e : ConstExpr) → slice_get t.elems i ≡ Some a → slice_get a.items p ≡ Some e → ConstNamesOnly kept e
  pub elem_modes : (i : ℕ) (a : ElemSeg) → slice_get t.elems i ≡ Some a → ElemModeNamesOnly kept a.mode
  pub data_modes : (i : ℕ) (a : DataSeg) → slice_get t.datas i ≡ Some a → DataModeNamesOnly kept a.mode
