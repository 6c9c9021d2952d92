-- What moves from a part into the merged module: what the part defines, with new indices, and with
-- values in place of the globals that it imports.
use Rattle.std.specs.Prelude.{◌≡◌, ℕ, List, ◌++◌, map, Some, slice_get, slice_index, unwrap_or}
use Rattle.wasm_tree_spec.specs.Prelude.{ConstExpr, GlobalDef, ElemMode, ElemSeg, DataMode, DataSeg, Module}
use Rattle.wasm_tree.specs.declared.module.ConstExpr.TheVariants as const
use Rattle.wasm_tree.specs.declared.module.ElemMode.TheVariants as elem
use Rattle.wasm_tree.specs.declared.module.DataMode.TheVariants as data'
use Rattle.wasm_meaning.specs.Prelude.{Part, module_at}
use Rattle.index_remap.specs.declared.remap.Remap.{Remap}
use Rattle.index_remap.specs.Prelude.{new_const, new_func}
use Rattle.merge_spec.specs.Prelude.{merged_const}
use Rattle.merge_join.specs.Reads.{HasType}

-- a constant expression with new indices; one that reads an imported global becomes the entry of
-- `values` for it, if there is one
abbrev pub moved_const : Remap → List ConstExpr → ConstExpr → ConstExpr
moved_const m values (const.I32 v) = new_const m (const.I32 v)
moved_const m values (const.I64 v) = new_const m (const.I64 v)
moved_const m values (const.Null t) = new_const m (const.Null t)
moved_const m values (const.Func f) = new_const m (const.Func f)
moved_const m values (const.Global g) = unwrap_or (slice_get values g) (const.Global g)

abbrev pub moved_global : Remap → List ConstExpr → GlobalDef → GlobalDef
moved_global m values g = record g { init = moved_const m values g.init }

abbrev pub moved_elem_mode : Remap → List ConstExpr → ElemMode → ElemMode
moved_elem_mode m values (elem.Active table offset) = elem.Active (slice_index m.tables table) (moved_const m values offset)
moved_elem_mode m values elem.Passive = elem.Passive
moved_elem_mode m values elem.Declarative = elem.Declarative

abbrev pub moved_elem : Remap → List ConstExpr → ElemSeg → ElemSeg
moved_elem m values e = record e { mode = moved_elem_mode m values e.mode; items = map (moved_const m values) e.items }

abbrev pub moved_data_mode : Remap → List ConstExpr → DataMode → DataMode
moved_data_mode m values (data'.Active memory offset) = data'.Active (slice_index m.mems memory) (moved_const m values offset)
moved_data_mode m values data'.Passive = data'.Passive

abbrev pub moved_data : Remap → List ConstExpr → DataSeg → DataSeg
moved_data m values d = record d { mode = moved_data_mode m values d.mode }

-- the module with what it defines rewritten
abbrev pub rewritten : Remap → List ConstExpr → Module → Module
rewritten m values new =
    record new {
      funcs = map (new_func m) new.funcs;
      globals = map (moved_global m values) new.globals;
      elems = map (moved_elem m values) new.elems;
      datas = map (moved_data m values) new.datas;
    }

-- the tree `t` with what `new` defines at the end of its lists
abbrev pub with_defined : Module → Module → Module
with_defined new t =
    record t {
      funcs = t.funcs ++ new.funcs;
      tables = t.tables ++ new.tables;
      mems = t.mems ++ new.mems;
      globals = t.globals ++ new.globals;
      elems = t.elems ++ new.elems;
      datas = t.datas ++ new.datas;
    }

-- the tree `t` with what `new` defines, rewritten, at the end of its lists
abbrev pub with_moved : Remap → List ConstExpr → Module → Module → Module
with_moved m values new t = with_defined (rewritten m values new) t

-- `values` has what replaces each imported global of the part that a constant expression may name
abbrev pub AreValues : List Part → ℕ → List ConstExpr → Type 0
AreValues ps p values = (x : ℕ) → HasType ps p (const.Global x) → slice_get values x ≡ Some (merged_const ps p (const.Global x))

-- `all` has such values for each part
abbrev pub AreAllValues : List Part → List (List ConstExpr) → Type 0
AreAllValues ps all = (p : ℕ) (m : Module) → module_at ps p ≡ Some m → (values : List ConstExpr) × (slice_get all p ≡ Some values) × AreValues ps p values
