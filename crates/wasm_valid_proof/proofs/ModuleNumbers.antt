-- A module in range has its numbers that are no indices in range, and they stay in range when its
-- indices are replaced and when references are declared.
use Rattle.base_lists.proofs.Common.{ℕ, List, [], ◌∷◌, map, IsUtf8, right_true, ◌∙◌}
use Rattle.base_lists.proofs.Every.{every_with, every_map, every_append}
use Rattle.base_lists.specs.Every.{Every}
use Rattle.wasm_tree_spec.specs.Prelude.{ConstExpr, ImportDesc, Import, Export, Func, GlobalDef, ElemMode, ElemSeg, DataMode, DataSeg, Module, all_operands_pass}
use Rattle.wasm_tree.specs.declared.module.ConstExpr.TheVariants as const
use Rattle.wasm_tree.specs.declared.module.ImportDesc.TheVariants as im
use Rattle.wasm_tree.specs.declared.module.ElemMode.TheVariants as elem
use Rattle.wasm_tree.specs.declared.module.DataMode.TheVariants as segment
use Rattle.index_remap.specs.declared.remap.Remap.{Remap}
use Rattle.index_remap.specs.Prelude.{declaring, with_declared, entry, new_const, new_data, new_data_mode, new_elem, new_elem_mode, new_export, new_func, new_global, new_import, new_import_desc, renumbered_tree}
use Rattle.wasm_write_proof.specs.Ranges.{small_operand, all_numbers_in, ConstInRange, DataModeInRange, ElemInRange, ElemModeInRange, ExportInRange, FuncInRange, ImportDescInRange, ImportInRange, InRange, NumbersStay}
use Rattle.wasm_valid_proof.specs.Numbers.{ConstNumberInRange, DataOffsetInRange, ElemNumbersInRange, ElemOffsetInRange, FuncNumbersInRange, ImportLimitsInRange, ImportNumbersInRange, NumbersInRange}

-- ---- constant expressions ----

number_of : (e : ConstExpr) → ConstInRange e → ConstNumberInRange e
number_of (const.I32 z) h = h
number_of (const.I64 z) h = h
number_of (const.Null t) h = tt
number_of (const.Func f) h = tt
number_of (const.Global g) h = tt

pub new_number : (r : Remap) (e : ConstExpr) → ConstNumberInRange e → ConstNumberInRange (new_const r e)
new_number r (const.I32 z) h = h
new_number r (const.I64 z) h = h
new_number r (const.Null t) h = tt
new_number r (const.Func f) h = tt
new_number r (const.Global g) h = tt

-- ---- a module in range ----

limits_of_desc : (d : ImportDesc) → ImportDescInRange d → ImportLimitsInRange d
limits_of_desc (im.Func ty) h = tt
limits_of_desc (im.Table t) h = h
limits_of_desc (im.Memory l) h = h
limits_of_desc (im.Global g) h = tt

offset_of_elem : (m : ElemMode) → ElemModeInRange m → ElemOffsetInRange m
offset_of_elem (elem.Active table offset) h = number_of offset h.1
offset_of_elem elem.Passive h = tt
offset_of_elem elem.Declarative h = tt

offset_of_data : (m : DataMode) → DataModeInRange m → DataOffsetInRange m
offset_of_data (segment.Active memory offset) h = number_of offset h.1
offset_of_data segment.Passive h = tt

func_of_range : (f : Func) → FuncInRange f → FuncNumbersInRange f
func_of_range f h = (h.1.0, right_true (all_operands_pass small_operand f.body) (all_numbers_in f.body) h.1.1)

elem_of_range : (s : ElemSeg) → ElemInRange s → ElemNumbersInRange s
elem_of_range s h = (offset_of_elem s.mode h.0, every_with ConstInRange ConstNumberInRange s.items number_of h.1)

pub numbers_of_range : (m : Module) → InRange m → NumbersInRange m
numbers_of_range m h = record {
  imports = every_with ImportInRange ImportNumbersInRange m.imports (λ i q. (q.0, q.1, limits_of_desc i.desc q.2)) h.imports;
  funcs = every_with FuncInRange FuncNumbersInRange m.funcs func_of_range h.funcs;
  tables = h.tables;
  mems = h.mems;
  globals = every_with (λ (g : GlobalDef). ConstInRange g.init) (λ (g : GlobalDef). ConstNumberInRange g.init) m.globals (λ g q. number_of g.init q) h.globals;
  exports = every_with ExportInRange (λ (e : Export). IsUtf8 e.name) m.exports (λ e q. q.0) h.exports;
  elems = every_with ElemInRange ElemNumbersInRange m.elems elem_of_range h.elems;
  datas = every_with (λ (s : DataSeg). DataModeInRange s.mode) (λ (s : DataSeg). DataOffsetInRange s.mode) m.datas (λ s q. offset_of_data s.mode q) h.datas;
}

-- ---- other indices ----

module _ (stay : NumbersStay) (r : Remap) where
  desc_stays : (d : ImportDesc) → ImportLimitsInRange d → ImportLimitsInRange (new_import_desc r d)
  desc_stays (im.Func ty) h = tt
  desc_stays (im.Table t) h = h
  desc_stays (im.Memory l) h = h
  desc_stays (im.Global g) h = tt

  import_stays : (i : Import) → ImportNumbersInRange i → ImportNumbersInRange (new_import r i)
  import_stays i h = (h.0, h.1, desc_stays i.desc h.2)

  func_stays : (f : Func) → FuncNumbersInRange f → FuncNumbersInRange (new_func r f)
  func_stays f h = (h.0, stay (entry r) f.body ∙ h.1)

  mode_stays : (m : ElemMode) → ElemOffsetInRange m → ElemOffsetInRange (new_elem_mode r m)
  mode_stays (elem.Active table offset) h = new_number r offset h
  mode_stays elem.Passive h = tt
  mode_stays elem.Declarative h = tt

  elem_stays : (s : ElemSeg) → ElemNumbersInRange s → ElemNumbersInRange (new_elem r s)
  elem_stays s h = (mode_stays s.mode h.0, every_map ConstNumberInRange ConstNumberInRange (new_const r) (new_number r) s.items h.1)

  data_stays : (m : DataMode) → DataOffsetInRange m → DataOffsetInRange (new_data_mode r m)
  data_stays (segment.Active memory offset) h = new_number r offset h
  data_stays segment.Passive h = tt

  pub renumbered_numbers : (t : Module) → NumbersInRange t → NumbersInRange (renumbered_tree r t)
  renumbered_numbers t h = record {
    imports = every_map ImportNumbersInRange ImportNumbersInRange (new_import r) import_stays t.imports h.imports;
    funcs = every_map FuncNumbersInRange FuncNumbersInRange (new_func r) func_stays t.funcs h.funcs;
    tables = h.tables;
    mems = h.mems;
    globals = every_map (λ (g : GlobalDef). ConstNumberInRange g.init) (λ (g : GlobalDef). ConstNumberInRange g.init) (new_global r) (λ g q. new_number r g.init q) t.globals h.globals;
    exports = every_map (λ (e : Export). IsUtf8 e.name) (λ (e : Export). IsUtf8 e.name) (new_export r) (λ e q. q) t.exports h.exports;
    elems = every_map ElemNumbersInRange ElemNumbersInRange (new_elem r) elem_stays t.elems h.elems;
    datas = every_map (λ (s : DataSeg). DataOffsetInRange s.mode) (λ (s : DataSeg). DataOffsetInRange s.mode) (new_data r) (λ s q. data_stays s.mode q) t.datas h.datas;
  }

-- ---- the segment that declares functions ----

func_consts : (fs : List ℕ) → Every ConstNumberInRange (map const.Func fs)
func_consts [] = tt
func_consts (f ∷ fs) = (tt, func_consts fs)

pub declared_numbers : (m : Module) (fs : List ℕ) → NumbersInRange m → NumbersInRange (with_declared m fs)
declared_numbers m [] k = k
declared_numbers m (f ∷ fs) k = record {
  imports = k.imports;
  funcs = k.funcs;
  tables = k.tables;
  mems = k.mems;
  globals = k.globals;
  exports = k.exports;
  elems = every_append ElemNumbersInRange m.elems (declaring (f ∷ fs) ∷ []) k.elems ((tt, func_consts (f ∷ fs)), tt);
  datas = k.datas;
}
