-- The numbers of an encoded file are in range.
use Rattle.base_lists.proofs.Common.{◌≡◌, ℕ, List, [], ◌∷◌, sym, subst, arith, true, false, ◌==◌, map}
use Rattle.wasm_bytes.specs.Prelude.{U32, Vector, Section, Sized}
use Rattle.wasm_tree_spec.specs.Prelude.{TableType, GlobalDef, DataSeg, LocalGroup, Func, Module}
use Rattle.wasm_tree.specs.declared.module.ImportDesc.TheVariants as import
use Rattle.wasm_tree.specs.declared.module.ExportDesc.TheVariants as export
use Rattle.wasm_tree.specs.declared.module.ConstExpr.TheVariants as const
use Rattle.wasm_read_spec.specs.declared.parts.Parts.{Parts}
use Rattle.base_lists.specs.Every.{Every}
use Rattle.wasm_read_spec.specs.Prelude.{MadeFrom, Both, After, SpellsRef, SpellsFuncType, at_least, between, SpellsLimits, SpellsTable, SpellsGlobal, SpellsConst, SpellsImport, SpellsGlobalDef, SpellsExport, FuncItems, ConstItems, elem0, elem1, elem2, elem3, elem5, elem6, elem7, SpellsElem, data0}
use Rattle.wasm_read_spec.specs.Prelude.{data1, data2, SpellsData, SpellsGroup, SpellsEntry, nothing, with_types, with_imports, with_func_types, with_tables, with_mems, with_globals, with_exports, with_start, with_elems, with_codes, with_datas, with_count, SectionContents, typed, tree_of, Spells}
use Rattle.wasm_read_spec.specs.Prelude.{CodeEntry, code_in, untyped}
use Rattle.wasm_read_spec.specs.SpellingForms.{S32, S64}
use Rattle.wasm_read_spec.specs.Values.{limits_form, const_form}
use Rattle.wasm_read_spec.specs.Sections.{import_form, export_form, elem_form, data_form}
use Rattle.wasm_read_spec.specs.Files.{section_form}
use Rattle.wasm_write_proof.specs.Ranges.{all_in_range, IsU32, MaxInRange, LimitsInRange, ConstInRange, ImportDescInRange, ImportInRange, ExportDescInRange, ExportInRange, ElemInRange, DataModeInRange, FuncInRange, InRange, EncodesOnly}
use Rattle.wasm_write_proof.proofs.NumberRanges.{RangeLaws, u32_in, says_when, says_made, says_never, says_vector}
use Rattle.wasm_write_proof.proofs.BodyRanges.{body_in}

abbrev DataInRange : DataSeg → Type 0
DataInRange s = DataModeInRange s.mode

abbrev CodeInRange : CodeEntry → Type 0
CodeInRange c = Every (λ (g : LocalGroup). IsU32 g.count) c.locals × (all_in_range c.body ≡ true)

record PartsInRange (p : Parts) : Type 0 where
  imports : Every ImportInRange p.imports
  func_types : Every IsU32 p.func_types
  tables : Every (λ (t : TableType). LimitsInRange t.limits) p.tables
  mems : Every LimitsInRange p.mems
  globals : Every (λ (g : GlobalDef). ConstInRange g.init) p.globals
  exports : Every ExportInRange p.exports
  start : MaxInRange p.start
  elems : Every ElemInRange p.elems
  codes : Every (λ f. CodeInRange (code_in f)) p.codes
  datas : Every DataInRange p.datas

module _ (laws : RangeLaws) where
  -- ---- what the sections hold

  limits_in : EncodesOnly LimitsInRange SpellsLimits
  unfolding limits_form
  limits_in bytes l h =
      says_when LimitsInRange _ _ (h.0 == 0x00) (says_made LimitsInRange at_least U32 (λ b n u. (u32_in laws b n u, tt)))
      (says_when LimitsInRange _ _ (h.0 == 0x01) (says_made LimitsInRange between (Both U32 U32) (λ b p u. (u32_in laws u.0 p.0 u.2, u32_in laws u.1 p.1 u.3)))
      (says_never LimitsInRange)) h.1.1 l h.1.3

  table_in : EncodesOnly (λ (t : TableType). LimitsInRange t.limits) SpellsTable
  table_in bytes t h = limits_in h.1 t.limits h.3

  const_in : EncodesOnly ConstInRange SpellsConst
  unfolding const_form
  const_in bytes c h =
      let k = h.2 in
      says_when ConstInRange _ _ (k.0 == 0x41) (says_made ConstInRange const.I32 S32 (λ b z s. laws.signed 32 b z s))
      (says_when ConstInRange _ _ (k.0 == 0x42) (says_made ConstInRange const.I64 S64 (λ b z s. laws.signed 64 b z s))
      (says_when ConstInRange _ _ (k.0 == 0xD0) (says_made ConstInRange const.Null SpellsRef (λ b t s. tt))
      (says_when ConstInRange _ _ (k.0 == 0xD2) (says_made ConstInRange const.Func U32 (u32_in laws))
      (says_when ConstInRange _ _ (k.0 == 0x23) (says_made ConstInRange const.Global U32 (u32_in laws))
      (says_never ConstInRange))))) k.1.1 c k.1.3

  import_desc_in : (k : ℕ) → EncodesOnly ImportDescInRange (import_form k)
  unfolding import_form
  import_desc_in k =
      says_when ImportDescInRange _ _ (k == 0x00) (says_made ImportDescInRange import.Func U32 (u32_in laws))
      (says_when ImportDescInRange _ _ (k == 0x01) (says_made ImportDescInRange import.Table SpellsTable table_in)
      (says_when ImportDescInRange _ _ (k == 0x02) (says_made ImportDescInRange import.Memory SpellsLimits limits_in)
      (says_when ImportDescInRange _ _ (k == 0x03) (says_made ImportDescInRange import.Global SpellsGlobal (λ b g s. tt))
      (says_never ImportDescInRange))))

  import_in : EncodesOnly ImportInRange SpellsImport
  import_in bytes i h = let d = h.3.3 in (h.2.0, h.3.2.0, import_desc_in d.0 d.1.1 i.desc d.1.3)

  global_in : EncodesOnly (λ (g : GlobalDef). ConstInRange g.init) SpellsGlobalDef
  global_in bytes g h = const_in h.1 g.init h.3

  export_desc_in : (k : ℕ) → EncodesOnly ExportDescInRange (export_form k)
  unfolding export_form
  export_desc_in k =
      says_when ExportDescInRange _ _ (k == 0x00) (says_made ExportDescInRange export.Func U32 (u32_in laws))
      (says_when ExportDescInRange _ _ (k == 0x01) (says_made ExportDescInRange export.Table U32 (u32_in laws))
      (says_when ExportDescInRange _ _ (k == 0x02) (says_made ExportDescInRange export.Memory U32 (u32_in laws))
      (says_when ExportDescInRange _ _ (k == 0x03) (says_made ExportDescInRange export.Global U32 (u32_in laws))
      (says_never ExportDescInRange))))

  export_in : EncodesOnly ExportInRange SpellsExport
  export_in bytes e h = let d = h.3 in (h.2.0, export_desc_in d.0 d.1.1 e.desc d.1.3)

  -- ---- segments

  zero_in : IsU32 0
  zero_in = omega arith

  func_item_in : EncodesOnly ConstInRange (MadeFrom const.Func U32)
  func_item_in = says_made ConstInRange const.Func U32 (u32_in laws)

  func_items_in : EncodesOnly (Every ConstInRange) FuncItems
  func_items_in = says_vector ConstInRange (MadeFrom const.Func U32) func_item_in

  const_items_in : EncodesOnly (Every ConstInRange) ConstItems
  const_items_in = says_vector ConstInRange SpellsConst const_in

  elem_form_in : (n : ℕ) → EncodesOnly ElemInRange (elem_form n)
  unfolding elem_form
  elem_form_in n =
      says_when ElemInRange _ _ (n == 0) (says_made ElemInRange elem0 (Both SpellsConst FuncItems) (λ b p s. ((zero_in, const_in s.0 p.0 s.2), func_items_in s.1 p.1 s.3)))
      (says_when ElemInRange _ _ (n == 1) (says_made ElemInRange elem1 (After 0x00 FuncItems) (λ b xs s. (tt, func_items_in s.0 xs s.1)))
      (says_when ElemInRange _ _ (n == 2) (says_made ElemInRange elem2 (Both U32 (Both SpellsConst (After 0x00 FuncItems)))
      (λ b p s. let r = s.3 in ((u32_in laws s.0 p.0 s.2, const_in r.0 p.1.0 r.2), func_items_in r.3.0 p.1.1 r.3.1)))
      (says_when ElemInRange _ _ (n == 3) (says_made ElemInRange elem3 (After 0x00 FuncItems) (λ b xs s. (tt, func_items_in s.0 xs s.1)))
      (says_when ElemInRange _ _ (n == 4) (says_made ElemInRange elem0 (Both SpellsConst ConstItems) (λ b p s. ((zero_in, const_in s.0 p.0 s.2), const_items_in s.1 p.1 s.3)))
      (says_when ElemInRange _ _ (n == 5) (says_made ElemInRange elem5 (Both SpellsRef ConstItems) (λ b p s. (tt, const_items_in s.1 p.1 s.3)))
      (says_when ElemInRange _ _ (n == 6) (says_made ElemInRange elem6 (Both U32 (Both SpellsConst (Both SpellsRef ConstItems)))
      (λ b p s. let r = s.3 in ((u32_in laws s.0 p.0 s.2, const_in r.0 p.1.0 r.2), const_items_in r.3.1 p.1.1.1 r.3.3)))
      (says_when ElemInRange _ _ (n == 7) (says_made ElemInRange elem7 (Both SpellsRef ConstItems) (λ b p s. (tt, const_items_in s.1 p.1 s.3)))
      (says_never ElemInRange))))))))

  elem_in : EncodesOnly ElemInRange SpellsElem
  elem_in bytes s h = elem_form_in h.0 h.1.1 s h.1.3

  data_form_in : (n : ℕ) → EncodesOnly DataInRange (data_form n)
  unfolding data_form
  data_form_in n =
      says_when DataInRange _ _ (n == 0) (says_made DataInRange data0 (Both SpellsConst Sized) (λ b p s. (zero_in, const_in s.0 p.0 s.2)))
      (says_when DataInRange _ _ (n == 1) (says_made DataInRange data1 Sized (λ b xs s. tt))
      (says_when DataInRange _ _ (n == 2) (says_made DataInRange data2 (Both U32 (Both SpellsConst Sized)) (λ b p s. let r = s.3 in (u32_in laws s.0 p.0 s.2, const_in r.0 p.1.0 r.2)))
      (says_never DataInRange)))

  data_in : EncodesOnly DataInRange SpellsData
  data_in bytes s h = data_form_in h.0 h.1.1 s h.1.3

  -- ---- code entries

  group_in : EncodesOnly (λ (g : LocalGroup). IsU32 g.count) SpellsGroup
  group_in bytes g h = u32_in laws h.0 g.count h.2

  entry_in : EncodesOnly CodeInRange (SpellsEntry false)
  entry_in bytes c h = let b = h.2 in (says_vector (λ (g : LocalGroup). IsU32 g.count) SpellsGroup group_in b.0 c.locals b.2, body_in laws b.1 c.body b.3)

  codes_in : (cs : List CodeEntry) → Every CodeInRange cs → Every (λ f. CodeInRange (code_in f)) (map untyped cs)
  codes_in [] h = tt
  codes_in (c ∷ cs) h = (h.0, codes_in cs h.1)

  -- ---- the parts

  in_kept : (p : Parts) (id : ℕ) → PartsInRange p → EncodesOnly PartsInRange (section_form false p id)
  unfolding section_form
  in_kept p id r =
      says_when PartsInRange _ _ (id == 0) (λ c q h. subst PartsInRange (sym h.1) r)
      (says_when PartsInRange _ _ (id == 1) (says_made PartsInRange (with_types p) (Vector SpellsFuncType)
      (λ c x h. record { imports = r.imports; func_types = r.func_types; tables = r.tables; mems = r.mems; globals = r.globals; exports = r.exports; start = r.start; elems = r.elems; codes = r.codes; datas = r.datas }))
      (says_when PartsInRange _ _ (id == 2) (says_made PartsInRange (with_imports p) (Vector SpellsImport)
      (λ c x h. record { imports = says_vector ImportInRange SpellsImport import_in c x h; func_types = r.func_types; tables = r.tables; mems = r.mems; globals = r.globals; exports = r.exports; start = r.start; elems = r.elems; codes = r.codes; datas = r.datas }))
      (says_when PartsInRange _ _ (id == 3) (says_made PartsInRange (with_func_types p) (Vector U32) (λ c x h.
      record { imports = r.imports; func_types = says_vector IsU32 U32 (u32_in laws) c x h; tables = r.tables; mems = r.mems; globals = r.globals; exports = r.exports; start = r.start; elems = r.elems; codes = r.codes; datas = r.datas }))
      (says_when PartsInRange _ _ (id == 4) (says_made PartsInRange (with_tables p) (Vector SpellsTable) (λ c x h.
      record { imports = r.imports; func_types = r.func_types; tables = says_vector (λ (t : TableType). LimitsInRange t.limits) SpellsTable table_in c x h; mems = r.mems; globals = r.globals; exports = r.exports; start = r.start; elems = r.elems; codes = r.codes; datas = r.datas }))
      (says_when PartsInRange _ _ (id == 5) (says_made PartsInRange (with_mems p) (Vector SpellsLimits) (λ c x h.
      record { imports = r.imports; func_types = r.func_types; tables = r.tables; mems = says_vector LimitsInRange SpellsLimits limits_in c x h; globals = r.globals; exports = r.exports; start = r.start; elems = r.elems; codes = r.codes; datas = r.datas }))
      (says_when PartsInRange _ _ (id == 6) (says_made PartsInRange (with_globals p) (Vector SpellsGlobalDef)
      (λ c x h. record { imports = r.imports; func_types = r.func_types; tables = r.tables; mems = r.mems; globals = says_vector (λ (g : GlobalDef). ConstInRange g.init) SpellsGlobalDef global_in c x h; exports = r.exports; start = r.start; elems = r.elems; codes = r.codes; datas = r.datas }))
      (says_when PartsInRange _ _ (id == 7) (says_made PartsInRange (with_exports p) (Vector SpellsExport)
      (λ c x h. record { imports = r.imports; func_types = r.func_types; tables = r.tables; mems = r.mems; globals = r.globals; exports = says_vector ExportInRange SpellsExport export_in c x h; start = r.start; elems = r.elems; codes = r.codes; datas = r.datas }))
      (says_when PartsInRange _ _ (id == 8) (says_made PartsInRange (with_start p) (U32) (λ c x h. record {
        imports = r.imports;
        func_types = r.func_types;
        tables = r.tables;
        mems = r.mems;
        globals = r.globals;
        exports = r.exports;
        start = u32_in laws c x h;
        elems = r.elems;
        codes = r.codes;
        datas = r.datas;
      }))
      (says_when PartsInRange _ _ (id == 9) (says_made PartsInRange (with_elems p) (Vector SpellsElem) (λ c x h.
      record { imports = r.imports; func_types = r.func_types; tables = r.tables; mems = r.mems; globals = r.globals; exports = r.exports; start = r.start; elems = says_vector ElemInRange SpellsElem elem_in c x h; codes = r.codes; datas = r.datas }))
      (says_when PartsInRange _ _ (id == 10) (says_made PartsInRange (with_codes p) (Vector (SpellsEntry false))
      (λ c x h. record { imports = r.imports; func_types = r.func_types; tables = r.tables; mems = r.mems; globals = r.globals; exports = r.exports; start = r.start; elems = r.elems; codes = codes_in x (says_vector CodeInRange (SpellsEntry false) entry_in c x h); datas = r.datas }))
      (says_when PartsInRange _ _ (id == 11) (says_made PartsInRange (with_datas p) (Vector SpellsData) (λ c x h.
      record { imports = r.imports; func_types = r.func_types; tables = r.tables; mems = r.mems; globals = r.globals; exports = r.exports; start = r.start; elems = r.elems; codes = r.codes; datas = says_vector DataInRange SpellsData data_in c x h }))
      (says_when PartsInRange _ _ (id == 12) (says_made PartsInRange (with_count p) (U32) (λ c x h. record
      { imports = r.imports; func_types = r.func_types; tables = r.tables; mems = r.mems; globals = r.globals; exports = r.exports; start = r.start; elems = r.elems; codes = r.codes; datas = r.datas }))
      (says_never PartsInRange)))))))))))))

  contents_in : (p : Parts) (ss : List Section) (q : Parts) → PartsInRange p → SectionContents false p ss q → PartsInRange q
  contents_in p [] q r h = subst PartsInRange h r
  contents_in p (s ∷ ss) q r h = contents_in h.0 ss q (in_kept p s.0 r s.1 h.0 h.1) h.2

  nothing_in : PartsInRange nothing
  nothing_in = record { imports = tt; func_types = tt; tables = tt; mems = tt; globals = tt; exports = tt; start = tt; elems = tt; codes = tt; datas = tt }

  typed_in : (ts : List ℕ) (fs : List Func) → Every IsU32 ts → Every (λ f. CodeInRange (code_in f)) fs → Every FuncInRange (typed ts fs)
  typed_in [] fs h k = tt
  typed_in (t ∷ ts) [] h k = tt
  typed_in (t ∷ ts) (f ∷ fs) h k = ((h.0, (k.0.0, k.0.1)), typed_in ts fs h.1 k.1)

  tree_in : (p : Parts) → PartsInRange p → InRange (tree_of p)
  tree_in p r = record { imports = r.imports; funcs = typed_in p.func_types p.codes r.func_types r.codes; tables = r.tables; mems = r.mems; globals = r.globals; exports = r.exports; start = r.start; elems = r.elems; datas = r.datas }

  pub spelled_in_range : (bytes : List ℕ) (m : Module) → Spells bytes m false → InRange m
  spelled_in_range bytes m h = subst InRange (sym h.5) (tree_in h.1 (contents_in nothing h.0 h.1 nothing_in h.3))
