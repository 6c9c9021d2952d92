-- A valid tree names only indices of its spaces.
use Rattle.base_lists.proofs.Common.{◌≡◌, ℕ, zero, suc, ◌<◌, ◌≤◌, true, IsTrue, List, [], length, Option, Some, None, refl, sym, ap, subst, arith, slice_get, option_and_then, ltb-true, lt-ltb, length-map, slice_get_within, and_then_is, list_all_from, and_from, only_true}
use Rattle.base_kept.proofs.Marks.{marks_length}
use Rattle.wasm_tree_spec.specs.Prelude.{ValType, RefType, FuncType, Import, ImportDesc, Export, ExportDesc, ElemMode, ElemSeg, DataMode, DataSeg, GlobalDef, ConstExpr, Func, Module, funcs_of, tables_of, memories_of, globals_of, type_of_func, PassesLayerByLayer}
use Rattle.wasm_tree.specs.declared.module.ImportDesc.TheVariants as im
use Rattle.wasm_tree.specs.declared.module.ExportDesc.TheVariants as ex
use Rattle.wasm_tree.specs.declared.module.ElemMode.TheVariants as elem
use Rattle.wasm_tree.specs.declared.module.DataMode.TheVariants as «data»
use Rattle.wasm_tree.specs.declared.module.ConstExpr.TheVariants as const
use Rattle.wasm_valid.specs.declared.kinds.ItemKind.TheVariants as kind
use Rattle.wasm_valid.specs.Prelude.{const_type, refs_of, table_types, HoldsAt, ImportHolds, InSpace, ElemModeHolds, DataModeHolds, IsValid, body_context, start_count, ValidWhereItemsHold, ItemsHold}
use Rattle.index_remap.specs.declared.remap.Remap.{Remap}
use Rattle.index_remap.specs.Prelude.{has, fits_const, fits_func, fits_import, fits_import_desc, fits_global, fits_export, fits_export_desc, fits_elem, fits_elem_mode, fits_data, fits_start, fits_tree}
use Rattle.index_remap.specs.Renumbered.{fits_data_mode}
use Rattle.index_remap_proof.specs.Along.{CoversContext}
use Rattle.index_remap_proof.specs.Trees.{Covers}
use Rattle.index_remap_proof.proofs.Lists.{has_at}
use Rattle.index_remap_proof.proofs.Entries.{body_fits}

func_there : (t : Module) (x : ℕ) (ft : FuncType) → type_of_func t x ≡ Some ft → x < length (funcs_of t)
func_there t x ft h = here (slice_get (funcs_of t) x) refl h
  where
    here : (o : Option ℕ) → slice_get (funcs_of t) x ≡ o → option_and_then (slice_get t.types) o ≡ Some ft → x < length (funcs_of t)
    here None e k = absurd (let z = k in cc)
    here (Some y) e k = slice_get_within (funcs_of t) x y e

module _ (law : PassesLayerByLayer) (m : Remap) (t : Module) (k : Covers m t) where
  has_here : (ys : List ℕ) (n x : ℕ) → n ≤ length ys → x < n → has ys x ≡ true
  has_here ys n x le lt = lt-ltb _ _ (omega arith)

  covers_context : (f : Func) (ft : FuncType) → CoversContext m (body_context t f ft)
  covers_context f ft =
      let a = length-map (tables_of t) (λ x. x.ty) in
      let b = length-map t.elems (λ x. x.ty) in
      let c = marks_length (refs_of t) 0 (length (funcs_of t)) in
      record {
        types = k.types;
        funcs = k.funcs;
        tables = (let le = k.tables in omega (arith, a));
        memories = k.memories;
        globals = k.globals;
        elems = (let le = k.elems in omega (arith, b));
        datas = k.datas;
        refs = (let le = k.funcs in omega (arith, c));
      }

  const_fits : (e : ConstExpr) (ty : ValType) → const_type t e ≡ Some ty → fits_const m e ≡ true
  const_fits (const.I32 v) ty h = refl
  const_fits (const.I64 v) ty h = refl
  const_fits (const.Null q) ty h = refl
  const_fits (const.Func f) ty h = has_here m.funcs (length (funcs_of t)) f k.funcs (ltb-true _ _ (only_true _ _ ty h))
  const_fits (const.Global g) ty h = let z = and_then_is (slice_get (globals_of t) g) _ ty h in has_at (globals_of t) m.globals g z.0 k.globals z.1

  import_fits : (d : ImportDesc) → ImportHolds t d → fits_import_desc m d ≡ true
  import_fits (im.Func ty) h = has_here m.types (length t.types) ty k.types h
  import_fits (im.Table ty) h = refl
  import_fits (im.Memory l) h = refl
  import_fits (im.Global g) h = refl

  export_fits : (d : ExportDesc) → InSpace t d → fits_export_desc m d ≡ true
  export_fits (ex.Func i) h = has_here m.funcs (length (funcs_of t)) i k.funcs h
  export_fits (ex.Table i) h = has_here m.tables (length (tables_of t)) i k.tables h
  export_fits (ex.Memory i) h = has_here m.mems (length (memories_of t)) i k.memories h
  export_fits (ex.Global i) h = has_here m.globals (length (globals_of t)) i k.globals h

  elem_mode_fits : (q : RefType) (mode : ElemMode) → ElemModeHolds t q mode → fits_elem_mode m mode ≡ true
  elem_mode_fits q (elem.Active table offset) h =
      let a = length-map (tables_of t) (λ x. x.ty) in
      let lt = slice_get_within (table_types t) table q h.0 in
      and_from _ _ (has_here m.tables (length (tables_of t)) table k.tables (omega (arith, a, lt))) (const_fits offset _ h.1)
  elem_mode_fits q elem.Passive h = refl
  elem_mode_fits q elem.Declarative h = refl

  data_mode_fits : (mode : DataMode) → DataModeHolds t mode → fits_data_mode m mode ≡ true
  data_mode_fits («data».Active memory offset) h = and_from _ _ (has_here m.mems (length (memories_of t)) memory k.memories h.0) (const_fits offset _ h.1)
  data_mode_fits «data».Passive h = refl

  module _ (each : ItemsHold t) where
    imports_fit : (i : ℕ) (x : Import) → slice_get t.imports i ≡ Some x → fits_import m x ≡ true
    imports_fit i x e = here (each kind.Import i (slice_get_within t.imports i x e))
      where
        here : HoldsAt t kind.Import i → fits_import m x ≡ true
        here (y, at, p) = let same : y ≡ x = cc in import_fits x.desc (subst (λ z. ImportHolds t z.desc) same p)

    funcs_fit : (i : ℕ) (f : Func) → slice_get t.funcs i ≡ Some f → fits_func m f ≡ true
    funcs_fit i f e = here (each kind.Body i (slice_get_within t.funcs i f e))
      where
        here : HoldsAt t kind.Body i → fits_func m f ≡ true
        here (g, ft, at, ty, w) =
            let same : g ≡ f = cc in
            subst (λ z. fits_func m z ≡ true) same (and_from _ _ (has_at t.types m.types g.ty ft k.types ty) (body_fits m (body_context t g ft) (covers_context g ft) law g.body [] ft.results w))

    globals_fit : (i : ℕ) (g : GlobalDef) → slice_get t.globals i ≡ Some g → fits_global m g ≡ true
    globals_fit i g e = here (each kind.Global i (slice_get_within t.globals i g e))
      where
        here : HoldsAt t kind.Global i → fits_global m g ≡ true
        here (h, at, p) = let same : h ≡ g = cc in subst (λ z. fits_global m z ≡ true) same (const_fits h.init h.ty.ty p)

    exports_fit : (i : ℕ) (x : Export) → slice_get t.exports i ≡ Some x → fits_export m x ≡ true
    exports_fit i x e = here (each kind.Export i (slice_get_within t.exports i x e))
      where
        here : HoldsAt t kind.Export i → fits_export m x ≡ true
        here (y, at, p, fresh) = let same : y ≡ x = cc in export_fits x.desc (subst (λ z. InSpace t z.desc) same p)

    start_fits : (o : Option ℕ) → t.start ≡ o → fits_start m o ≡ true
    start_fits None e = refl
    start_fits (Some x) e = here (each kind.Start 0 (subst (λ o. 0 < start_count o) (sym e) (omega arith)))
      where
        here : HoldsAt t kind.Start 0 → fits_start m (Some x) ≡ true
        here (y, ft, at, ty, ps, rs) = let same : y ≡ x = cc in has_here m.funcs (length (funcs_of t)) x k.funcs (func_there t x ft (subst (λ z. type_of_func t z ≡ Some ft) same ty))

    elems_fit : (i : ℕ) (s : ElemSeg) → slice_get t.elems i ≡ Some s → fits_elem m s ≡ true
    elems_fit i s e = here (each kind.Elem i (slice_get_within t.elems i s e))
      where
        here : HoldsAt t kind.Elem i → fits_elem m s ≡ true
        here (z, at, items, mode) =
            let same : z ≡ s = cc in
            subst (λ w. fits_elem m w ≡ true) same (and_from _ _ (elem_mode_fits z.ty z.mode mode) (list_all_from (fits_const m) z.items (λ j d g. const_fits d _ (items j d g))))

    datas_fit : (i : ℕ) (s : DataSeg) → slice_get t.datas i ≡ Some s → fits_data m s ≡ true
    datas_fit i s e = here (each kind.Segment i (slice_get_within t.datas i s e))
      where
        here : HoldsAt t kind.Segment i → fits_data m s ≡ true
        here (z, at, mode) = let same : z ≡ s = cc in subst (λ w. fits_data m w ≡ true) same (data_mode_fits z.mode mode)

    all_fit : fits_tree m t ≡ true
    all_fit =
        and_from _ _ (list_all_from (fits_import m) t.imports imports_fit) (and_from _ _ (list_all_from (fits_func m) t.funcs funcs_fit) (and_from _ _ (list_all_from (fits_global m) t.globals globals_fit)
        (and_from _ _ (list_all_from (fits_export m) t.exports exports_fit) (and_from _ _ (start_fits t.start refl) (and_from _ _ (list_all_from (fits_elem m) t.elems elems_fit) (list_all_from (fits_data m) t.datas datas_fit))))))

  pub tree_fits : ValidWhereItemsHold → IsValid t → IsTrue (fits_tree m t)
  tree_fits items valid = all_fit ((items t).0 valid)
