-- A valid tree with other indices, each item of which comes from an item of the tree, and the
-- indices that a valid tree names.
use Rattle.base_lists.proofs.Common.{◌≡◌, ℕ, zero, suc, ◌<◌, Bool, true, ◌&&◌, List, [], ◌∷◌, ◌++◌, length, map, take, Option, Some, None, refl, sym, ap, ap₂, ◌∙◌, subst, arith, slice_get, slice_index, Contains, option_map, flat_map, filter_map, cons_option, ltb-true, length-map, map-append}
use Rattle.base_lists.proofs.Common.{slice_get_there, map_at, map_from, list_all_each, list_all, and_then_is, left_true, right_true, only_true}
use Rattle.base_lists.specs.Members.{is_among}
use Rattle.base_lists.proofs.Members.{among_map}
use Rattle.base_kept.proofs.Marks.{among_is_marked, marked_is_among, named_within}
use Rattle.wasm_tree_spec.specs.Prelude.{ValType, Func, ImportDesc, Export, ExportDesc, ElemMode, ElemSeg, DataMode, ConstExpr, Module, funcs_of, globals_of, PassesLayerByLayer}
use Rattle.wasm_tree.specs.declared.module.ImportDesc.TheVariants as im
use Rattle.wasm_tree.specs.declared.module.ExportDesc.TheVariants as ex
use Rattle.wasm_tree.specs.declared.module.ElemMode.TheVariants as elem
use Rattle.wasm_tree.specs.declared.module.DataMode.TheVariants as «data»
use Rattle.wasm_tree.specs.declared.module.ConstExpr.TheVariants as const
use Rattle.wasm_valid.specs.declared.kinds.ItemKind.{ItemKind}
use Rattle.wasm_valid.specs.declared.kinds.ItemKind.TheVariants as kind
use Rattle.wasm_valid.specs.Prelude.{const_type, const_func, export_func, elem_refs, global_refs, export_refs, refs_of, HoldsAt, IsValid, count_of, start_count, ValidWhereItemsHold}
use Rattle.index_remap.specs.declared.remap.Remap.{Remap}
use Rattle.index_remap.specs.Prelude.{has, has_entry, fits_const, fits_func, fits_import, fits_import_desc, fits_global, fits_export, fits_export_desc, fits_elem, fits_elem_mode, fits_data, fits_start, fits_tree, new_const, new_func, new_import, new_global, new_export, new_export_desc, new_elem}
use Rattle.index_remap.specs.Prelude.{new_elem_mode, new_data, new_data_mode, new_start, renumbered_tree}
use Rattle.index_remap.specs.Renumbered.{fits_data_mode}
use Rattle.index_remap_proof.specs.Indices.{Indices, with_entry, ConstNamesOnly, ImportNamesOnly, ExportNamesOnly, ElemModeNamesOnly, DataModeNamesOnly, FuncNamesOnly, TreeNamesOnly}
use Rattle.index_remap_proof.specs.Trees.{TreesAgree, RefsAgree, ImportsAgree, ReadsImport, ConstComesFrom, ElemModeComesFrom, DataModeComesFrom, ItemsComeFrom, ItemComesFrom, EachItemComesFrom, active, passive, declarative}
use Rattle.index_remap_proof.specs.ButForReferences.{IsValidButForReferences}
use Rattle.index_remap_proof.proofs.Items.{BodiesAreKept, const_kept, items_kept, items_weakly}

-- ---- what other indices leave ----

names_stay : (m : Remap) (n : ℕ) (xs : List Export) → map (λ x. x.name) (take n (map (new_export m) xs)) ≡ map (λ x. x.name) (take n xs)
names_stay m zero xs = refl
names_stay m (suc n) [] = refl
names_stay m (suc n) (x ∷ xs) = ap (λ zs. x.name ∷ zs) (names_stay m n xs)

-- An item of a list after a map is the image of an item at the same place.
got : {A B : Type 0} (f : A → B) (xs : List A) (i : ℕ) → i < length (map f xs) → (x : A) × (slice_get xs i ≡ Some x)
got f xs i lt = let e = length-map xs f in slice_get_there xs i (omega (arith, e))

-- ---- what is named outside the bodies ----

choose_map : {A : Type 0} (f : A → Option ℕ) (g : A → A) (h : ℕ → ℕ) → ((x : A) → f (g x) ≡ option_map h (f x)) → (xs : List A) → filter_map f (map g xs) ≡ map h (filter_map f xs)
choose_map f g h e [] = refl
choose_map f g h e (x ∷ xs) = ap₂ cons_option (e x) (choose_map f g h e xs) ∙ split (f x)
  where
    split : (o : Option ℕ) → cons_option (option_map h o) (map h (filter_map f xs)) ≡ map h (cons_option o (filter_map f xs))
    split None = refl
    split (Some y) = refl

join_map : {A : Type 0} (f : A → List ℕ) (g : A → A) (h : ℕ → ℕ) → ((x : A) → f (g x) ≡ map h (f x)) → (xs : List A) → flat_map f (map g xs) ≡ map h (flat_map f xs)
join_map f g h e [] = refl
join_map f g h e (x ∷ xs) = ap₂ (λ a b. a ++ b) (e x) (join_map f g h e xs) ∙ sym (map-append h (f x) (flat_map f xs))

module _ (m : Remap) where
  const_func_new : (e : ConstExpr) → const_func (new_const m e) ≡ option_map (slice_index m.funcs) (const_func e)
  const_func_new (const.I32 v) = refl
  const_func_new (const.I64 v) = refl
  const_func_new (const.Null q) = refl
  const_func_new (const.Func f) = refl
  const_func_new (const.Global g) = refl

  export_func_new : (e : ExportDesc) → export_func (new_export_desc m e) ≡ option_map (slice_index m.funcs) (export_func e)
  export_func_new (ex.Func i) = refl
  export_func_new (ex.Table i) = refl
  export_func_new (ex.Memory i) = refl
  export_func_new (ex.Global i) = refl

  refs_new : (t : Module) → refs_of (renumbered_tree m t) ≡ map (slice_index m.funcs) (refs_of t)
  refs_new t =
      let n = slice_index m.funcs in
      let a : elem_refs (map (new_elem m) t.elems) ≡ map n (elem_refs t.elems) = join_map (λ s. filter_map const_func s.items) (new_elem m) n (λ s. choose_map const_func (new_const m) n const_func_new s.items) t.elems in
      let b : global_refs (map (new_global m) t.globals) ≡ map n (global_refs t.globals) = choose_map (λ g. const_func g.init) (new_global m) n (λ g. const_func_new g.init) t.globals in
      let c : export_refs (map (new_export m) t.exports) ≡ map n (export_refs t.exports) = choose_map (λ e. export_func e.desc) (new_export m) n (λ e. export_func_new e.desc) t.exports in
      ap₂ (λ x y. x ++ y) a (ap₂ (λ x y. x ++ y) b c ∙ sym (map-append n (global_refs t.globals) (export_refs t.exports))) ∙ sym (map-append n (elem_refs t.elems) (global_refs t.globals ++ export_refs t.exports))

  start_stays : (o : Option ℕ) → start_count (new_start m o) ≡ start_count o
  start_stays None = refl
  start_stays (Some x) = refl

  count_stays : (t : Module) (k : ItemKind) → count_of (renumbered_tree m t) true k ≡ count_of t true k
  count_stays t kind.Import = length-map t.imports (new_import m)
  count_stays t kind.Memories = refl
  count_stays t kind.Func = length-map t.funcs (new_func m)
  count_stays t kind.Table = refl
  count_stays t kind.Memory = refl
  count_stays t kind.Global = length-map t.globals (new_global m)
  count_stays t kind.Export = length-map t.exports (new_export m)
  count_stays t kind.Start = start_stays t.start
  count_stays t kind.Elem = length-map t.elems (new_elem m)
  count_stays t kind.Segment = length-map t.datas (new_data m)
  count_stays t kind.Body = length-map t.funcs (new_func m)

-- ---- several tests ----

seven : (a b c d e f g : Bool) → a && (b && (c && (d && (e && (f && g))))) ≡ true → (a ≡ true) × (b ≡ true) × (c ≡ true) × (d ≡ true) × (e ≡ true) × (f ≡ true) × (g ≡ true)
seven a b c d e f g h =
    let h1 = right_true a (b && (c && (d && (e && (f && g))))) h in
    let h2 = right_true b (c && (d && (e && (f && g)))) h1 in
    let h3 = right_true c (d && (e && (f && g))) h2 in
    let h4 = right_true d (e && (f && g)) h3 in
    let h5 = right_true e (f && g) h4 in
    (left_true a (b && (c && (d && (e && (f && g))))) h, left_true b (c && (d && (e && (f && g)))) h1, left_true c (d && (e && (f && g))) h2, left_true d (e && (f && g)) h3, left_true e (f && g) h4, left_true f g h5, right_true f g h5)

-- ---- a tree that fits a map names only indices with an entry ----

module _ (law : PassesLayerByLayer) (m : Remap) where
  const_named : (e : ConstExpr) → fits_const m e ≡ true → ConstNamesOnly (with_entry m) e
  const_named (const.I32 v) h = tt
  const_named (const.I64 v) h = tt
  const_named (const.Null q) h = tt
  const_named (const.Func f) h = h
  const_named (const.Global g) h = h

  import_named : (d : ImportDesc) → fits_import_desc m d ≡ true → ImportNamesOnly (with_entry m) d
  import_named (im.Func ty) h = h
  import_named (im.Table ty) h = tt
  import_named (im.Memory l) h = tt
  import_named (im.Global g) h = tt

  export_named : (d : ExportDesc) → fits_export_desc m d ≡ true → ExportNamesOnly (with_entry m) d
  export_named (ex.Func i) h = h
  export_named (ex.Table i) h = h
  export_named (ex.Memory i) h = h
  export_named (ex.Global i) h = h

  elem_mode_named : (mode : ElemMode) → fits_elem_mode m mode ≡ true → ElemModeNamesOnly (with_entry m) mode
  elem_mode_named (elem.Active table offset) h = (left_true _ _ h, const_named offset (right_true _ _ h))
  elem_mode_named elem.Passive h = tt
  elem_mode_named elem.Declarative h = tt

  data_mode_named : (mode : DataMode) → fits_data_mode m mode ≡ true → DataModeNamesOnly (with_entry m) mode
  data_mode_named («data».Active memory offset) h = (left_true _ _ h, const_named offset (right_true _ _ h))
  data_mode_named «data».Passive h = tt

  func_named : (f : Func) → fits_func m f ≡ true → FuncNamesOnly (with_entry m) f
  func_named f h = (left_true _ _ h, (law (has_entry m) f.body).0 (right_true (has m.types f.ty) _ h))

  pub tree_named : (t : Module) → fits_tree m t ≡ true → TreeNamesOnly (with_entry m) t
  tree_named t fit =
      let parts =
      seven (list_all (fits_import m) t.imports) (list_all (fits_func m) t.funcs) (list_all (fits_global m) t.globals) (list_all (fits_export m) t.exports) (fits_start m t.start) (list_all (fits_elem m) t.elems)
      (list_all (fits_data m) t.datas) fit in
      record {
        imports = λ i x at. import_named x.desc (list_all_each (fits_import m) t.imports parts.0 i x at);
        funcs = λ i f at. func_named f (list_all_each (fits_func m) t.funcs parts.1 i f at);
        globals = λ i g at. const_named g.init (list_all_each (fits_global m) t.globals parts.2 i g at);
        exports = λ i e at. export_named e.desc (list_all_each (fits_export m) t.exports parts.3 i e at);
        start = λ f at. subst (λ o. fits_start m o ≡ true) at parts.4;
        items = λ i p a e at got. const_named e (list_all_each (fits_const m) a.items (right_true (fits_elem_mode m a.mode) _ (list_all_each (fits_elem m) t.elems parts.5 i a at)) p e got);
        elem_modes = λ i a at. elem_mode_named a.mode (left_true (fits_elem_mode m a.mode) _ (list_all_each (fits_elem m) t.elems parts.5 i a at));
        data_modes = λ i a at. data_mode_named a.mode (list_all_each (fits_data m) t.datas parts.6 i a at);
      }

-- ---- a tree each of whose items comes from one of a valid tree ----

module _ (law : ValidWhereItemsHold) (bodies : BodiesAreKept) (m : Remap) (kept : Indices) (t u : Module) (k : TreesAgree m kept t u) (valid : IsValid t) (each : EachItemComesFrom m kept t u) where
  pub standing_valid : RefsAgree m kept t u → IsValid u
  standing_valid refs = (law u).1 (λ n j lt. let s = each n j lt in items_kept m kept t u k bodies n s.0 j refs s.2 ((law t).0 valid n s.0 s.1))

  pub standing_weakly : IsValidButForReferences u
  standing_weakly n j lt = let s = each n j lt in items_weakly m kept t u k bodies n s.0 j s.2 ((law t).0 valid n s.0 s.1)

-- ---- each item comes from the one that it was ----

module _ (m : Remap) (kept : Indices) (t : Module) (k : TreesAgree m kept t (renumbered_tree m t)) (imports : ImportsAgree m kept t (renumbered_tree m t)) (names : TreeNamesOnly kept t) where
  abbrev u : Module
  u = renumbered_tree m t

  refs_agree : RefsAgree m kept t u
  refs_agree i is_kept h =
      let within = named_within (refs_of t) 0 (length (funcs_of t)) i true h in
      let named = among_map (slice_index m.funcs) (refs_of t) i (marked_is_among (refs_of t) (length (funcs_of t)) i h) in
      among_is_marked (refs_of u) (length (funcs_of u)) (slice_index m.funcs i) (k.func_space i is_kept within) (ap (λ z. is_among z (slice_index m.funcs i)) (refs_new m t) ∙ named)

  reads : (e : ConstExpr) (ty : ValType) → ConstNamesOnly kept e → const_type t e ≡ Some ty → ReadsImport m u e
  reads (const.I32 v) ty h e = tt
  reads (const.I64 v) ty h e = tt
  reads (const.Null q) ty h e = tt
  reads (const.Func f) ty h e = tt
  reads (const.Global g) ty h e =
      let z = and_then_is (slice_get (globals_of t) g) _ ty e in
      imports g h (ltb-true _ _ (left_true _ _ (only_true _ _ ty z.2)))

  const_stands : (e : ConstExpr) → ConstNamesOnly kept e → ConstComesFrom t u e (new_const m e)
  const_stands e h ty is = const_kept m kept t u k e h (reads e ty h is) ty is

  elem_mode_stands : (mode : ElemMode) → ElemModeNamesOnly kept mode → ElemModeComesFrom m kept t u mode (new_elem_mode m mode)
  elem_mode_stands (elem.Active table offset) h = active h.0 (const_stands offset h.1)
  elem_mode_stands elem.Passive h = passive
  elem_mode_stands elem.Declarative h = declarative

  data_mode_stands : (mode : DataMode) → DataModeNamesOnly kept mode → DataModeComesFrom m kept t u mode (new_data_mode m mode)
  data_mode_stands («data».Active memory offset) h = active h.0 (const_stands offset h.1)
  data_mode_stands «data».Passive h = passive

  items_stand : (i : ℕ) (a : ElemSeg) → slice_get t.elems i ≡ Some a → ItemsComeFrom t u a (new_elem m a)
  items_stand i a at p d e =
      let r = map_from (new_const m) a.items p d e in
      (p, r.0, r.1, subst (ConstComesFrom t u r.0) r.2 (const_stands r.0 (names.items i p a r.0 at r.1)))

  stands : (n : ItemKind) (i : ℕ) → i < count_of u true n → HoldsAt t n i → ItemComesFrom m kept t u n i i
  stands kind.Import i lt p =
      let x = got (new_import m) t.imports i lt in
      (x.0, new_import m x.0, x.1, map_at (new_import m) t.imports i x.0 x.1, names.imports i x.0 x.1, refl)
  stands kind.Memories i lt p = absurd (omega arith)
  stands kind.Func i lt p =
      let f = got (new_func m) t.funcs i lt in
      (f.0, new_func m f.0, f.1, map_at (new_func m) t.funcs i f.0 f.1, (names.funcs i f.0 f.1).0, refl)
  stands kind.Table i lt p = refl
  stands kind.Memory i lt p = refl
  stands kind.Global i lt p =
      let g = got (new_global m) t.globals i lt in
      (g.0, new_global m g.0, g.1, map_at (new_global m) t.globals i g.0 g.1, refl, const_stands g.0.init (names.globals i g.0 g.1))
  stands kind.Export i lt (e, at, within, fresh) =
      (e, new_export m e, at, map_at (new_export m) t.exports i e at, names.exports i e at, refl, (λ c. fresh (subst (λ ns. Contains ns e.name) (names_stay m i t.exports) c)))
  stands kind.Start i lt (x, ft, at, ty, ps, rs) = (x, at, names.start x at, ap (new_start m) at)
  stands kind.Elem i lt p =
      let a = got (new_elem m) t.elems i lt in
      (a.0, new_elem m a.0, a.1, map_at (new_elem m) t.elems i a.0 a.1, refl, items_stand i a.0 a.1, elem_mode_stands a.0.mode (names.elem_modes i a.0 a.1))
  stands kind.Segment i lt p =
      let a = got (new_data m) t.datas i lt in
      (a.0, new_data m a.0, a.1, map_at (new_data m) t.datas i a.0 a.1, data_mode_stands a.0.mode (names.data_modes i a.0 a.1))
  stands kind.Body i lt p =
      let f = got (new_func m) t.funcs i lt in
      (f.0, f.1, names.funcs i f.0 f.1, map_at (new_func m) t.funcs i f.0 f.1)

  pub tree_valid : ValidWhereItemsHold → BodiesAreKept → IsValid t → IsValid u
  tree_valid law bodies valid =
      standing_valid law bodies m kept t u k valid (λ n i lt. let there = subst (λ z. i < z) (count_stays m t n) lt in (i, there, stands n i lt ((law t).0 valid n i there))) refs_agree
