-- Each item of what is left of a module comes from one of the module.
use Rattle.base_lists.proofs.Common.{◌≡◌, ◌∙◌, ap, sym, subst, refl, ℕ, ◌<◌, ◌≤◌, List, map, take, length, Option, Some, None, true, arith, slice_get, slice_index, option_and_then, Contains, ltb-true, length-append, length-map, take-map, slice_get_within, numbers_index, and_then_is, slice_get_there}
use Rattle.base_lists.proofs.Common.{map_at, map_from, kept_is, left_true, only_true}
use Rattle.base_lists.specs.Places.{numbers}
use Rattle.wasm_tree_spec.specs.Prelude.{ValType, FuncType, GlobalType, ConstExpr, DataMode, ElemMode, ElemSeg, Export, ImportDesc, Module, funcs_of, globals_of, tables_of, memories_of, imported_globals, type_of_func}
use Rattle.wasm_tree.specs.declared.module.ConstExpr.TheVariants as const
use Rattle.wasm_tree.specs.declared.module.DataMode.TheVariants as «data»
use Rattle.wasm_tree.specs.declared.module.ElemMode.TheVariants as elem
use Rattle.wasm_tree.specs.declared.module.ImportDesc.TheVariants as im
use Rattle.wasm_valid.specs.declared.kinds.ItemKind.TheVariants as kind
use Rattle.wasm_valid.specs.Prelude.{const_type, table_types, elem_types, start_count, ItemsHold}
use Rattle.index_remap.specs.declared.remap.Remap.{Remap}
use Rattle.index_remap.specs.Prelude.{new_const, new_data, new_data_mode, new_elem, new_elem_mode, new_export, new_func, new_global, new_import, new_start}
use Rattle.index_remap_proof.specs.Indices.{Indices, ConstNamesOnly, DataModeNamesOnly, ElemModeNamesOnly, ImportNamesOnly}
use Rattle.index_remap_proof.specs.Trees.{ConstComesFrom, DataModeComesFrom, EachItemComesFrom, ElemModeComesFrom, ItemsComeFrom, ReadsImport, TreesAgree, active, passive, declarative}
use Rattle.base_kept.specs.Kept.{kept, is_marked, kept_before}
use Rattle.dce_spec.specs.Marks.{Marks, stays}
use Rattle.dce_spec.specs.Swept.{defined_funcs, defined_globals, is_kept_ref, kept_elem, kept_items, sweep_map, renumbered_kept}
use Rattle.dce_spec.specs.Closed.{AreClosed}
use Rattle.base_kept.proofs.Laws.{kept_from, kept_map, kept_take, kept_contained, moved}
use Rattle.dce_proof.proofs.KeptIndexSpaces.{map_same, funcs_are, globals_are, imported_globals_are, tables_are, memories_are, elem_types_are}

-- A constant expression that reads only globals that stay imported keeps its type.
abbrev pub ConstantsAreKept : Type 0
ConstantsAreKept = (m : Remap) (kept : Indices) (t u : Module) (e : ConstExpr) → TreesAgree m kept t u → ConstNamesOnly kept e → ReadsImport m u e → ConstComesFrom t u e (new_const m e)

-- An element of a mapped list is the image of the element at the same place.
new_at : {A B : Type 0} (f : A → B) (xs : List A) (i : ℕ) → i < length (map f xs) → (x : A) × (slice_get xs i ≡ Some x) × (slice_get (map f xs) i ≡ Some (f x))
new_at f xs i lt = let e = length-map xs f in let x = slice_get_there xs i (omega (arith, lt, e)) in (x.0, x.1, map_at f xs i x.0 x.1)

-- An item that is kept of an element segment is an item of that segment.
pub item_there : (k : Marks) (mode : ElemMode) (items : List ConstExpr) (p : ℕ) (e : ConstExpr) → slice_get (kept_items k mode items) p ≡ Some e → (q : ℕ) × (slice_get items q ≡ Some e)
item_there k (elem.Active table offset) items p e h = (p, h)
item_there k elem.Passive items p e h = (p, h)
item_there k elem.Declarative items p e h = (kept_is (is_kept_ref k) items p e h).1

module _ (k : Marks) (m : Module) (c : AreClosed k m) (holds : ItemsHold m) where
  abbrev r : Remap
  r = sweep_map k m

  abbrev u : Module
  u = renumbered_kept k m

  -- ---- what an index that is kept comes from ----

  -- An identity map has the index of each element of a list that is no longer than the map.
  stays_at : {A : Type 0} (n i : ℕ) (xs : List A) (x : A) → length xs ≤ n → slice_get xs i ≡ Some x → slice_get xs (slice_index (numbers 0 n) i) ≡ Some x
  stays_at n i xs x le e = let lt = slice_get_within xs i x e in ap (slice_get xs) (numbers_index n i (omega (arith, lt, le))) ∙ e

  func_entry : (i ty : ℕ) → is_marked k.funcs i ≡ true → slice_get (funcs_of m) i ≡ Some ty → slice_get (funcs_of u) (slice_index r.funcs i) ≡ Some ty
  func_entry i ty h e = let many = c.funcs_many in ap (λ xs. slice_get xs (slice_index r.funcs i)) (funcs_are k m c holds) ∙ moved k.funcs (funcs_of m) i ty (omega (arith, many)) h e

  global_entry : (i : ℕ) (g : GlobalType) → is_marked k.globals i ≡ true → slice_get (globals_of m) i ≡ Some g → slice_get (globals_of u) (slice_index r.globals i) ≡ Some g
  global_entry i g h e = let many = c.globals_many in ap (λ xs. slice_get xs (slice_index r.globals i)) (globals_are k m c holds) ∙ moved k.globals (globals_of m) i g (omega (arith, many)) h e

  type_entry : (i : ℕ) (t : FuncType) → is_marked k.funcs i ≡ true → type_of_func m i ≡ Some t → type_of_func u (slice_index r.funcs i) ≡ Some t
  type_entry i t h e =
      let ty = and_then_is (slice_get (funcs_of m) i) (slice_get m.types) t e in
      ap (option_and_then (slice_get m.types)) (func_entry i ty.0 h ty.1) ∙ ty.2

  pub agree : TreesAgree r (stays k) m u
  agree = record {
    types = λ i h v e. stays_at (length m.types) i m.types v (omega arith) e;
    funcs = λ i h v e. type_entry i v h e;
    func_space = λ i h lt. let ty = slice_get_there (funcs_of m) i lt in slice_get_within (funcs_of u) (slice_index r.funcs i) ty.0 (func_entry i ty.0 h ty.1);
    tables = λ i h v e.
        let many = length-map (tables_of m) (λ t. t.ty) in
        ap (λ ts. slice_get (map (λ t. t.ty) ts) (slice_index r.tables i)) (tables_are k m c holds) ∙ stays_at (length (tables_of m)) i (table_types m) v (omega (arith, many)) e;
    memories = λ i h lt. subst (λ n. n < length (memories_of u)) (sym (numbers_index (length (memories_of m)) i lt)) (subst (λ xs. i < length xs) (sym (memories_are k m c holds)) lt);
    globals = λ i h v e. global_entry i v h e;
    elems = λ i h v e.
        let many = length-map m.elems (λ s. s.ty) in
        ap (λ ts. slice_get ts (slice_index r.elems i)) (elem_types_are k m c holds) ∙ stays_at (length m.elems) i (elem_types m.elems) v (omega (arith, many)) e;
    datas = λ i h lt. let many = length-map m.datas (new_data r) in subst (λ n. n < length u.datas) (sym (numbers_index (length m.datas) i lt)) (omega (arith, lt, many));
  }

  -- ---- constant expressions ----

  module _ (law : ConstantsAreKept) where
    -- A constant expression that has a type reads only an imported global (section 3.3.10), and the
    -- global that it reads stays imported.
    reads : (e : ConstExpr) (ty : ValType) → ConstNamesOnly (stays k) e → const_type m e ≡ Some ty → ReadsImport r u e
    reads (const.I32 v) ty h e = tt
    reads (const.I64 v) ty h e = tt
    reads (const.Null q) ty h e = tt
    reads (const.Func f) ty h e = tt
    reads (const.Global g) ty h e =
        let z = and_then_is (slice_get (globals_of m) g) _ ty e in
        let lt = ltb-true _ _ (left_true _ _ (only_true _ _ ty z.2)) in
        let x = slice_get_there (imported_globals m.imports) g lt in
        let many = c.globals_many in
        let all = length-append (imported_globals m.imports) (map (λ g. g.ty) m.globals) in
        let there = moved k.globals (imported_globals m.imports) g x.0 (omega (arith, many, all)) h x.1 in
        slice_get_within (imported_globals u.imports) (slice_index r.globals g) x.0 (ap (λ xs. slice_get xs (slice_index r.globals g)) (imported_globals_are k m c holds) ∙ there)

    const_stands : (e : ConstExpr) → ConstNamesOnly (stays k) e → ConstComesFrom m u e (new_const r e)
    const_stands e h ty is = law r (stays k) m u e agree h (reads e ty h is) ty is

    elem_mode_stands : (mode : ElemMode) → ElemModeNamesOnly (stays k) mode → ElemModeComesFrom r (stays k) m u mode (new_elem_mode r mode)
    elem_mode_stands (elem.Active table offset) h = active h.0 (const_stands offset h.1)
    elem_mode_stands elem.Passive h = passive
    elem_mode_stands elem.Declarative h = declarative

    data_mode_stands : (mode : DataMode) → DataModeNamesOnly (stays k) mode → DataModeComesFrom r (stays k) m u mode (new_data_mode r mode)
    data_mode_stands («data».Active memory offset) h = active h.0 (const_stands offset h.1)
    data_mode_stands «data».Passive h = passive

    items_stand : (j : ℕ) (a : ElemSeg) → slice_get m.elems j ≡ Some a → ItemsComeFrom m u a (new_elem r (kept_elem k a))
    items_stand j a at p d e =
        let x = map_from (new_const r) (kept_items k a.mode a.items) p d e in
        let q = item_there k a.mode a.items p x.0 x.1 in
        (q.0, x.0, q.1, subst (ConstComesFrom m u x.0) x.2 (const_stands x.0 (c.names.items j p (kept_elem k a) x.0 (map_at (kept_elem k) m.elems j a at) x.1)))

    -- ---- items ----

    import_named : (d : ImportDesc) → ImportNamesOnly (stays k) d
    import_named (im.Func ty) = refl
    import_named (im.Table ty) = tt
    import_named (im.Memory l) = tt
    import_named (im.Global g) = tt

    -- An export of what is left has a name that no export before it has.
    fresh : (j place : ℕ) (e : Export) → kept_before k.exports place ≡ j → (Contains (map (λ x. x.name) (take place m.exports)) e.name → ⊥) → Contains (map (λ x. x.name) (take j u.exports)) e.name → ⊥
    fresh j place e goes new h =
        let xs = kept k.exports m.exports in
        let same : map (λ (x : Export). x.name) (take j u.exports) ≡ kept (take place k.exports) (map (λ x. x.name) (take place m.exports)) =
        ap (map (λ (x : Export). x.name)) (take-map (new_export r) j xs) ∙ map_same (λ (x : Export). x.name) (new_export r) (take j xs) (λ n x at. refl)
        ∙ ap (λ (n : ℕ). map (λ (x : Export). x.name) (take n xs)) (sym goes) ∙ ap (map (λ (x : Export). x.name)) (kept_take k.exports m.exports place)
        ∙ sym (kept_map (λ (x : Export). x.name) (take place k.exports) (take place m.exports)) in
        new (kept_contained (take place k.exports) (map (λ x. x.name) (take place m.exports)) e.name (subst (λ ns. Contains ns e.name) same h))

    start_stands : (o : Option ℕ) (j : ℕ) → m.start ≡ o → j < start_count (new_start r o) → (i : ℕ) × (i < start_count o) × ((x : ℕ) × (o ≡ Some x) × (is_marked k.funcs x ≡ true) × (new_start r o ≡ Some (slice_index r.funcs x)))
    start_stands None j e lt = absurd (omega (arith, lt))
    start_stands (Some x) j e lt = (0, omega arith, (x, refl, c.names.start x e, refl))

    pub each_stands : EachItemComesFrom r (stays k) m u
    each_stands kind.Import j lt =
        let x = new_at (new_import r) (kept k.imports m.imports) j lt in
        let p = kept_from k.imports m.imports j x.0 x.1 in
        (p.place, slice_get_within m.imports p.place x.0 p.is, (x.0, new_import r x.0, p.is, x.2, import_named x.0.desc, refl))
    each_stands kind.Memories j lt = absurd (omega (arith, lt))
    each_stands kind.Func j lt =
        let x = new_at (new_func r) (kept (defined_funcs k m) m.funcs) j lt in
        let p = kept_from (defined_funcs k m) m.funcs j x.0 x.1 in
        (p.place, slice_get_within m.funcs p.place x.0 p.is, (x.0, new_func r x.0, p.is, x.2, refl, refl))
    each_stands kind.Table j lt = (j, lt, refl)
    each_stands kind.Memory j lt = (j, lt, refl)
    each_stands kind.Global j lt =
        let x = new_at (new_global r) (kept (defined_globals k m) m.globals) j lt in
        let p = kept_from (defined_globals k m) m.globals j x.0 x.1 in
        (p.place, slice_get_within m.globals p.place x.0 p.is, (x.0, new_global r x.0, p.is, x.2, refl, const_stands x.0.init (c.names.globals j x.0 x.1)))
    each_stands kind.Export j lt =
        let x = new_at (new_export r) (kept k.exports m.exports) j lt in
        let p = kept_from k.exports m.exports j x.0 x.1 in
        let within = slice_get_within m.exports p.place x.0 p.is in
        let h = holds kind.Export p.place within in
        let same : h.0 ≡ x.0 = cc in
        (p.place, within, (x.0, new_export r x.0, p.is, x.2, c.names.exports j x.0 x.1, refl, fresh j p.place x.0 p.goes (subst (λ (e : Export). Contains (map (λ x. x.name) (take p.place m.exports)) e.name → ⊥) same h.3)))
    each_stands kind.Start j lt = start_stands m.start j refl lt
    each_stands kind.Elem j lt =
        let s = new_at (new_elem r) (map (kept_elem k) m.elems) j lt in
        let a = map_from (kept_elem k) m.elems j s.0 s.1 in
        let new = map_at (kept_elem k) m.elems j a.0 a.1 in
        (j, slice_get_within m.elems j a.0 a.1, (a.0, new_elem r (kept_elem k a.0), a.1, map_at (new_elem r) (map (kept_elem k) m.elems) j (kept_elem k a.0) new, refl, items_stand j a.0 a.1, elem_mode_stands a.0.mode (c.names.elem_modes j (kept_elem k a.0) new)))
    each_stands kind.Segment j lt =
        let a = new_at (new_data r) m.datas j lt in
        (j, slice_get_within m.datas j a.0 a.1, (a.0, new_data r a.0, a.1, a.2, data_mode_stands a.0.mode (c.names.data_modes j a.0 a.1)))
    each_stands kind.Body j lt =
        let x = new_at (new_func r) (kept (defined_funcs k m) m.funcs) j lt in
        let p = kept_from (defined_funcs k m) m.funcs j x.0 x.1 in
        (p.place, slice_get_within m.funcs p.place x.0 p.is, (x.0, p.is, c.names.funcs j x.0 x.1, x.2))
