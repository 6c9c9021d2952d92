-- Items that come from others are valid where those are.
use Rattle.base_lists.proofs.Common.{◌≡◌, ℕ, ◌<◌, ◌≤◌, Bool, true, false, ◌&&◌, not, nat_lt, List, [], length, Some, refl, sym, ap, ◌∙◌, subst, arith, IsTrue, slice_get, slice_index, replicate, ltb-true, lt-ltb, length-map, replicate_at, keeps_then, keeps_only}
use Rattle.base_kept.proofs.Marks.{named_within}
use Rattle.wasm_tree_spec.specs.Prelude.{RefType, ValType, Ref, FuncType, Instr, ImportDesc, ExportDesc, ElemMode, ElemSeg, DataMode, Space, Types, Functions, Tables, Memories, Globals, ElementSegments, DataSegments, ConstExpr, Func, Module, funcs_of, tables_of, memories_of, globals_of}
use Rattle.wasm_tree_spec.specs.Prelude.{imported_globals, type_of_func, ListLayers}
use Rattle.wasm_tree.specs.declared.module.ImportDesc.TheVariants as im
use Rattle.wasm_tree.specs.declared.module.ExportDesc.TheVariants as ex
use Rattle.wasm_tree.specs.declared.module.ConstExpr.TheVariants as const
use Rattle.wasm_valid_bodies.specs.Typing.{Context, WellTyped}
use Rattle.wasm_valid.specs.declared.kinds.ItemKind.{ItemKind}
use Rattle.wasm_valid.specs.declared.kinds.ItemKind.TheVariants as kind
use Rattle.wasm_valid.specs.Prelude.{const_type, named_of, refs_of, table_types, HoldsAt, ImportHolds, InSpace, ElemModeHolds, DataModeHolds, body_context}
use Rattle.index_remap.specs.declared.remap.Remap.{Remap}
use Rattle.index_remap.specs.Prelude.{new_const, new_func, new_import_desc, new_export_desc, renumbered_all, OperandAgrees}
use Rattle.index_remap_proof.specs.Indices.{Indices, LayerNamesOnly, ConstNamesOnly, ImportNamesOnly, ExportNamesOnly}
use Rattle.index_remap_proof.specs.Along.{AgreesAlong}
use Rattle.index_remap_proof.specs.Trees.{TreesAgree, RefsAgree, ReadsImport, ConstComesFrom, ElemModeComesFrom, DataModeComesFrom, ItemComesFrom, active, passive, declarative}
use Rattle.index_remap_proof.specs.ButForReferences.{any_named, HoldsButForReferences}
use Rattle.index_remap_proof.proofs.Lists.{place_kept}
use Rattle.base_lists.proofs.Bools.{and_keeps}

-- Well-typed bodies that name only what is kept stay well typed with other indices, in a context
-- that agrees.
abbrev pub BodiesAreKept : Type 0
BodiesAreKept = (m : Remap) (kept : Indices) (c d : Context) (is : List Instr) (ps rs : List ValType) → AgreesAlong m kept c d → ListLayers (LayerNamesOnly kept) is → WellTyped c is ps rs → WellTyped d (renumbered_all m is) ps rs

module _ (m : Remap) (kept : Indices) (t u : Module) (k : TreesAgree m kept t u) where
  pub const_kept : (e : ConstExpr) → ConstNamesOnly kept e → ReadsImport m u e → ConstComesFrom t u e (new_const m e)
  const_kept (const.I32 v) h r ty e = e
  const_kept (const.I64 v) h r ty e = e
  const_kept (const.Null q) h r ty e = e
  const_kept (const.Func f) h r ty e =
      keeps_only (nat_lt f (length (funcs_of t))) (nat_lt (slice_index m.funcs f) (length (funcs_of u))) _ _ (λ b. lt-ltb _ _ (k.func_space f h (ltb-true _ _ b))) (λ z p. p) ty e
  const_kept (const.Global g) h r ty e =
      keeps_then (slice_get (globals_of t) g) (slice_get (globals_of u) (slice_index m.globals g)) _ _ (k.globals g h)
      (λ z. keeps_only (nat_lt g (length (imported_globals t.imports)) && not z.mutable) (nat_lt (slice_index m.globals g) (length (imported_globals u.imports)) && not z.mutable) _ _
      (and_keeps (nat_lt g (length (imported_globals t.imports))) (nat_lt (slice_index m.globals g) (length (imported_globals u.imports))) (not z.mutable) (not z.mutable) (λ b. lt-ltb _ _ r) (λ b. b)) (λ y p. p)) ty e

  types_within : (i : ℕ) → IsTrue (kept Types i) → i < length t.types → slice_index m.types i < length u.types
  types_within i h lt = place_kept t.types u.types i (slice_index m.types i) (k.types i h) lt

  tables_within : (i : ℕ) → IsTrue (kept Tables i) → i < length (tables_of t) → slice_index m.tables i < length (tables_of u)
  tables_within i h lt =
      let a = length-map (tables_of t) (λ x. x.ty) in
      let b = length-map (tables_of u) (λ x. x.ty) in
      let there : slice_index m.tables i < length (table_types u) = place_kept (table_types t) (table_types u) i (slice_index m.tables i) (k.tables i h) (omega (arith, a)) in
      omega (arith, b, there)

  globals_within : (i : ℕ) → IsTrue (kept Globals i) → i < length (globals_of t) → slice_index m.globals i < length (globals_of u)
  globals_within i h lt = place_kept (globals_of t) (globals_of u) i (slice_index m.globals i) (k.globals i h) lt

  import_kept : (d : ImportDesc) → ImportNamesOnly kept d → ImportHolds t d → ImportHolds u (new_import_desc m d)
  import_kept (im.Func ty) h p = types_within ty h p
  import_kept (im.Table ty) h p = p
  import_kept (im.Memory l) h p = p
  import_kept (im.Global g) h p = p

  export_kept : (d : ExportDesc) → ExportNamesOnly kept d → InSpace t d → InSpace u (new_export_desc m d)
  export_kept (ex.Func i) h p = k.func_space i h p
  export_kept (ex.Table i) h p = tables_within i h p
  export_kept (ex.Memory i) h p = k.memories i h p
  export_kept (ex.Global i) h p = globals_within i h p

  elem_mode_kept : (ty : RefType) (a b : ElemMode) → ElemModeComesFrom m kept t u a b → ElemModeHolds t ty a → ElemModeHolds u ty b
  elem_mode_kept ty a b (active {table} h c) p = (k.tables table h ty p.0, c _ p.1)
  elem_mode_kept ty a b passive p = tt
  elem_mode_kept ty a b declarative p = tt

  data_mode_kept : (a b : DataMode) → DataModeComesFrom m kept t u a b → DataModeHolds t a → DataModeHolds u b
  data_mode_kept a b (active {memory} h c) p = (k.memories memory h p.0, c _ p.1)
  data_mode_kept a b passive p = tt

  -- The contexts of a function's body agree if the second lets `ref.func` name the functions `bs`.
  entries_agree : (f : Func) (ft : FuncType) (bs : List Bool) → ((i : ℕ) → IsTrue (kept Functions i) → slice_get (named_of t) i ≡ Some true → slice_get bs (slice_index m.funcs i) ≡ Some true) →
      (space : Space) (called : Bool) (i : ℕ) → IsTrue (kept space i) → OperandAgrees m (body_context t f ft) (record (body_context u (new_func m f) ft) { named = bs }) space called i
  entries_agree f ft bs r Types called = k.types
  entries_agree f ft bs r Functions true = k.funcs
  entries_agree f ft bs r Functions false = r
  entries_agree f ft bs r Tables called = k.tables
  entries_agree f ft bs r Memories called = k.memories
  entries_agree f ft bs r Globals called = k.globals
  entries_agree f ft bs r ElementSegments called = k.elems
  entries_agree f ft bs r DataSegments called = k.datas

  agrees : (f : Func) (ft : FuncType) → RefsAgree m kept t u → AgreesAlong m kept (body_context t f ft) (body_context u (new_func m f) ft)
  agrees f ft r = record { entries = entries_agree f ft (named_of u) r; frame = record { locals = refl; results = refl; labels = refl } }

  any_agrees : (f : Func) (ft : FuncType) → AgreesAlong m kept (body_context t f ft) (any_named (body_context u (new_func m f) ft))
  any_agrees f ft = record {
    entries = entries_agree f ft (replicate (length (funcs_of u)) true) (λ i h e. replicate_at true (length (funcs_of u)) (slice_index m.funcs i) (k.func_space i h (named_within (refs_of t) 0 (length (funcs_of t)) i true e)));
    frame = record { locals = refl; results = refl; labels = refl };
  }

  -- The items that are no bodies.
  abbrev NoBody : ItemKind → Type 0
  NoBody kind.Body = ⊥
  NoBody _ = Unit {0}

  item_kept : (n : ItemKind) (i j : ℕ) → NoBody n → ItemComesFrom m kept t u n i j → HoldsAt t n i → HoldsAt u n j
  item_kept kind.Import i j o (x, y, at, new, h, e) (z, it, p) =
      let same : z ≡ x = cc in
      (y, new, subst (ImportHolds u) (sym e) (import_kept x.desc h (subst (λ w. ImportHolds t w.desc) same p)))
  item_kept kind.Memories i j o le p = let few : length (memories_of t) ≤ 1 = p in omega arith
  item_kept kind.Func i j o (f, g, at, new, h, e) (z, it, p) =
      let same : z ≡ f = cc in
      (g, new, subst (λ w. w < length u.types) (sym e) (types_within f.ty h (subst (λ w. w.ty < length t.types) same p)))
  item_kept kind.Table i j o e (z, it, p) = (z, e ∙ it, p)
  item_kept kind.Memory i j o e (z, it, p) = (z, e ∙ it, p)
  item_kept kind.Global i j o (g, h, at, new, e, c) (z, it, p) =
      let same : z ≡ g = cc in
      (h, new, c _ (subst (λ w. const_type t w.init ≡ Some w.ty.ty) same p) ∙ ap Some (sym e))
  item_kept kind.Export i j o (e, f, at, new, h, d, fresh) (z, it, p, only) =
      let same : z ≡ e = cc in
      (f, new, subst (InSpace u) (sym d) (export_kept e.desc h (subst (λ w. InSpace t w.desc) same p)), fresh)
  item_kept kind.Start i j o (x, at, h, new) (z, ft, it, ty, ps, rs) =
      let same : z ≡ x = cc in
      (slice_index m.funcs x, ft, new, k.funcs x h ft (subst (λ w. type_of_func t w ≡ Some ft) same ty), ps, rs)
  item_kept kind.Elem i j o (a, b, at, new, e, c, mode) (z, it, p, q) =
      let same : z ≡ a = cc in
      let each : (n : ℕ) (d : ConstExpr) → slice_get a.items n ≡ Some d → const_type t d ≡ Some (Ref a.ty) = subst (λ (w : ElemSeg). (n : ℕ) (d : ConstExpr) → slice_get w.items n ≡ Some d → const_type t d ≡ Some (Ref w.ty)) same p in
      (b, new, (λ n d g. let r = c n d g in r.3 _ (each r.0 r.1 r.2) ∙ ap (λ w. Some (Ref w)) (sym e)), subst (λ w. ElemModeHolds u w b.mode) (sym e) (elem_mode_kept a.ty a.mode b.mode mode (subst (λ (w : ElemSeg). ElemModeHolds t w.ty w.mode) same q)))
  item_kept kind.Segment i j o (a, b, at, new, mode) (z, it, p) =
      let same : z ≡ a = cc in
      (b, new, data_mode_kept a.mode b.mode mode (subst (λ w. DataModeHolds t w.mode) same p))
  item_kept kind.Body i j o s p = absurd o

  pub items_kept : BodiesAreKept → (n : ItemKind) (i j : ℕ) → RefsAgree m kept t u → ItemComesFrom m kept t u n i j → HoldsAt t n i → HoldsAt u n j
  items_kept law kind.Body i j r (f, at, h, new) (z, ft, it, ty, w) =
      let same : z ≡ f = cc in
      let ty' : slice_get t.types f.ty ≡ Some ft = subst (λ (g : Func). slice_get t.types g.ty ≡ Some ft) same ty in
      let w' : WellTyped (body_context t f ft) f.body [] ft.results = subst (λ (g : Func). WellTyped (body_context t g ft) g.body [] ft.results) same w in
      (new_func m f, ft, new, k.types f.ty h.0 ft ty', law m kept (body_context t f ft) (body_context u (new_func m f) ft) f.body [] ft.results (agrees f ft r) h.1 w')
  items_kept law n i j r s p = item_kept n i j tt s p

  pub items_weakly : BodiesAreKept → (n : ItemKind) (i j : ℕ) → ItemComesFrom m kept t u n i j → HoldsAt t n i → HoldsButForReferences u n j
  items_weakly law kind.Body i j (f, at, h, new) (z, ft, it, ty, w) =
      let same : z ≡ f = cc in
      let ty' : slice_get t.types f.ty ≡ Some ft = subst (λ (g : Func). slice_get t.types g.ty ≡ Some ft) same ty in
      let w' : WellTyped (body_context t f ft) f.body [] ft.results = subst (λ (g : Func). WellTyped (body_context t g ft) g.body [] ft.results) same w in
      (new_func m f, ft, new, k.types f.ty h.0 ft ty', law m kept (body_context t f ft) (any_named (body_context u (new_func m f) ft)) f.body [] ft.results (any_agrees f ft) h.1 w')
  items_weakly law n i j s p = item_kept n i j tt s p
