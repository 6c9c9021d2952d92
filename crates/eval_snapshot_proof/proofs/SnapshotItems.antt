-- Each item of a snapshot fulfils the conditions of validity, except that its references may be
-- undeclared.
use Rattle.base_lists.proofs.Common.{◌≡◌, ◌∙◌, ap, ap₂, sym, subst, refl, ℕ, zero, suc, ◌+◌, ◌<◌, ◌≤◌, List, [], ◌∷◌, ◌++◌, map, length, take, replicate, Option, Some, None, Bool, true, false, not, ◌&&◌, ◌||◌, cond, slice_get, ⊎_elim, ◌⊎◌, inl, inr, true≢false, arith, append_assoc, Contains, nat_eq}
use Rattle.base_lists.proofs.Common.{nat_lt, nat_le, list_any, cons_option, lt-ltb, ltb-true, length-append, map-append, any_passes_from_place, slice_get_within, first_at, append_from, map_from, replicate_at, slice_get_there, only_true}
use Rattle.std.proofs.Common.{filter_map}
use Rattle.std.specs.Prelude.{unwrap_or}
use Rattle.base_lists.specs.Options.{◌>>=◌}
use Rattle.std.specs.List.{take-map}
use Rattle.base_kept.specs.Kept.{kept as keeping, kept_before, is_marked}
use Rattle.base_kept.proofs.Laws.{kept_from, kept_map, kept_take, kept_contained}
use Rattle.base_kept.proofs.Marks.{named_within}
use Rattle.wasm_tree_spec.specs.Prelude.{FuncType, Limits, RefType, ValType, Ref, ConstExpr, DataMode, DataSeg, ElemMode, Export, ExportDesc, Func, GlobalDef, ImportDesc, Module, any_uses_data, uses_data, funcs_of, globals_of, memories_of, imported_funcs, imported_globals, imported_memories}
use Rattle.wasm_tree.specs.declared.types.RefType.TheVariants.{Func as func_ref}
use Rattle.wasm_tree.specs.declared.module.ConstExpr.TheVariants as const
use Rattle.wasm_tree.specs.declared.module.DataMode.TheVariants as data'
use Rattle.wasm_tree.specs.declared.module.ElemMode.TheVariants as elem
use Rattle.wasm_tree.specs.declared.module.ExportDesc.TheVariants as ex
use Rattle.wasm_tree.specs.declared.module.ImportDesc.TheVariants as im
use Rattle.wasm_valid_bodies.specs.Typing.{WellTyped, only}
use Rattle.wasm_valid.specs.declared.kinds.ItemKind.{ItemKind}
use Rattle.wasm_valid.specs.declared.kinds.ItemKind.TheVariants as kind
use Rattle.wasm_valid.specs.Prelude.{const_type, refs_of, DataModeHolds, ElemModeHolds, HoldsAt, ImportHolds, InSpace, body_context, count_of, ItemsHold}
use Rattle.wasm_meaning.specs.Prelude.{Text}
use Rattle.index_remap_proof.specs.ButForReferences.{HoldsButForReferences, any_named}
use Rattle.eval_spec.specs.Prelude.{State, takes_and_gives_nothing, value_of_global, memory_bytes, is_dropped}
use Rattle.eval_snapshot_spec.specs.Contents.{contents, stretches, stretch_segment}
use Rattle.eval_snapshot_spec.specs.Snapshot.{added_funcs, empty_func, empty_type, export_left, global_left, globals_left, is_among_names, is_kept, is_passive, emptied, memory_segments, old_segments, segment_left, segments_left, snapshot_tree}
use Rattle.eval_snapshot_proof.specs.GlobalsAndSegments.{CodeLaws}
use Rattle.eval_snapshot_proof.specs.SuitableStates.{HasEmptyType, Suits}
use Rattle.eval_snapshot_proof.proofs.TypedCode.{typed_wider}

-- ---- lists ----

-- An item that is marked by a test passes the test.
marked_test : {A : Type 0} (test : A → Bool) (xs : List A) (n : ℕ) (x : A) → slice_get xs n ≡ Some x → is_marked (map test xs) n ≡ true → test x ≡ true
marked_test test [] n x e h = cc
marked_test test (y ∷ ys) zero x e h = let same : y ≡ x = cc in ap test (sym same) ∙ h
marked_test test (y ∷ ys) (suc n) x e h = marked_test test ys n x e h

-- ---- globals ----

module _ (m : Module) (s : State) where
  pub global_types : (n : ℕ) (gs : List GlobalDef) → map (λ g. g.ty) (globals_left m s n gs) ≡ map (λ g. g.ty) gs
  global_types n [] = refl
  global_types n (g ∷ gs) = ap (λ ts. g.ty ∷ ts) (global_types (suc n) gs)

  pub global_from : (n : ℕ) (gs : List GlobalDef) (i : ℕ) (h : GlobalDef) → slice_get (globals_left m s n gs) i ≡ Some h → (g : GlobalDef) × (slice_get gs i ≡ Some g) × (h ≡ global_left m s (n + i) g)
  global_from n [] i h e = cc
  global_from n (g ∷ gs) zero h e = (g, refl, let same : global_left m s n g ≡ h = cc in sym same ∙ ap (λ k. global_left m s k g) (let z : n ≡ n + 0 = omega arith in z))
  global_from n (g ∷ gs) (suc i) h e =
      let r = global_from (suc n) gs i h e in
      (r.0, r.1, r.2 ∙ ap (λ k. global_left m s k r.0) (let z : suc n + i ≡ n + suc i = omega arith in z))

-- ---- data segments ----

left_passive : (b undropped : Bool) (d : DataSeg) → is_passive d.mode ≡ b → is_passive (cond (b && undropped) d emptied).mode ≡ true
left_passive true true d h = h
left_passive true false d h = refl
left_passive false undropped d h = refl

pub segment_from : (s : State) (n : ℕ) (ds : List DataSeg) (i : ℕ) (d : DataSeg) → slice_get (segments_left s n ds) i ≡ Some d → is_passive d.mode ≡ true
segment_from s n [] i d e = cc
segment_from s n (x ∷ xs) zero d e = let same : segment_left s n x ≡ d = cc in ap (λ z. is_passive z.mode) (sym same) ∙ left_passive (is_passive x.mode) (not (is_dropped s n)) x refl
segment_from s n (x ∷ xs) (suc i) d e = segment_from s (suc n) xs i d e

pub segments_many : (s : State) (n : ℕ) (ds : List DataSeg) → length (segments_left s n ds) ≡ length ds
segments_many s n [] = refl
segments_many s n (d ∷ ds) = ap suc (segments_many s (suc n) ds)

-- ---- exports ----

module _ (evaluated kept : List Text) (empty : ℕ) where
  -- The export is kept, either as it is or with the empty function.
  abbrev pub stays : Export → Bool
  stays e = not (is_among_names evaluated e.name) || is_among_names kept e.name

  abbrev pub pointed : Export → Export
  pointed e = cond (is_among_names evaluated e.name) (record e { desc = ex.Func empty }) e

  -- The exports of the snapshot are those that stay, in order.
  pub exports_are : (es : List Export) → filter_map (export_left evaluated kept empty) es ≡ map pointed (keeping (map stays es) es)
  exports_are [] = refl
  exports_are (e ∷ es) = one (is_among_names evaluated e.name) (is_among_names kept e.name) refl refl (exports_are es)
    where
      one : (b k : Bool) → is_among_names evaluated e.name ≡ b → is_among_names kept e.name ≡ k → filter_map (export_left evaluated kept empty) es ≡ map pointed (keeping (map stays es) es) →
          cons_option (export_left evaluated kept empty e) (filter_map (export_left evaluated kept empty) es) ≡ map pointed (cond (stays e) (e ∷ keeping (map stays es) es) (keeping (map stays es) es))
      one true true f g h = rw (f, g) (ap₂ (λ x xs. x ∷ xs) (ap (λ b. cond b (record e { desc = ex.Func empty }) e) (sym f)) h)
      one true false f g h = rw (f, g) h
      one false k f g h = rw f (ap₂ (λ x xs. x ∷ xs) (ap (λ b. cond b (record e { desc = ex.Func empty }) e) (sym f)) h)

  pub names_pointed : (es : List Export) → map (λ e. e.name) (map pointed es) ≡ map (λ e. e.name) es
  names_pointed [] = refl
  names_pointed (e ∷ es) = ap₂ (λ n ns. n ∷ ns) (one (is_among_names evaluated e.name)) (names_pointed es)
    where
      one : (b : Bool) → (cond b (record e { desc = ex.Func empty }) e).name ≡ e.name
      one true = refl
      one false = refl

-- ---- the items ----

module _ (laws : CodeLaws) (m : Module) (s : State) (evaluated kept : List Text) (holds : ItemsHold m) (suits : Suits m s) (has_empty : HasEmptyType m) where
  abbrev u : Module
  u = snapshot_tree m s evaluated kept

  abbrev added : List Func
  added = added_funcs m evaluated kept

  pub funcs_are : funcs_of u ≡ funcs_of m ++ map (λ f. f.ty) added
  funcs_are = ap (λ ts. imported_funcs m.imports ++ ts) (map-append (λ f. f.ty) m.funcs added) ∙ sym (append_assoc (imported_funcs m.imports) (map (λ f. f.ty) m.funcs) (map (λ f. f.ty) added))

  pub globals_are : globals_of u ≡ globals_of m
  globals_are = ap (λ ts. imported_globals m.imports ++ ts) (global_types m s (length (imported_globals m.imports)) m.globals)

  funcs_more : length (funcs_of m) ≤ length (funcs_of u)
  funcs_more = let e = ap length funcs_are in let n = length-append (funcs_of m) (map (λ f. f.ty) added) in omega (arith, e, n)

  -- ---- constant expressions ----

  pub const_left : (e : ConstExpr) (ty : ValType) → const_type m e ≡ Some ty → const_type u e ≡ Some ty
  const_left (const.I32 v) ty h = h
  const_left (const.I64 v) ty h = h
  const_left (const.Null r) ty h = h
  const_left (const.Func f) ty h =
      let in_m = ltb-true f (length (funcs_of m)) (only_true (nat_lt f (length (funcs_of m))) (Some (Ref func_ref)) ty h) in
      let le = funcs_more in
      ap (λ b. only b (Some (Ref func_ref))) (lt-ltb f (length (funcs_of u)) (omega (arith, in_m, le)) ∙ sym (lt-ltb f (length (funcs_of m)) in_m)) ∙ h
  const_left (const.Global g) ty h = ap (λ gs. slice_get gs g >>= λ z. only (nat_lt g (length (imported_globals m.imports)) && not z.mutable) (Some z.ty)) globals_are ∙ h

  -- ---- functions ----

  -- The type of the added function is there, and it has no parameters and no results.
  pub added_type : (t : FuncType) × (slice_get m.types (empty_type m) ≡ Some t) × (takes_and_gives_nothing t ≡ true)
  added_type =
      let r = first_at takes_and_gives_nothing m.types 0 has_empty.0 has_empty.1 has_empty.2 has_empty.3 in
      let place : 0 + r.at ≡ r.at = omega arith in
      (r.item, ap (λ o. slice_get m.types (unwrap_or o 0)) r.is ∙ (ap (slice_get m.types) place ∙ r.got), r.yes)

  -- A function of the snapshot is either one of the module or the added one.
  pub func_from : (j : ℕ) (f : Func) → slice_get u.funcs j ≡ Some f → (slice_get m.funcs j ≡ Some f) ⊎ (f ≡ empty_func m)
  func_from j f e = ⊎_elim inl (λ p. inr (by (list_any (λ e. is_kept evaluated kept e.name) m.exports) p.0 f p.2)) (append_from m.funcs added j f e)
    where
      by : (b : Bool) (k : ℕ) (f : Func) → slice_get (cond b (empty_func m ∷ []) []) k ≡ Some f → f ≡ empty_func m
      by true zero f e = cc
      by true (suc k) f e = cc
      by false k f e = cc

  func_item : (j : ℕ) → j < length u.funcs → (f : Func) × (slice_get u.funcs j ≡ Some f) × (f.ty < length m.types)
  func_item j lt =
      let f = slice_get_there u.funcs j lt in (
        f.0,
        f.1,
        ⊎_elim (λ h. let z = holds kind.Func j (slice_get_within m.funcs j f.0 h) in let both : Some z.0 ≡ Some f.0 = sym z.1 ∙ h in let same : z.0 ≡ f.0 = cc in subst (λ (g : Func). g.ty < length m.types) same z.2)
            (λ h. let t = added_type in subst (λ (g : Func). g.ty < length m.types) (sym h) (slice_get_within m.types (empty_type m) t.0 t.1)) (func_from j f.0 f.1),
      )

  -- ---- imports, globals, exports ----

  import_left : (d : ImportDesc) → ImportHolds m d → ImportHolds u d
  import_left (im.Func ty) h = h
  import_left (im.Table ty) h = h
  import_left (im.Memory l) h = h
  import_left (im.Global g) h = h

  global_left_holds : (j : ℕ) (g : GlobalDef) → slice_get m.globals j ≡ Some g → const_type m g.init ≡ Some g.ty.ty → (o : Option ConstExpr) → value_of_global m s (length (imported_globals m.imports) + j) ≡ o → const_type u (unwrap_or o g.init) ≡ Some g.ty.ty
  global_left_holds j g at typed None e = const_left g.init g.ty.ty typed
  global_left_holds j g at typed (Some c) e = const_left c g.ty.ty (suits.globals j g c at e)

  global_item : (j : ℕ) → j < length u.globals → HoldsAt u kind.Global j
  global_item j lt =
      let h = slice_get_there u.globals j lt in
      let g = global_from m s (length (imported_globals m.imports)) m.globals j h.0 h.1 in
      let z = holds kind.Global j (slice_get_within m.globals j g.0 g.1) in
      let both : Some z.0 ≡ Some g.0 = sym z.1 ∙ g.1 in
      let same : z.0 ≡ g.0 = cc in
      let typed : const_type m g.0.init ≡ Some g.0.ty.ty = subst (λ (w : GlobalDef). const_type m w.init ≡ Some w.ty.ty) same z.2 in
      (h.0, h.1, subst (λ (w : GlobalDef). const_type u w.init ≡ Some w.ty.ty) (sym g.2) (global_left_holds j g.0 g.1 typed (value_of_global m s (length (imported_globals m.imports) + j)) refl))

  desc_left : (d : ExportDesc) → InSpace m d → InSpace u d
  desc_left (ex.Func f) h = let le = funcs_more in omega (arith, h, le)
  desc_left (ex.Table t) h = h
  desc_left (ex.Memory k) h = h
  desc_left (ex.Global g) h = subst (λ gs. g < length gs) (sym globals_are) h

  abbrev exported : Export → Export
  exported = pointed evaluated kept (length (funcs_of m))

  abbrev marks : List Bool
  marks = map (stays evaluated kept (length (funcs_of m))) m.exports

  -- The empty function is there if an export of an evaluated constructor is kept.
  empty_there : (n : ℕ) (e : Export) → slice_get m.exports n ≡ Some e → is_kept evaluated kept e.name ≡ true → length (funcs_of m) < length (funcs_of u)
  empty_there n e at h =
      let is : added ≡ empty_func m ∷ [] = ap (λ b. cond b (empty_func m ∷ []) []) (any_passes_from_place (λ e. is_kept evaluated kept e.name) m.exports n e at h) in
      let all = ap length funcs_are in
      let many = length-append (funcs_of m) (map (λ f. f.ty) added) in
      let one : length (map (λ f. f.ty) added) ≡ 1 = ap (λ fs. length (map (λ f. f.ty) fs)) is in
      omega (arith, all, many, one)

  export_in_space : (n : ℕ) (e : Export) → slice_get m.exports n ≡ Some e → InSpace m e.desc → stays evaluated kept (length (funcs_of m)) e ≡ true → InSpace u (exported e).desc
  export_in_space n e at h stay = by (is_among_names evaluated e.name) (is_among_names kept e.name) refl refl
    where
      by : (b k : Bool) → is_among_names evaluated e.name ≡ b → is_among_names kept e.name ≡ k → InSpace u (cond b (record e { desc = ex.Func (length (funcs_of m)) }) e).desc
      by true true f g = empty_there n e at (ap₂ (λ x y. x && y) f g)
      by true false f g = absurd (true≢false (sym stay ∙ ap₂ (λ x y. not x || y) f g))
      by false k f g = desc_left e.desc h

  exports_of_u : u.exports ≡ map exported (keeping marks m.exports)
  exports_of_u = exports_are evaluated kept (length (funcs_of m)) m.exports

  fresh : (j place : ℕ) (name : Text) → kept_before marks place ≡ j → (Contains (map (λ x. x.name) (take place m.exports)) name → ⊥) → Contains (map (λ x. x.name) (take j u.exports)) name → ⊥
  fresh j place name goes new h =
      let xs = keeping marks m.exports in
      let same : map (λ (x : Export). x.name) (take j u.exports) ≡ keeping (take place marks) (map (λ x. x.name) (take place m.exports)) =
      ap (λ es. map (λ (x : Export). x.name) (take j es)) exports_of_u
      ∙ ap (map (λ (x : Export). x.name)) (take-map exported j xs) ∙ names_pointed evaluated kept (length (funcs_of m)) (take j xs)
      ∙ ap (λ (n : ℕ). map (λ (x : Export). x.name) (take n xs)) (sym goes) ∙ ap (map (λ (x : Export). x.name)) (kept_take marks m.exports place)
      ∙ sym (kept_map (λ (x : Export). x.name) (take place marks) (take place m.exports)) in
      new (kept_contained (take place marks) (map (λ x. x.name) (take place m.exports)) name (subst (λ ns. Contains ns name) same h))

  name_left : (e : Export) (b : Bool) → (cond b (record e { desc = ex.Func (length (funcs_of m)) }) e).name ≡ e.name
  name_left e true = refl
  name_left e false = refl

  export_item : (j : ℕ) → j < length u.exports → HoldsAt u kind.Export j
  export_item j lt =
      let y = slice_get_there u.exports j lt in
      let x = map_from exported (keeping marks m.exports) j y.0 (ap (λ es. slice_get es j) (sym exports_of_u) ∙ y.1) in
      let p = kept_from marks m.exports j x.0 x.1 in
      let z = holds kind.Export p.place (slice_get_within m.exports p.place x.0 p.is) in
      let both : Some z.0 ≡ Some x.0 = sym z.1 ∙ p.is in
      let same : z.0 ≡ x.0 = cc in
      let stay : stays evaluated kept (length (funcs_of m)) x.0 ≡ true = marked_test (stays evaluated kept (length (funcs_of m))) m.exports p.place x.0 p.is p.yes in
      let inside = export_in_space p.place x.0 p.is (subst (λ (e : Export). InSpace m e.desc) same z.2) stay in
      let name : y.0.name ≡ x.0.name = ap (λ (e : Export). e.name) (sym x.2) ∙ name_left x.0 (is_among_names evaluated x.0.name) in
      let new = fresh j p.place x.0.name p.goes (subst (λ (e : Export). Contains (map (λ x. x.name) (take p.place m.exports)) e.name → ⊥) same z.3) in
      (y.0, y.1, subst (λ (e : Export). InSpace u e.desc) x.2 inside, subst (λ n. Contains (map (λ x. x.name) (take j u.exports)) n → ⊥) (sym name) new)

  -- ---- segments ----

  elem_mode_left : (ty : RefType) (mode : ElemMode) → ElemModeHolds m ty mode → ElemModeHolds u ty mode
  elem_mode_left ty (elem.Active table offset) h = (h.0, const_left offset _ h.1)
  elem_mode_left ty elem.Passive h = tt
  elem_mode_left ty elem.Declarative h = tt

  passive_holds : (mode : DataMode) → is_passive mode ≡ true → DataModeHolds u mode
  passive_holds data'.Passive h = tt
  passive_holds (data'.Active memory offset) h = absurd (true≢false (sym h))

  memory_there : (n : ℕ) (d : DataSeg) → slice_get (memory_segments m s) n ≡ Some d → length (imported_memories m.imports) < length (memories_of m)
  memory_there n d e = by m.mems refl
    where
      by : (ls : List Limits) → m.mems ≡ ls → length (imported_memories m.imports) < length (memories_of m)
      by [] f = absurd (let none : slice_get (contents (length (imported_memories m.imports)) []) n ≡ Some d = ap (λ bs. slice_get (contents (length (imported_memories m.imports)) bs) n) (sym (suits.memory f)) ∙ e in let z = none in cc)
      by (l ∷ ls) f = let many = length-append (imported_memories m.imports) m.mems in let some = ap length f in omega (arith, many, some)

  segment_item : (j : ℕ) → j < length u.datas → HoldsAt u kind.Segment j
  segment_item j lt =
      let d = slice_get_there u.datas j lt in
      (d.0, d.1, ⊎_elim (λ h. passive_holds d.0.mode (old j d.0 (any_uses_data m.funcs) h)) (λ p. new p.0 d.0 p.2) (append_from (old_segments m s) (memory_segments m s) j d.0 d.1))
    where
      old : (j : ℕ) (d : DataSeg) (b : Bool) → slice_get (cond b (segments_left s 0 m.datas) []) j ≡ Some d → is_passive d.mode ≡ true
      old j d true h = segment_from s 0 m.datas j d h
      old j d false h = cc

      new : (k : ℕ) (d : DataSeg) → slice_get (memory_segments m s) k ≡ Some d → DataModeHolds u d.mode
      new k d h =
          let x = map_from (stretch_segment (length (imported_memories m.imports)) (memory_bytes m s)) (stretches (memory_bytes m s)) k d h in
          subst (λ (z : DataSeg). DataModeHolds u z.mode) x.2 (memory_there k d h, refl)

  -- ---- bodies ----

  datas_enough : any_uses_data m.funcs ≡ true → nat_le (length m.datas) (length u.datas) ≡ true
  datas_enough h =
      let is : old_segments m s ≡ segments_left s 0 m.datas = ap (λ b. cond b (segments_left s 0 m.datas) []) h in
      let many = length-append (old_segments m s) (memory_segments m s) in
      let old = ap length is ∙ segments_many s 0 m.datas in
      let le : length m.datas ≤ length u.datas = omega (arith, many, old) in grind (arith, le)

  body_left : (j : ℕ) (f : Func) (t : FuncType) → slice_get m.funcs j ≡ Some f → WellTyped (body_context m f t) f.body [] t.results → WellTyped (any_named (body_context u f t)) f.body [] t.results
  body_left j f t at typed =
      let wider = typed_wider (body_context m f t) (map (λ f. f.ty) added) (length u.datas) (replicate (length (funcs_of u)) true)
      (λ x h. let within = named_within (refs_of m) 0 (length (funcs_of m)) x true h in let le = funcs_more in replicate_at true (length (funcs_of u)) x (omega (arith, within, le)))
      laws.inside laws.any laws.layers f.body [] t.results (λ h. datas_enough (any_passes_from_place (λ f. uses_data f.body) m.funcs j f at h)) typed in
      let one = subst (λ fs. WellTyped (record (body_context m f t) { funcs = fs; datas = length u.datas; named = replicate (length (funcs_of u)) true }) f.body [] t.results) (sym funcs_are) wider in
      subst (λ gs. WellTyped (record (body_context m f t) { funcs = funcs_of u; globals = gs; datas = length u.datas; named = replicate (length (funcs_of u)) true }) f.body [] t.results) (sym globals_are) one

  nothing : (t : FuncType) → takes_and_gives_nothing t ≡ true → t.results ≡ []
  nothing t h = none t.results (right_zero (length t.params) (length t.results) h)
    where
      none : (rs : List ValType) → length rs ≡ 0 → rs ≡ []
      none [] e = refl
      none (r ∷ rs) e = absurd (omega (arith, e))

      right_zero : (a b : ℕ) → nat_eq a 0 && nat_eq b 0 ≡ true → b ≡ 0
      right_zero a b e = grind (arith, e)

  body_item : (j : ℕ) → j < length u.funcs → HoldsButForReferences u kind.Body j
  body_item j lt =
      let f = slice_get_there u.funcs j lt in
      ⊎_elim (λ h. old f.0 f.1 h) (λ h. new f.0 f.1 h) (func_from j f.0 f.1)
    where
      old : (f : Func) → slice_get u.funcs j ≡ Some f → slice_get m.funcs j ≡ Some f → HoldsButForReferences u kind.Body j
      old f is at =
          let z = holds kind.Body j (slice_get_within m.funcs j f at) in
          let both : Some z.0 ≡ Some f = sym z.2 ∙ at in
          let same : z.0 ≡ f = cc in
          (f, z.1, is, subst (λ (g : Func). slice_get m.types g.ty ≡ Some z.1) same z.3, body_left j f z.1 at (subst (λ (g : Func). WellTyped (body_context m g z.1) g.body [] z.1.results) same z.4))

      new : (f : Func) → slice_get u.funcs j ≡ Some f → f ≡ empty_func m → HoldsButForReferences u kind.Body j
      new f is same =
          let t = added_type in
          let typed : WellTyped (any_named (body_context u (empty_func m) t.0)) [] [] t.0.results = ([], refl, rw (nothing t.0 t.2) tt) in
          (f, t.0, is, subst (λ (g : Func). slice_get m.types g.ty ≡ Some t.0) (sym same) t.1, subst (λ (g : Func). WellTyped (any_named (body_context u g t.0)) g.body [] t.0.results) (sym same) typed)

  -- ---- all ----

  pub items_hold : (n : ItemKind) (j : ℕ) → j < count_of u true n → HoldsButForReferences u n j
  items_hold kind.Import j lt = let z = holds kind.Import j lt in (z.0, z.1, import_left z.0.desc z.2)
  items_hold kind.Memories j lt = absurd (omega (arith, lt))
  items_hold kind.Func j lt = func_item j lt
  items_hold kind.Table j lt = holds kind.Table j lt
  items_hold kind.Memory j lt = holds kind.Memory j lt
  items_hold kind.Global j lt = global_item j lt
  items_hold kind.Export j lt = export_item j lt
  items_hold kind.Start j lt = absurd (omega (arith, lt))
  items_hold kind.Elem j lt = let z = holds kind.Elem j lt in (z.0, z.1, (λ p e at. const_left e _ (z.2 p e at)), elem_mode_left z.0.ty z.0.mode z.3)
  items_hold kind.Segment j lt = segment_item j lt
  items_hold kind.Body j lt = body_item j lt
