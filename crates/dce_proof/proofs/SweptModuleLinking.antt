-- An environment that links a module links what is left of it.
use Rattle.base_lists.proofs.Common.{◌≡◌, ◌∙◌, ap, ap₂, sym, subst, refl, ℕ, zero, suc, ◌+◌, ◌<◌, ◌⊎◌, inl, inr, List, [], ◌∷◌, ◌++◌, map, length, Some, true, false, arith, option_and_then, slice_get, unwrap_or, length-append, length-map, slice_get_within, and_then_is, is_some_there, all_there_at}
use Rattle.base_lists.proofs.Common.{all_there_from, all_there_length, length-numbers, append_from, map_at, map_from, slice_get_there, list_all_each, places_many, all_rel, right_there, then_eq, then_rel}
use Rattle.wasm_tree_spec.specs.Prelude.{Functions, ConstExpr, ElemMode, ElemSeg, GlobalDef, Import, ImportDesc, Module, imported_funcs, funcs_of}
use Rattle.wasm_tree.specs.declared.module.Func as tree
use Rattle.wasm_tree.specs.declared.module.ImportDesc.TheVariants as im
use Rattle.wasm_meaning.specs.Prelude.{Text, Inst, Func, Global, Elem, Store, RefVal, Environment, ExternalValue, imported_external_value, imports_of, all_of, sites, own_store, joined_stores, part_store, stores_from, insts_from, is_match, is_matched, all_there, seen_as, links, alone, Begun}
use Rattle.wasm_meaning.specs.Linking as linking
use Rattle.wasm_meaning.specs.World as world
use Rattle.index_remap.specs.declared.remap.Remap.{Remap}
use Rattle.run_simulation.specs.Prelude.{Pairing, StoreRel, OptRel, RefRel}
use Rattle.index_remap.specs.Prelude.{declared_refs, new_func, new_global, new_const, RenumberedCodeIsRelated}
use Rattle.index_remap_proof.specs.Indices.{TreeNamesOnly}
use Rattle.world_simulation.specs.Prelude.{DeclaringSegmentsAreAllocated, WhatIsInstantiated, one, site, external_value_in, Instantiated, values_in, IsInstantiated, Adds, IsInst, last_segments}
use Rattle.world_simulation.specs.ModulesAlone.{SpacesAreImportsAndOwn}
use Rattle.world_simulation.specs.CorrespondingWorlds.{CorrespondingWorldsHaveEqualTraces}
use Rattle.world_simulation.specs.ConstantValues.{ConstantsAloneReadTheEnvironment}
use Rattle.world_simulation.proofs.RenumberedItems.{funcs_correspond}
use Rattle.world_simulation.proofs.OneModuleWorlds.{thing_rel, match_same}
use Rattle.world_simulation.proofs.AllocatedStores.{func_rel, global_rel, ref_rel, stores_rel}
use Rattle.base_kept.specs.Kept.{kept}
use Rattle.base_kept.proofs.Laws.{kept_from}
use Rattle.dce_spec.specs.Marks.{Marks}
use Rattle.dce_spec.specs.Closed.{AreClosed}
use Rattle.dce_spec.specs.Swept.{defined_funcs, defined_globals, kept_elem, kept_items, kept_tree, renumbered_kept, sweep_map, swept}
use Rattle.dce_spec.specs.Unswept.{unswept}
use Rattle.dce_proof.proofs.CorrespondingWorlds.{kept_indices, same, moved_elem, elems_mapped, R, own, names, consts, definitions, view}

-- A module alone is linked if its instance, its store and its view exist and its imports match.
module _ (env : Environment) (t : Module) (is : List Inst) where
  pub made_there : (s : Store) (view : List (Text × ExternalValue)) → insts_from env (one t) 0 (one t) ≡ Some is → stores_from env (one t) is (own_store env) 0 (one t) is ≡ Some s → all_there (seen_as is) (alone t).view ≡ Some view →
      all_of (is_matched env (one t) s) (sites (one t)) ≡ true → links env (alone t) ≡ true
  made_there s view e f g h = rw (e, f, g, h)

-- The laws of other crates that these lemmas use.
pub record Laws : Type 0 where
  pub spaces : SpacesAreImportsAndOwn
  pub constants : ConstantsAloneReadTheEnvironment
  pub declared : DeclaringSegmentsAreAllocated
  pub items : (k : Marks) (mode : ElemMode) (items : List ConstExpr) (p : ℕ) (e : ConstExpr) → slice_get (kept_items k mode items) p ≡ Some e → (q : ℕ) × (slice_get items q ≡ Some e)
  pub made : WhatIsInstantiated
  pub equal_traces : CorrespondingWorldsHaveEqualTraces

module _ (laws : Laws) (k : Marks) (t : Module) (c : AreClosed k t) (env : Environment) (imports : (swept k t).imports ≡ kept k.imports t.imports) (i j : Inst) (a : IsInst env (one t) 0 t i) (b : IsInst env (one (swept k t)) 0 (swept k t) j)
    (named : TreeNamesOnly (kept_indices k t) (kept_tree k t)) (code : RenumberedCodeIsRelated) where
  abbrev r : Remap
  r = sweep_map k t

  abbrev u : Module
  u = swept k t

  abbrev fs : List ℕ
  fs = declared_refs (renumbered_kept k t)

  abbrev Q : Pairing
  Q = R k t c env

  abbrev v : Instantiated
  v = record { parts = one t; insts = i ∷ [] }

  abbrev w : Instantiated
  w = record { parts = one u; insts = j ∷ [] }

  -- ---- what is left is allocated ----

  module _ (added : Store) (made : part_store env (one t) (i ∷ []) 0 t i ≡ Some added) where
    first : Adds env (one t) (i ∷ []) 0 t i added
    first = search (arith, made)

    func_there : (y : ℕ) (f : tree.Func) → slice_get u.funcs y ≡ Some f → (x : Func) × (world.new_func j f ≡ Some x)
    func_there y f h =
        let g = map_from (new_func r) (kept (defined_funcs k t) t.funcs) y f (subst (λ xs. slice_get xs y ≡ Some f) (same k t c).funcs h) in
        let p = kept_from (defined_funcs k t) t.funcs y g.0 g.1 in
        let s = all_there_at (world.new_func i) t.funcs added.funcs first.funcs p.place g.0 p.is in
        let q = right_there (func_rel Q (funcs_correspond Q r (kept_indices k t) i j (names k t c env imports laws.constants i j a b) (code _ _ [] r i j) g.0 (named.funcs y g.0 g.1))) s.1 in
        (q.0, ap (world.new_func j) (sym g.2) ∙ q.1)

    global_there : (y : ℕ) (g : GlobalDef) → slice_get u.globals y ≡ Some g → (x : Global) × (world.new_global env (one u) (j ∷ []) 0 g ≡ Some x)
    global_there y g h =
        let d = map_from (new_global r) (kept (defined_globals k t) t.globals) y g (subst (λ xs. slice_get xs y ≡ Some g) (same k t c).globals h) in
        let p = kept_from (defined_globals k t) t.globals y d.0 d.1 in
        let s = all_there_at (world.new_global env (one t) (i ∷ []) 0) t.globals added.globals first.globals p.place d.0 p.is in
        let q = right_there (global_rel Q (values_in env v 0) (values_in env w 0) {g = d.0} {h = new_global r d.0} (record { type = refl; init = consts k t c env imports laws.constants i j a b d.0.init (named.globals y d.0 d.1) })) s.1 in
        (q.0, ap (world.new_global env (one u) (j ∷ []) 0) (sym d.2) ∙ q.1)

    -- The items that are kept of an element segment have references.
    items_there : (x : ℕ) (e : ElemSeg) → slice_get t.elems x ≡ Some e → (rs : List RefVal) × (all_there (world.ref_value env (one u) (j ∷ []) 0) (map (new_const r) (kept_items k e.mode e.items)) ≡ Some rs)
    items_there x e h = let all = all_there_from (world.ref_value env (one u) (j ∷ []) 0) (map (new_const r) (kept_items k e.mode e.items)) each in (all.results, all.are)
      where
        old : (es : Elem) × (world.elem_of env (one t) (i ∷ []) 0 e ≡ Some es)
        old = let s = all_there_at (world.elem_of env (one t) (i ∷ []) 0) t.elems added.elems first.elems x e h in (s.0, s.1)

        items : (rs : List RefVal) × (all_there (world.ref_value env (one t) (i ∷ []) 0) e.items ≡ Some rs)
        items = let s = and_then_is (all_there (world.ref_value env (one t) (i ∷ []) 0) e.items) _ old.0 old.1 in (s.0, s.1)

        each : (n : ℕ) (y : ConstExpr) → slice_get (map (new_const r) (kept_items k e.mode e.items)) n ≡ Some y → (x : RefVal) × (world.ref_value env (one u) (j ∷ []) 0 y ≡ Some x)
        each n y g =
            let d = map_from (new_const r) (kept_items k e.mode e.items) n y g in
            let p = laws.items k e.mode e.items n d.0 d.1 in
            let s = all_there_at (world.ref_value env (one t) (i ∷ []) 0) e.items items.0 items.1 p.0 d.0 p.1 in
            right_there (subst (λ c. OptRel (RefRel Q) (world.ref_value env (one t) (i ∷ []) 0 d.0) (world.ref_value env (one u) (j ∷ []) 0 c)) d.2
            (then_rel (consts k t c env imports laws.constants i j a b d.0 (named.items x n (kept_elem k e) d.0 (map_at (kept_elem k) t.elems x e h) d.1)) (λ _ _ q. ref_rel Q q))) s.1

    func_space : length j.funcs ≡ length (funcs_of u)
    func_space =
        let s : length j.funcs ≡ length (imports_of Functions u) + length u.funcs = search (arith, b.funcs, length-append, length-numbers, all_there_length) in
        let e : length (imports_of Functions u) ≡ length (imported_funcs u.imports) = places_many _ _ u.imports (grind arith) 0 in
        let f = length-append (imported_funcs u.imports) (map (λ f. f.ty) u.funcs) in
        let g = length-map u.funcs (λ f. f.ty) in
        omega (arith, s, e, f, g)

    elem_there : (y : ℕ) (e : ElemSeg) → slice_get u.elems y ≡ Some e → (x : Elem) × (world.elem_of env (one u) (j ∷ []) 0 e ≡ Some x)
    elem_there y e h = by (append_from (map (moved_elem k t c) t.elems) (last_segments fs) y e (subst (λ xs. slice_get xs y ≡ Some e) (elems_mapped k t c) h))
      where
        by : (slice_get (map (moved_elem k t c) t.elems) y ≡ Some e) ⊎ ((l : ℕ) × (y ≡ length (map (moved_elem k t c) t.elems) + l) × (slice_get (last_segments fs) l ≡ Some e)) → (x : Elem) × (world.elem_of env (one u) (j ∷ []) 0 e ≡ Some x)
        by (inl g) =
            let d = map_from (moved_elem k t c) t.elems y e g in
            let rs = items_there y d.0 d.1 in
            (_, ap (world.elem_of env (one u) (j ∷ []) 0) (sym d.2) ∙ ap (λ o. option_and_then (λ items. Some (world.new_elem (moved_elem k t c d.0).mode items)) o) rs.1)
        by (inr l) =
            let last = laws.declared env u j (renumbered_kept k t) (func_space ∙ ap length (same k t c).func_space) in
            let x = all_there_at (world.elem_of env (one u) (j ∷ []) 0) (last_segments fs) last.0 last.1 l.0 e l.2 in
            (x.0, x.1)

    store_there : (z : Store) × (part_store env (one u) (j ∷ []) 0 u j ≡ Some z)
    store_there = is_some_there (part_store env (one u) (j ∷ []) 0 u j) (rw ((all_there_from _ u.funcs func_there).are, (all_there_from _ u.globals global_there).are, (all_there_from _ u.elems elem_there).are))

  -- ---- its imports match ----

  types_only : (z : Store) (d : ImportDesc) (y : ExternalValue) → is_match z t d y ≡ is_match z u d y
  types_only z (im.Func ty) y = ap (λ ts. is_match z (record t { types = ts }) (im.Func ty) y) (sym (same k t c).types)
  types_only z (im.Table l) y = refl
  types_only z (im.Memory l) y = refl
  types_only z (im.Global l) y = refl

  module _ (s z : Store) (like : StoreRel Q s z) (matched : all_of (is_matched env (one t) s) (sites (one t)) ≡ true) where
    one_matched : (n : ℕ) (x : Import) → slice_get u.imports n ≡ Some x → is_matched env (one u) z (site n) ≡ true
    one_matched n x h =
        let p = kept_from k.imports t.imports n x (subst (λ xs. slice_get xs n ≡ Some x) imports h) in
        let lt = slice_get_within t.imports p.place x p.is in
        let denoted : imported_external_value env (one u) (site n) ≡ external_value_in env u.types (slice_get u.imports n) = grind arith in
        let denoted_before : imported_external_value env (one t) (site p.place) ≡ external_value_in env t.types (slice_get t.imports p.place) = grind arith in
        let old = list_all_each (is_matched env (one t) s) (sites (one t)) matched p.place (site p.place) (sites_at (length t.imports) 0 p.place lt ∙ ap (λ m. Some (site m)) (let z : 0 + p.place ≡ p.place = omega arith in z)) in
        ap (λ o. unwrap_or o false) (ap₂ (λ o y. option_and_then (λ i. option_and_then (is_match z u i.desc) y) o) h (denoted ∙ ap₂ (external_value_in env) (same k t c).types h)
        ∙ sym (then_eq (thing_rel Q env (own k t c env) t.types (Some x)) (λ _ y q. match_same Q env (own k t c env) s z like t t refl refl x.desc q ∙ types_only z x.desc y))
        ∙ sym (ap₂ (λ o y. option_and_then (λ i. option_and_then (is_match s t i.desc) y) o) p.is (denoted_before ∙ ap (external_value_in env t.types) p.is)))
        ∙ old
      where
        sites_at : (count from n : ℕ) → n < count → slice_get (linking.sites_in 0 count from ++ []) n ≡ Some (site (from + n))
        sites_at zero from n l = absurd (omega arith)
        sites_at (suc count) from zero l = ap (λ m. Some (site m)) (let z : from ≡ from + 0 = omega arith in z)
        sites_at (suc count) from (suc n) l = sites_at count (suc from) n (omega arith) ∙ ap (λ m. Some (site m)) (let z : suc from + n ≡ from + suc n = omega arith in z)

    all_matched : all_of (is_matched env (one u) z) (sites (one u)) ≡ true
    all_matched = each (length u.imports) 0 (λ m l. let x = slice_get_there u.imports m l in let shifted : m ≡ 0 + m = omega arith in subst (λ q. is_matched env (one u) z (site q) ≡ true) shifted (one_matched m x.0 x.1))
      where
        each : (count from : ℕ) → ((m : ℕ) → m < count → is_matched env (one u) z (site (from + m)) ≡ true) → all_of (is_matched env (one u) z) (linking.sites_in 0 count from ++ []) ≡ true
        each zero from h = refl
        each (suc count) from h =
            let here : from + 0 ≡ from = omega arith in
            let first : is_matched env (one u) z (site from) ≡ true = subst (λ m. is_matched env (one u) z (site m) ≡ true) here (h 0 (omega arith)) in
            rw (first, each count (suc from) (λ m l. let next : from + suc m ≡ suc from + m = omega arith in subst (λ m. is_matched env (one u) z (site m) ≡ true) next (h (suc m) (omega arith)))) refl

  -- ---- it is linked ----

  pub linked_with : (d : Begun) → (x : IsInstantiated env (unswept k t) d) → x.insts ≡ i ∷ [] → insts_from env (one u) 0 (one u) ≡ Some (j ∷ []) → links env (alone u) ≡ true
  linked_with d x is there =
      let first : stores_from env (one t) (i ∷ []) (own_store env) 0 (one t) (i ∷ []) ≡ Some x.allocated = subst (λ is. stores_from env (one t) is (own_store env) 0 (one t) is ≡ Some x.allocated) is x.is_allocated in
      let p = and_then_is (part_store env (one t) (i ∷ []) 0 t i) _ x.allocated first in
      let q = store_there p.0 p.1 in
      let z = joined_stores (own_store env) q.0 in
      let second : stores_from env (one u) (j ∷ []) (own_store env) 0 (one u) (j ∷ []) ≡ Some z = rw q.1 refl in
      let seen = right_there (all_rel (view k t c env imports laws.constants i j a b named)) (ap (λ is. all_there (seen_as is) (unswept k t).view) (sym is) ∙ x.is_view) in
      made_there env u (j ∷ []) z seen.0 there second seen.1
      (all_matched x.allocated z (stores_rel Q env v w (own k t c env) (definitions k t c env imports laws.constants i j a b named code) x.allocated z first second) x.matched)
