-- An environment that links a module also instantiates the module with one more function, whichever
-- names of the module are in the view.
use Rattle.base_lists.proofs.Common.{◌≡◌, ◌∙◌, sym, ap, subst, refl, ℕ, zero, suc, ◌+◌, ◌<◌, List, [], ◌∷◌, ◌++◌, length, Bool, true, false, cond, Option, Some, None, inl, inr, arith, slice_get, option_and_then, nat_eq, nat_lt, ◌&&◌, IsTrue, and_from, and_parts, eq-eqb, eqb-true, lt-ltb, ltb-true}
use Rattle.base_lists.proofs.Common.{same_Some, chosen_from, all_there_at, all_there_from, and_then_is, append_from, map_from, slice_get_there, is_some_there}
use Rattle.std.specs.Prelude.{unwrap_or}
use Rattle.base_lists.specs.Places.{first_place}
use Rattle.wasm_tree_spec.specs.Prelude.{Space, Functions, Tables, Memories, Globals, ElementSegments, DataSegments, FuncType, GlobalDef, ElemSeg, Export, ExportDesc, Module, funcs_of, tables_of, memories_of, globals_of}
use Rattle.wasm_tree.specs.declared.module.Func as tree
use Rattle.wasm_tree.specs.declared.module.ExportDesc.TheVariants as ex
use Rattle.wasm_meaning.specs.Prelude.{Text, Inst, Func, Code, Global, Elem, Store, declared, ref_of, Entity, sites, Environment, ExternalValue, FuncAt, TableAt, MemoryAt, GlobalAt, all_of, Begun, address_in, all_there, alone, begun, elem_of, insts_from, instantiate, is_matched, joined_stores}
use Rattle.wasm_meaning.specs.Prelude.{links, new_elem, new_func, new_global, own_count, own_store, part_store, seen_as, segments, stores_from, value_of, inst_of}
use Rattle.run_simulation.specs.Prelude.{Pairing, passed}
use Rattle.index_remap_proof.specs.Indices.{ExportNamesOnly, TreeNamesOnly, with_entry}
use Rattle.world_simulation.specs.Prelude.{one, SharesOwn, DefinitionsCorrespond, Instantiated, IsInstantiated, WhatIsInstantiated, Adds, IsInst}
use Rattle.world_simulation.specs.CorrespondingDefinitions as partners
use Rattle.world_simulation.proofs.OneModuleWorlds.{all_matched}
use Rattle.world_simulation.proofs.AllocatedStores.{stores_rel}
use Rattle.eval_spec.specs.Prelude.{takes_and_gives_nothing}
use Rattle.eval_snapshot_spec.specs.Snapshot.{empty_func, export_left, is_among_names}
use Rattle.eval_snapshot_proof.specs.EvaluatedWorlds.{evaluated_world, exports_left, with_empty_func}
use Rattle.eval_snapshot_proof.proofs.NamedIndices.{below, each_index}
use Rattle.eval_snapshot_proof.proofs.AddedFunctions.{funcs_many, globals_many, mems_many, space_more, tables_many, value_stays}

all_stay : {A B : Type 0} (f g : A → Option B) → ((x : A) (y : B) → f x ≡ Some y → g x ≡ Some y) → (xs : List A) (ys : List B) → all_there f xs ≡ Some ys → all_there g xs ≡ Some ys
all_stay f g same [] ys h = h
all_stay f g same (x ∷ xs) ys h =
    let y = and_then_is (f x) _ ys h in
    let r = and_then_is (all_there f xs) _ ys y.2 in
    rw (same x y.0 y.1, all_stay f g same xs r.0 r.1) r.2

-- The first place of a nonempty list that passes a test, or 0 if none does, is below its end.
first_within : {A : Type 0} (is : A → Bool) (xs : List A) (n : ℕ) → 0 < n + length xs → unwrap_or (first_place is xs n) 0 < n + length xs
first_within is [] n h = h
first_within is (x ∷ xs) n h = go (is x) (first_within is xs (suc n) (omega arith))
  where
    go : (b : Bool) → unwrap_or (first_place is xs (suc n)) 0 < suc n + length xs → unwrap_or (cond b (Some n) (first_place is xs (suc n))) 0 < n + suc (length xs)
    go true l = omega arith
    go false l = omega (arith, l)

-- The instance, store and view of the module with one more function in an environment.
pub record MoreMade (env : Environment) (m : Module) (evaluated kept : List Text) : Type 0 where
  pub inst : Inst
  pub is_inst : insts_from env (one (with_empty_func m)) 0 (one (with_empty_func m)) ≡ Some (inst ∷ [])
  pub shape : IsInst env (one (with_empty_func m)) 0 (with_empty_func m) inst
  pub defined : Store
  pub is_defined : part_store env (one (with_empty_func m)) (inst ∷ []) 0 (with_empty_func m) inst ≡ Some defined
  pub view : List (Text × ExternalValue)
  pub is_begun : instantiate env (evaluated_world m evaluated kept) ≡ Some
      (begun env (evaluated_world m evaluated kept) (inst ∷ []) view (segments env (one (with_empty_func m)) (inst ∷ []) (joined_stores (own_store env) defined)))

module _ (env : Environment) (m : Module) (names : TreeNamesOnly (with_entry (each_index m)) m) (typed : 0 < length m.types) where
  abbrev more : Module
  more = with_empty_func m

  -- The relation of each of the environment's own entities to itself.
  abbrev itself : Space → ℕ → ℕ → Bool
  itself k a b = nat_eq a b && nat_lt a (own_count k env)

  abbrev R : Pairing
  R = passed itself itself []

  is_itself : (k : Space) (a b : ℕ) → IsTrue (itself k a b) → (a ≡ b) × (a < own_count k env)
  is_itself k a b h = let p = and_parts (nat_eq a b) (nat_lt a (own_count k env)) h in (eqb-true a b p.0, ltb-true a (own_count k env) p.1)

  for_itself : (k : Space) (a : ℕ) → a < own_count k env → IsTrue (itself k a a)
  for_itself k a l = and_from (nat_eq a a) (nat_lt a (own_count k env)) (eq-eqb a a refl) (lt-ltb a (own_count k env) l)

  shared : SharesOwn R env
  shared = record { funcs = for_itself Functions; tables = for_itself Tables; mems = for_itself Memories; globals = for_itself Globals }

  only_own : (v w : Instantiated) → DefinitionsCorrespond R env v w
  only_own v w = record {
    funcs = λ a b r. let p = is_itself Functions a b r in partners.own p.0 p.1;
    tables = λ a b r. let p = is_itself Tables a b r in partners.own p.0 p.1;
    mems = λ a b r. let p = is_itself Memories a b r in partners.own p.0 p.1;
    globals = λ a b r. let p = is_itself Globals a b r in partners.own p.0 p.1;
    elems = λ a b r. let p = is_itself ElementSegments a b r in partners.own p.0 p.1;
    datas = λ a b r. let p = is_itself DataSegments a b r in partners.own p.0 p.1;
  }

  module _ (i j : Inst) (a : IsInst env (one m) 0 m i) (b : IsInst env (one more) 0 more j) where
    -- ---- what it defines is allocated ----

    type_there : (ty : ℕ) → ty < length m.types → (t : FuncType) × (slice_get j.types ty ≡ Some t)
    type_there ty l = let t = slice_get_there m.types ty l in (t.0, ap (λ ts. slice_get ts ty) b.types ∙ t.1)

    func_typed : (n : ℕ) (f : tree.Func) → slice_get (m.funcs ++ empty_func m ∷ []) n ≡ Some f → f.ty < length m.types
    func_typed n f h = elim (append_from m.funcs (empty_func m ∷ []) n f h) [
      | inl e ↦ below (length m.types) f.ty ((names.funcs n f e).0)
      | inr q ↦ last q.0 q.2
    ]
      where
        last : (k : ℕ) → slice_get (empty_func m ∷ []) k ≡ Some f → f.ty < length m.types
        last zero e = subst (λ (g : tree.Func). g.ty < length m.types) (same_Some (empty_func m) f e)
            (let l = first_within takes_and_gives_nothing m.types 0 (omega (arith, typed)) in omega (arith, l))
        last (suc k) e = absurd (let q = e in cc)

    func_there : (n : ℕ) (f : tree.Func) → slice_get more.funcs n ≡ Some f → (x : Func) × (new_func j f ≡ Some x)
    func_there n f h = let t = type_there f.ty (func_typed n f h) in (Code t.0 j (declared f.locals) f.body, rw t.1 refl)

    module _ (added : Store) (made : part_store env (one m) (i ∷ []) 0 m i ≡ Some added) where
      what : Adds env (one m) (i ∷ []) 0 m i added
      what = search (arith, made)

      global_there : (n : ℕ) (g : GlobalDef) → slice_get more.globals n ≡ Some g → (x : Global) × (new_global env (one more) (j ∷ []) 0 g ≡ Some x)
      global_there n g h =
          let r = all_there_at (new_global env (one m) (i ∷ []) 0) m.globals added.globals what.globals n g h in
          let v = and_then_is (value_of env (one m) (i ∷ []) 0 g.init) _ r.0 r.1 in
          (record { ty = g.ty; value = v.0 }, rw (value_stays env m i j a b g.init v.0 v.1) refl)

      elem_there : (n : ℕ) (e : ElemSeg) → slice_get more.elems n ≡ Some e → (x : Elem) × (elem_of env (one more) (j ∷ []) 0 e ≡ Some x)
      elem_there n e h =
          let r = all_there_at (elem_of env (one m) (i ∷ []) 0) m.elems added.elems what.elems n e h in
          let v = and_then_is (all_there (λ x. option_and_then ref_of (value_of env (one m) (i ∷ []) 0 x)) e.items) _ r.0 r.1 in
          let w = all_stay (λ x. option_and_then ref_of (value_of env (one m) (i ∷ []) 0 x)) (λ x. option_and_then ref_of (value_of env (one more) (j ∷ []) 0 x))
          (λ x y q. let z = and_then_is (value_of env (one m) (i ∷ []) 0 x) ref_of y q in rw (value_stays env m i j a b x z.0 z.1) z.2) e.items v.0 v.1 in
          (new_elem e.mode v.0, rw w refl)

      store_there : (t : Store) × (part_store env (one more) (j ∷ []) 0 more j ≡ Some t)
      store_there =
          is_some_there (part_store env (one more) (j ∷ []) 0 more j) (rw ((all_there_from _ more.funcs func_there).are, (all_there_from _ more.globals global_there).are, (all_there_from _ more.elems elem_there).are))

    -- ---- names ----

    thing_there : (d : ExportDesc) → ExportNamesOnly (with_entry (each_index m)) d → (x : ExternalValue) × (address_in j d ≡ Some x)
    thing_there (ex.Func n) h =
        let l = below (length (funcs_of m)) n h in
        let e = funcs_many env m (empty_func m ∷ []) j b in
        let x = slice_get_there j.funcs n (omega (arith, l, e)) in
        (FuncAt x.0, rw x.1 refl)
    thing_there (ex.Table n) h =
        let l = below (length (tables_of m)) n h in
        let e = tables_many env m (empty_func m ∷ []) j b in
        let x = slice_get_there j.tables n (omega (arith, l, e)) in
        (TableAt x.0, rw x.1 refl)
    thing_there (ex.Memory n) h =
        let l = below (length (memories_of m)) n h in
        let e = mems_many env m (empty_func m ∷ []) j b in
        let x = slice_get_there j.mems n (omega (arith, l, e)) in
        (MemoryAt x.0, rw x.1 refl)
    thing_there (ex.Global n) h =
        let l = below (length (globals_of m)) n h in
        let e = globals_many env m (empty_func m ∷ []) j b in
        let x = slice_get_there j.globals n (omega (arith, l, e)) in
        (GlobalAt x.0, rw x.1 refl)

    last_there : (x : ExternalValue) × (address_in j (ex.Func (length (funcs_of m))) ≡ Some x)
    last_there = let e = funcs_many env m (empty_func m ∷ []) j b in let x = slice_get_there j.funcs (length (funcs_of m)) (omega (arith, e)) in (FuncAt x.0, rw x.1 refl)

    left_there : (evaluated kept : List Text) (e d : Export) → ExportNamesOnly (with_entry (each_index m)) e.desc → export_left evaluated kept (length (funcs_of m)) e ≡ Some d →
        (x : ExternalValue) × (address_in j d.desc ≡ Some x)
    left_there evaluated kept e d h = go (is_among_names evaluated e.name) (is_among_names kept e.name)
      where
        go : (p q : Bool) → cond p (cond q (Some (record e { desc = ex.Func (length (funcs_of m)) })) None) (Some e) ≡ Some d → (x : ExternalValue) × (address_in j d.desc ≡ Some x)
        go true true k = subst (λ (d : Export). (x : ExternalValue) × (address_in j d.desc ≡ Some x)) (same_Some (record e { desc = ex.Func (length (funcs_of m)) }) d k) last_there
        go true false k = absurd (let q = k in cc)
        go false q k = subst (λ (d : Export). (x : ExternalValue) × (address_in j d.desc ≡ Some x)) (same_Some e d k) (thing_there e.desc h)

    seen_there : (evaluated kept : List Text) (n : ℕ) (v : Text × Entity) → slice_get (evaluated_world m evaluated kept).view n ≡ Some v → (y : Text × ExternalValue) × (seen_as (j ∷ []) v ≡ Some y)
    seen_there evaluated kept n v h =
        let e = map_from (λ e. (e.name, record { part = 0; what = e.desc })) (exports_left m evaluated kept) n v h in
        let d = chosen_from (export_left evaluated kept (length (funcs_of m))) m.exports n e.0 e.1 in
        let x = left_there evaluated kept d.0 e.0 (names.exports d.1.0 d.0 d.1.1) d.2 in
        ((e.0.name, x.0), ap (seen_as (j ∷ [])) (sym e.2) ∙ rw x.1 refl)

  -- ---- all of it ----

  made_with : (evaluated kept : List Text) (i j : Inst) (a : IsInst env (one m) 0 m i) (b : IsInst env (one more) 0 more j) (c : Begun) (x : IsInstantiated env (alone m) c) → x.insts ≡ i ∷ [] →
      insts_from env (one more) 0 (one more) ≡ Some (j ∷ []) → MoreMade env m evaluated kept
  made_with evaluated kept i j a b c x is there =
      let first : stores_from env (one m) (i ∷ []) (own_store env) 0 (one m) (i ∷ []) ≡ Some x.allocated =
      subst (λ is. stores_from env (one m) is (own_store env) 0 (one m) is ≡ Some x.allocated) is x.is_allocated in
      let p = and_then_is (part_store env (one m) (i ∷ []) 0 m i) _ x.allocated first in
      let q = store_there i j a b p.0 p.1 in
      let z = joined_stores (own_store env) q.0 in
      let second : stores_from env (one more) (j ∷ []) (own_store env) 0 (one more) (j ∷ []) ≡ Some z = rw q.1 refl in
      let v = all_there_from (seen_as (j ∷ [])) (evaluated_world m evaluated kept).view (seen_there i j a b evaluated kept) in
      let related = stores_rel R env (record { parts = one m; insts = i ∷ [] }) (record { parts = one more; insts = j ∷ [] }) shared (only_own _ _) x.allocated z first second in
      let matched : all_of (is_matched env (one more) z) (sites (one more)) ≡ true = sym (all_matched R env shared x.allocated z related m more refl refl) ∙ x.matched in
      record { inst = j; is_inst = there; shape = b; defined = q.0; is_defined = q.1; view = v.results; is_begun = rw (there, second, v.are, matched) refl }

  pub more_made : WhatIsInstantiated → (evaluated kept : List Text) → IsTrue (links env (alone m)) → MoreMade env m evaluated kept
  more_made is_made evaluated kept h =
      let o = is_some_there (instantiate env (alone m)) h in
      let x = is_made env (alone m) o.0 o.1 in
      let i : (i : Inst) × (x.insts ≡ i ∷ []) × IsInst env (one m) 0 m i = search (arith, x.are_insts) in
      let a = i.2 in
      let f = space_more env m Functions i.0.funcs a.funcs in
      let t = space_more env m Tables i.0.tables a.tables in
      let s = space_more env m Memories i.0.mems a.mems in
      let g = space_more env m Globals i.0.globals a.globals in
      let j = is_some_there (inst_of env (one more) 0 more) (rw (f.1, t.1, s.1, g.1)) in
      let holds : (v : Module) (j : Inst) → inst_of env (one v) 0 v ≡ Some j → IsInst env (one v) 0 v j = λ v j e. search arith in
      made_with evaluated kept i.0 j.0 a (holds more j.0 j.1) o.0 x i.1 (ap (option_and_then (λ i. option_and_then (λ is. Some (i ∷ is)) (Some []))) j.1)
