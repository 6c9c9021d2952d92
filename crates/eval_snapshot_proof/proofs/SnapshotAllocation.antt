-- The allocation of a snapshot in an environment in which its module with one more function is
-- instantiated: the imports of the snapshot match, and its names denote what those of the module
-- denote.
use Rattle.base_lists.proofs.Common.{◌≡◌, ◌∙◌, sym, ap, ap₂, refl, subst, ℕ, zero, suc, ◌+◌, List, [], ◌∷◌, map, length, Bool, true, false, cond, Some, None, ⊎_elim, arith, slice_get, list_any, length-append, any_passes_from_place, same_Some, chosen_from, all_there_at, all_there_from}
use Rattle.base_lists.proofs.Common.{all_there_length, length-numbers, places_many, and_then_is, append_at_left, append_from, push_last, length-map, then_rel, is_some_there}
use Rattle.base_lists.specs.Options.{◌>>=◌}
use Rattle.wasm_tree_spec.specs.Prelude.{Space, Functions, Tables, Memories, Globals, ElementSegments, DataSegments, ElemSeg, Export, ExportDesc, GlobalDef, Module, imported_funcs, funcs_of, tables_of, memories_of, globals_of}
use Rattle.wasm_tree.specs.declared.module.ExportDesc.TheVariants as ex
use Rattle.wasm_tree.specs.declared.module.Func as tree
use Rattle.wasm_meaning.specs.Prelude.{Text, Inst, Val, Func, Code, Global, Elem, Store, Entity, sites, Environment, all_of, address_in, alone, elem_of, imports_of, inst_of, is_matched, joined_stores, new_func, new_global, own_count, own_store, part_store, seen_as, space, stores_from}
use Rattle.wasm_meaning.specs.Values as values
use Rattle.run_simulation.specs.Prelude.{Pairing, OptRel, some, ListRel, nil, cons, ExternalValueRel, KeyRel, a_func, a_table, a_memory, a_global}
use Rattle.index_remap_proof.specs.Indices.{ExportNamesOnly, TreeNamesOnly, with_entry}
use Rattle.world_simulation.specs.Prelude.{DeclaringSegmentsAreAllocated, one, addresses, DefinitionsCorrespond, Instantiated, SharesOwn, Adds, IsInst, last_segments}
use Rattle.world_simulation.specs.CorrespondingDefinitions.{own}
use Rattle.world_simulation.proofs.OneModuleWorlds.{all_matched, space_at}
use Rattle.world_simulation.proofs.AllocatedStores.{stores_rel}
use Rattle.eval_spec.specs.Prelude.{State}
use Rattle.eval_snapshot_spec.specs.Snapshot.{empty_func, export_left, is_among_names, is_kept, snapshot}
use Rattle.world_simulation.specs.ConstantValues.{ConstantsAloneReadTheEnvironment}
use Rattle.eval_snapshot_proof.specs.EvaluatedWorlds.{evaluated_world, exports_left, with_empty_func}
use Rattle.eval_snapshot_proof.proofs.RelatedInstances.{R, enough, func_shared, global_shared, last_shared, memory_shared, second_value, table_shared}
use Rattle.eval_snapshot_proof.proofs.NamedIndices.{below, each_index}
use Rattle.eval_snapshot_proof.proofs.AddedFunctions.{space_from}
use Rattle.eval_snapshot_proof.proofs.RelatedElementCopies.{elem_same, segments_name}
use Rattle.eval_snapshot_proof.proofs.SharedAddresses.{Itself, one_named, same, shares_own, within}
use Rattle.eval_snapshot_proof.proofs.SnapshotParts.{more, plain, refs, shape, bound}

module _ (env : Environment) where
  -- The number of the environment's own entities, each of which is related to itself.
  abbrev owns : Space → ℕ
  owns k = own_count k env

  abbrev O : Pairing
  O = Itself owns

  shares : SharesOwn O env
  shares = shares_own owns env (λ k. omega arith)

  only_own : (v w : Instantiated) → DefinitionsCorrespond O env v w
  only_own v w = record {
    funcs = λ a b r. own (same owns Functions a b r) (within owns Functions a b r);
    tables = λ a b r. own (same owns Tables a b r) (within owns Tables a b r);
    mems = λ a b r. own (same owns Memories a b r) (within owns Memories a b r);
    globals = λ a b r. own (same owns Globals a b r) (within owns Globals a b r);
    elems = λ a b r. own (same owns ElementSegments a b r) (within owns ElementSegments a b r);
    datas = λ a b r. own (same owns DataSegments a b r) (within owns DataSegments a b r);
  }

module _ (env : Environment) (m : Module) (s : State) (name : Text) (names kept : List Text) (i : Inst) (a : IsInst env (one (with_empty_func m)) 0 (with_empty_func m) i) where
  abbrev first : Module
  first = with_empty_func m

  abbrev second : Module
  second = snapshot m s (name ∷ names) kept

  -- ---- its instance ----

  space_again : (k : Space) (xs : List ℕ) → space env (one first) k 0 first ≡ Some xs → (ys : List ℕ) × (space env (one second) k 0 second ≡ Some ys)
  space_again k xs h =
      let sx = space_at (O env) env (shares env) first k xs h in
      let has = shape m s name names kept in (
        _,
        space_from env second k (Some sx.imported) (ap₂ (λ ts is. addresses env ts is k) has.types has.imports ∙ sx.are),
      )

  pub second_inst : (j : Inst) × (inst_of env (one second) 0 second ≡ Some j) × IsInst env (one second) 0 second j
  second_inst =
      let fs = space_again Functions i.funcs a.funcs in
      let ts = space_again Tables i.tables a.tables in
      let ms = space_again Memories i.mems a.mems in
      let gs = space_again Globals i.globals a.globals in
      let j = is_some_there (inst_of env (one second) 0 second) (rw (fs.1, ts.1, ms.1, gs.1)) in
      (j.0, j.1, search (arith, j.1))

  -- ---- functions ----

  -- The only function that the snapshot may add to those of the module is the empty one.
  pub last_place : (k : ℕ) (f : tree.Func) → slice_get (more m s name names kept) k ≡ Some f → (k ≡ 0) × (empty_func m ≡ f)
  last_place k f h = by (list_any (λ e. is_kept (name ∷ names) kept e.name) m.exports) k h
    where
      by : (b : Bool) (k : ℕ) → slice_get (cond b (empty_func m ∷ []) []) k ≡ Some f → (k ≡ 0) × (empty_func m ≡ f)
      by true zero h = (refl, same_Some _ _ h)
      by true (suc k) h = absurd (let q = h in cc)
      by false k h = absurd (let q = h in cc)

  -- Each function of the snapshot is one of the module with one more function.
  pub func_also : (n : ℕ) (f : tree.Func) → slice_get second.funcs n ≡ Some f → slice_get first.funcs n ≡ Some f
  func_also n f h =
      ⊎_elim
      (λ old. append_at_left m.funcs (empty_func m ∷ []) n f old)
      (λ new.
      let z = last_place new.0 f new.2 in
      let here : length m.funcs + 0 ≡ length m.funcs = omega arith in
      ap (slice_get first.funcs) (new.1 ∙ ap (λ k. length m.funcs + k) z.0 ∙ here) ∙ push_last m.funcs (empty_func m) ∙ ap Some z.1)
      (append_from m.funcs (more m s name names kept) n f (ap (λ l. slice_get l n) (sym (shape m s name names kept).funcs) ∙ h))

  module _ (j : Inst) (b : IsInst env (one second) 0 second j) (named : TreeNamesOnly (with_entry (each_index m)) m) where
    -- ---- what it defines is allocated ----

    module _ (added : Store) (made : part_store env (one first) (i ∷ []) 0 first i ≡ Some added) (inits : (n : ℕ) (g : GlobalDef) → slice_get second.globals n ≡ Some g →
        (x : Val) × (second_value env m s name names kept i j a b g.init ≡ Some x)) where
      adds_first : Adds env (one first) (i ∷ []) 0 first i added
      adds_first = search (arith, made)

      func_there : (n : ℕ) (f : tree.Func) → slice_get second.funcs n ≡ Some f → (x : Func) × (new_func j f ≡ Some x)
      func_there n f h =
          let x = all_there_at (new_func i) first.funcs added.funcs adds_first.funcs n f (func_also n f h) in
          let ty = and_then_is (slice_get i.types f.ty) _ x.0 x.1 in
          let types : j.types ≡ i.types = b.types ∙ (shape m s name names kept).types ∙ sym a.types in
          (Code ty.0 j (values.declared f.locals) f.body, ap (λ o. o >>= λ t. Some (Code t j (values.declared f.locals) f.body)) (ap (λ ts. slice_get ts f.ty) types ∙ ty.1))

      global_there : (n : ℕ) (g : GlobalDef) → slice_get second.globals n ≡ Some g → (x : Global) × (new_global env (one second) (j ∷ []) 0 g ≡ Some x)
      global_there n g h = let x = inits n g h in (record { ty = g.ty; value = x.0 }, ap (λ o. o >>= λ v. Some (record { ty = g.ty; value = v })) x.1)

      func_space : length j.funcs ≡ length (funcs_of second)
      func_space =
          let n : length j.funcs ≡ length (imports_of Functions second) + length second.funcs = search (arith, b.funcs, length-append, length-numbers, all_there_length) in
          let e : length (imports_of Functions second) ≡ length (imported_funcs second.imports) = places_many _ _ second.imports (grind arith) 0 in
          let f = length-append (imported_funcs second.imports) (map (λ f. f.ty) second.funcs) in
          let g = length-map second.funcs (λ (f : tree.Func). f.ty) in
          omega (arith, n, e, f, g)

      elem_there : ConstantsAloneReadTheEnvironment → DeclaringSegmentsAreAllocated → (n : ℕ) (e : ElemSeg) → slice_get second.elems n ≡ Some e → (x : Elem) × (elem_of env (one second) (j ∷ []) 0 e ≡ Some x)
      elem_there constants declared n e h =
          ⊎_elim
          (λ old.
          let x = all_there_at (elem_of env (one first) (i ∷ []) 0) first.elems added.elems adds_first.elems n e old in
          (x.0, sym (elem_same constants env m s name names kept i j a b e (segments_name m named n e old).0) ∙ x.1))
          (λ new.
          let es = declared env second j (plain m s name names kept) (func_space ∙ ap length (shape m s name names kept).func_space) in
          let x = all_there_at (elem_of env (one second) (j ∷ []) 0) (last_segments (refs m s name names kept)) es.0 es.1 new.0 e new.2 in
          (x.0, x.1))
          (append_from m.elems (last_segments (refs m s name names kept)) n e (ap (λ l. slice_get l n) (sym (shape m s name names kept).elems) ∙ h))

      pub second_store : ConstantsAloneReadTheEnvironment → DeclaringSegmentsAreAllocated → (z : Store) × (part_store env (one second) (j ∷ []) 0 second j ≡ Some z)
      second_store constants declared =
          is_some_there (part_store env (one second) (j ∷ []) 0 second j) (rw ((all_there_from _ second.funcs func_there).are, (all_there_from _ second.globals global_there).are, (all_there_from _ second.elems (elem_there constants declared)).are))

      -- The imports of the snapshot match.
      pub second_matched : (z : Store) → part_store env (one second) (j ∷ []) 0 second j ≡ Some z →
          all_of (is_matched env (one first) (joined_stores (own_store env) added)) (sites (one first)) ≡ true →
          all_of (is_matched env (one second) (joined_stores (own_store env) z)) (sites (one second)) ≡ true
      second_matched z z_is h =
          let v : Instantiated = record { parts = one first; insts = i ∷ [] } in
          let w : Instantiated = record { parts = one second; insts = j ∷ [] } in
          let start : stores_from env (one first) (i ∷ []) (own_store env) 0 (one first) (i ∷ []) ≡ Some (joined_stores (own_store env) added) = rw made refl in
          let other : stores_from env (one second) (j ∷ []) (own_store env) 0 (one second) (j ∷ []) ≡ Some (joined_stores (own_store env) z) = rw z_is refl in
          let like = stores_rel (O env) env v w (shares env) (only_own env v w) (joined_stores (own_store env) added) (joined_stores (own_store env) z) start other in
          sym (all_matched (O env) env (shares env) (joined_stores (own_store env) added) (joined_stores (own_store env) z) like first second (shape m s name names kept).types
          (shape m s name names kept).imports) ∙ h

    -- ---- the view ----

    abbrev Q : Pairing
    Q = R env m s name names kept

    old_export : (d : ExportDesc) → ExportNamesOnly (with_entry (each_index m)) d → OptRel (ExternalValueRel Q) (address_in i d) (address_in j d)
    old_export (ex.Func x) h = then_rel
        (one_named (bound m s name names kept env) env (enough env m s name names kept) (func_shared env m s name names kept i j a b x (below (length (funcs_of m)) x h))) (λ _ _ r. some (a_func r))
    old_export (ex.Table x) h = then_rel
        (one_named (bound m s name names kept env) env (enough env m s name names kept) (table_shared env m s name names kept i j a b x (below (length (tables_of m)) x h))) (λ _ _ r. some (a_table r))
    old_export (ex.Memory x) h = then_rel
        (one_named (bound m s name names kept env) env (enough env m s name names kept) (memory_shared env m s name names kept i j a b x (below (length (memories_of m)) x h)))
        (λ _ _ r. some (a_memory r))
    old_export (ex.Global x) h = then_rel
        (one_named (bound m s name names kept env) env (enough env m s name names kept) (global_shared env m s name names kept i j a b x (below (length (globals_of m)) x h)))
        (λ _ _ r. some (a_global r))

    kept_export : (n : ℕ) (e : Export) → slice_get m.exports n ≡ Some e → is_kept (name ∷ names) kept e.name ≡ true →
        OptRel (ExternalValueRel Q) (address_in i (ex.Func (length (funcs_of m)))) (address_in j (ex.Func (length (funcs_of m))))
    kept_export n e at h =
        let some_more : length (more m s name names kept) ≡ 1 = ap (λ b. length (cond b (empty_func m ∷ []) [])) (any_passes_from_place (λ e. is_kept (name ∷ names) kept e.name) m.exports n e at h) in
        then_rel (one_named (bound m s name names kept env) env (enough env m s name names kept) (last_shared env m s name names kept i j a b (omega (arith, some_more)))) (λ _ _ r. some (a_func r))

    -- An export that is left denotes related addresses in both instances.
    export_alike : (n : ℕ) (e x : Export) → slice_get m.exports n ≡ Some e → export_left (name ∷ names) kept (length (funcs_of m)) e ≡ Some x →
        OptRel (ExternalValueRel Q) (address_in i x.desc) (address_in j x.desc)
    export_alike n e x at is = by (is_among_names (name ∷ names) e.name) (is_among_names kept e.name) refl refl is
      where
        by : (c k : Bool) → is_among_names (name ∷ names) e.name ≡ c → is_among_names kept e.name ≡ k →
            cond c (cond k (Some (record e { desc = ex.Func (length (funcs_of m)) })) None) (Some e) ≡ Some x → OptRel (ExternalValueRel Q) (address_in i x.desc) (address_in j x.desc)
        by true true p q h = subst (λ (x : Export). OptRel (ExternalValueRel Q) (address_in i x.desc) (address_in j x.desc)) (same_Some _ _ h) (kept_export n e at (rw (p, q) refl))
        by true false p q h = absurd (let f = h in cc)
        by false k p q h = subst (λ (x : Export). OptRel (ExternalValueRel Q) (address_in i x.desc) (address_in j x.desc)) (same_Some _ _ h) (old_export e.desc (named.exports n e at))

    abbrev seen : Export → Text × Entity
    seen e = (e.name, record { part = 0; what = e.desc })

    each_alike : (es : List Export) → ((n : ℕ) (x : Export) → slice_get es n ≡ Some x → OptRel (ExternalValueRel Q) (address_in i x.desc) (address_in j x.desc)) →
        ListRel (λ x y. OptRel (KeyRel Q) (seen_as (i ∷ []) x) (seen_as (j ∷ []) y)) (map seen es) (map seen es)
    each_alike [] h = nil
    each_alike (e ∷ es) h = cons (then_rel (h 0 e refl) (λ _ _ r. some (record { key = refl; thing = r }))) (each_alike es (λ n. h (suc n)))

    -- The views of both have the same names, in the same order, for related external values.
    pub views_alike : ListRel (λ x y. OptRel (KeyRel Q) (seen_as (i ∷ []) x) (seen_as (j ∷ []) y)) (evaluated_world m (name ∷ names) kept).view (alone second).view
    views_alike =
        let left = exports_left m (name ∷ names) kept in
        let alike = each_alike left (λ n x h. let e = chosen_from (export_left (name ∷ names) kept (length (funcs_of m))) m.exports n x h in export_alike e.1.0 e.0 x e.1.1 e.2) in
        subst (λ (es : List Export). ListRel (λ x y. OptRel (KeyRel Q) (seen_as (i ∷ []) x) (seen_as (j ∷ []) y)) (map seen left) (map seen es)) (sym (shape m s name names kept).exports) alike
