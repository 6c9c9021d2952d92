-- The instantiation of the quiet run, and of the module with additional functions, if any, in an
-- environment: all segments that the first copies are copied in the second.
use Rattle.base_lists.proofs.Common.{◌≡◌, ◌∙◌, sym, ap, ap₂, subst, refl, ℕ, suc, ◌+◌, ◌<◌, List, [], ◌∷◌, length, append-nil, Bool, true, false, cond, Option, Some, None, arith, slice_get, option_and_then, nat_lt, same_Some, all_there_at, all_there_length, and_then_is}
use Rattle.base_lists.specs.Places.{numbers}
use Rattle.wasm_tree_spec.specs.Prelude.{ElemMode, ElemSeg, DataSeg, Module, memories_of}
use Rattle.wasm_tree.specs.declared.module.ElemMode.TheVariants as elem
use Rattle.wasm_tree.specs.declared.module.Func as tree
use Rattle.wasm_meaning.specs.Prelude.{RefVal, Inst, Store, Elem, ref_of, Environment, Filled, all_there, and_then, elem_with, joined_stores, new_elem, one_by_one, own_store, part_store, placed_datas, placed_elems, run_data, run_elem, segments, segments_in, store_with}
use Rattle.run_simulation.specs.Prelude.{OneToOneWhereWritten, StoreRelOff}
use Rattle.index_remap_proof.specs.Indices.{TreeNamesOnly, with_entry}
use Rattle.world_simulation.specs.Prelude.{one, AddsWith, IsInst}
use Rattle.eval_spec.specs.declared.stop.Stop.TheVariants as why
use Rattle.eval_spec.specs.Prelude.{State, Stage, Going, Stopped, Finished, filled_from, imported_store, in_order, instantiated, none_written, own_inst, state_at_first, unknown_at_first, value_in, with_data, with_elem, with_segments}
use Rattle.eval_proof.specs.KnownQuietSteps.{FuncsOf}
use Rattle.eval_snapshot_proof.specs.QuietRunAddresses.{EnvironmentStays}
use Rattle.eval_snapshot_proof.proofs.AddedFunctions.{with_funcs}
use Rattle.eval_snapshot_proof.proofs.EnvironmentEntities.{stays_after, stays_joined}
use Rattle.eval_snapshot_proof.proofs.AllocatedStores.{related_at_first}
use Rattle.eval_snapshot_proof.proofs.AllocatedFunctions.{code_of}
use Rattle.eval_snapshot_proof.proofs.NamedIndices.{NamingLaws, each_index}
use Rattle.eval_snapshot_proof.proofs.RelatedSegments.{CopiedAlike, IsWhole, data_alike, elem_alike, nothing_copied}
use Rattle.eval_snapshot_proof.proofs.Counterparts.{R, value_there}

-- A run in order that finishes starts from a finished stage.
began : {A : Type 0} (f : State → A → Stage) (t : Stage) (xs : List A) (r : State) → in_order f t xs ≡ Finished r → (s : State) × (t ≡ Finished s)
began f (Finished s) xs r e = (s, refl)
began f (Stopped x left) xs r e = absurd (let k = e in cc)
began f (Going s es) xs r e = absurd (let k = e in cc)

-- Segments that are not copied yet have as many items as those of the module.
abbrev AreWhole : ℕ → List ElemSeg → Store → Type 0
AreWhole n es s = (k : ℕ) (e : ElemSeg) → slice_get es k ≡ Some e → (y : Elem) → slice_get s.elems (n + k) ≡ Some y → IsWhole e.mode e y

module _ (env : Environment) (m : Module) (fs : List tree.Func) (i : Inst) (is : IsInst env (one (with_funcs m fs)) 0 (with_funcs m fs) i) (apart : OneToOneWhereWritten (R env m fs i is)) where
  abbrev Alike : State → State → Store → Filled → Type 0
  Alike = CopiedAlike env m fs i is apart

  -- One copy followed by others.
  then_alike : (s r t : State) (x : Store) (f : Filled) (g : Store → Filled) (a : Alike s r x f) → Alike r t a.store (g a.store) → Alike s t x (and_then f g)
  then_alike s r t x f g a b = record {
    store = b.store;
    filled = ap (λ f. and_then f g) a.filled ∙ b.filled;
    related = b.related;
    funcs = b.funcs ∙ a.funcs;
    turns = b.turns ∙ a.turns;
    stays = stays_after env x a.store b.store a.stays b.stays;
  }

  elems_alike : (es : List ElemSeg) (n : ℕ) (s t : State) (x : Store) → ((k : ℕ) → k < length es → n + k < length m.elems) → AreWhole n es s.store → StoreRelOff (R env m fs i is) s.unknown s.store x →
      in_order (with_elem m) (Finished s) (segments_in 0 (own_inst m) (numbers n (length es)) es) ≡ Finished t →
      Alike s t x (one_by_one (run_elem env (one (with_funcs m fs)) (i ∷ [])) x (segments_in 0 i (numbers n (length es)) es))
  elems_alike [] n s t x low whole r h = nothing_copied env m fs i is apart s t x r h
  elems_alike (e ∷ es) n s t x low whole r h =
      let z : n + 0 ≡ n = omega arith in
      let first_low : n < length m.elems = let l = low 0 (omega arith) in omega (arith, l) in
      let b = began (with_elem m) (with_elem m s (record { part = 0; inst = own_inst m; address = n; segment = e })) (segments_in 0 (own_inst m) (numbers (suc n) (length es)) es) t h in
      let a = elem_alike env m fs i is apart s b.0 x n e first_low r e.mode (λ y q. whole 0 e refl y (ap (slice_get s.store.elems) z ∙ q)) refl b.1 in
      let more_whole : AreWhole (suc n) es b.0.store = λ k d at y q.
      let w : n + suc k ≡ suc n + k = omega arith in
      whole (suc k) d at y (ap (slice_get s.store.elems) w ∙ sym (a.others (suc n + k) (λ e. omega (arith, e))) ∙ q) in
      let c = a.copied in
      let rest = elems_alike es (suc n) b.0 t c.store (λ k l. let w = low (suc k) (omega (arith, l)) in omega (arith, w)) more_whole c.related
      (ap (λ t. in_order (with_elem m) t (segments_in 0 (own_inst m) (numbers (suc n) (length es)) es)) (sym b.1) ∙ h) in
      then_alike s b.0 t x _ (λ x. one_by_one (run_elem env (one (with_funcs m fs)) (i ∷ [])) x (segments_in 0 i (numbers (suc n) (length es)) es)) c rest

  datas_alike : (ds : List DataSeg) (n : ℕ) (s t : State) (x : Store) → ((k : ℕ) → k < length ds → n + k < length m.datas) → StoreRelOff (R env m fs i is) s.unknown s.store x →
      in_order (with_data m) (Finished s) (segments_in 0 (own_inst m) (numbers n (length ds)) ds) ≡ Finished t →
      Alike s t x (one_by_one (run_data env (one (with_funcs m fs)) (i ∷ [])) x (segments_in 0 i (numbers n (length ds)) ds))
  datas_alike [] n s t x low r h = nothing_copied env m fs i is apart s t x r h
  datas_alike (d ∷ ds) n s t x low r h =
      let first_low : n < length m.datas = let l = low 0 (omega arith) in omega (arith, l) in
      let b = began (with_data m) (with_data m s (record { part = 0; inst = own_inst m; address = n; segment = d })) (segments_in 0 (own_inst m) (numbers (suc n) (length ds)) ds) t h in
      let c = data_alike env m fs i is apart s b.0 x n d first_low r d.mode refl b.1 in
      let rest = datas_alike ds (suc n) b.0 t c.store (λ k l. let w = low (suc k) (omega (arith, l)) in omega (arith, w)) c.related
      (ap (λ t. in_order (with_data m) t (segments_in 0 (own_inst m) (numbers (suc n) (length ds)) ds)) (sym b.1) ∙ h) in
      then_alike s b.0 t x _ (λ x. one_by_one (run_data env (one (with_funcs m fs)) (i ∷ [])) x (segments_in 0 i (numbers (suc n) (length ds)) ds)) c rest

  -- The copies of all segments.
  segments_alike : (s t : State) (x : Store) → AreWhole 0 m.elems s.store → StoreRelOff (R env m fs i is) s.unknown s.store x → with_segments m s ≡ Finished t →
      Alike s t x (segments env (one (with_funcs m fs)) (i ∷ []) x)
  segments_alike s t x whole r h =
      let elems = segments_in 0 (own_inst m) (own_inst m).elems m.elems in
      let datas = segments_in 0 (own_inst m) (own_inst m).datas m.datas in
      let b = began (with_data m) (in_order (with_elem m) (Finished s) elems) datas t h in
      let first = elems_alike m.elems 0 s b.0 x (λ k l. omega (arith, l)) whole r b.1 in
      let second = datas_alike m.datas 0 b.0 t first.store (λ k l. omega (arith, l)) first.related (ap (λ t. in_order (with_data m) t datas) (sym b.1) ∙ h) in
      let placed_first : segments_in 0 i (numbers 0 (length m.elems)) m.elems ≡ placed_elems 0 (one (with_funcs m fs)) (i ∷ []) = ap (λ ns. segments_in 0 i ns m.elems) (sym is.elems)
      ∙ sym (append-nil (segments_in 0 i i.elems m.elems)) in
      let placed_second : segments_in 0 i (numbers 0 (length m.datas)) m.datas ≡ placed_datas 0 (one (with_funcs m fs)) (i ∷ []) = ap (λ ns. segments_in 0 i ns m.datas) (sym is.datas)
      ∙ sym (append-nil (segments_in 0 i i.datas m.datas)) in
      subst (Alike s t x) (ap₂ (λ xs ys. and_then (one_by_one (run_elem env (one (with_funcs m fs)) (i ∷ [])) x xs)
      (λ s. one_by_one (run_data env (one (with_funcs m fs)) (i ∷ [])) s ys)) placed_first placed_second)
      (then_alike s b.0 t x _ (λ s. one_by_one (run_data env (one (with_funcs m fs)) (i ∷ [])) s (segments_in 0 i (numbers 0 (length m.datas)) m.datas)) first second)

  -- ---- from what is allocated ----

  -- Allocated segments have as many items as those of the module.
  whole_at_first : (quiet : Store) → AddsWith (value_in m) m (own_inst m) quiet → AreWhole 0 m.elems (joined_stores (imported_store m) quiet)
  whole_at_first quiet q k e at y h =
      let x = all_there_at (elem_with (value_in m)) m.elems quiet.elems q.elems k e at in
      let z : 0 + k ≡ k = omega arith in
      let same : x.0 ≡ y = same_Some x.0 y (sym x.2 ∙ ap (slice_get quiet.elems) (sym z) ∙ h) in
      let v = and_then_is (all_there (λ x. option_and_then ref_of (value_in m x)) e.items) (λ items. Some (new_elem e.mode items)) x.0 x.1 in
      subst (IsWhole e.mode e) (same_Some _ x.0 v.2 ∙ same) (by e.mode v.0 (all_there_length _ e.items v.0 v.1))
    where
      by : (mode : ElemMode) (items : List RefVal) → length items ≡ length e.items → IsWhole mode e (new_elem mode items)
      by (elem.Active table offset) items same = same
      by elem.Passive items same = tt
      by elem.Declarative items same = tt

  -- Both stores after all segments are copied.
  pub record BothFilled (turns : ℕ) (t : State) (there : Store) : Type 0 where
    pub store : Store
    pub filled : segments env (one (with_funcs m fs)) (i ∷ []) (joined_stores (own_store env) there) ≡ record { store = store; trapped = false }
    pub related : StoreRelOff (R env m fs i is) t.unknown t.store store
    pub funcs : FuncsOf (own_inst m) t.store.funcs
    pub left : t.turns ≡ turns
    pub stays : EnvironmentStays env (own_store env) store

  module _ (laws : NamingLaws) (names : TreeNamesOnly (with_entry (each_index m)) m) (there : Store) (allocated : part_store env (one (with_funcs m fs)) (i ∷ []) 0 (with_funcs m fs) i ≡ Some there) where
    filled_alike : (turns : ℕ) (t : State) (o : Option Store) → store_with (value_in m) m (own_inst m) ≡ o →
        filled_from m turns (option_and_then (λ defined. Some
        (record { store = joined_stores (imported_store m) defined; unknown = unknown_at_first m; written = none_written m.mems; turns = turns })) o) ≡ Finished t → BothFilled turns t there
    filled_alike turns t None e h = absurd (let k = h in cc)
    filled_alike turns t (Some quiet) e h =
        let q : AddsWith (value_in m) m (own_inst m) quiet = search (arith, e) in
        let d : AddsWith (value_there env m fs i is) (with_funcs m fs) i there = search (arith, allocated) in
        let first = related_at_first laws env m fs i is names quiet there q d in
        let s : State = record { store = joined_stores (imported_store m) quiet; unknown = unknown_at_first m; written = none_written m.mems; turns = turns } in
        let a = segments_alike s t (joined_stores (own_store env) there) (whole_at_first quiet q) first h in
        record { store = a.store; filled = a.filled; related = a.related; funcs = subst (FuncsOf (own_inst m)) (sym a.funcs) (code_of m names quiet q); left = a.turns; stays = stays_after env (own_store env) (joined_stores (own_store env) there) a.store (stays_joined env there) a.stays }

    one_memory : (b : Bool) (turns : ℕ) (t : Stage) (r : State) → cond b (Stopped why.Memory turns) t ≡ Finished r → t ≡ Finished r
    one_memory true turns t r e = absurd (let k = e in cc)
    one_memory false turns t r e = e

    pub both_filled : (turns : ℕ) (t : State) → instantiated m turns ≡ Finished t → BothFilled turns t there
    both_filled turns t h = filled_alike turns t (store_with (value_in m) m (own_inst m)) refl (one_memory (nat_lt 1 (length (memories_of m))) turns (filled_from m turns (state_at_first m turns)) t h)
