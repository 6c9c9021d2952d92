-- The store after the machine's run and that of the snapshot: all entities that both have are at
-- the same addresses and are related.
use Rattle.base_lists.proofs.Common.{◌≡◌, ◌∙◌, sym, ap, refl, subst, ℕ, ◌+◌, ◌-◌, ◌<◌, List, [], length, Bool, true, false, cond, not, ◌&&◌, Option, Some, inl, inr, arith, slice_get, ◌∷◌, cases_lt, length-append, places_many, same_Some, slice_get_within, append_at_left, slice_get_there, numbers_at}
use Rattle.base_lists.proofs.Common.{same_there, both_at}
use Rattle.std.specs.Prelude.{unwrap_or}
use Rattle.base_lists.specs.Options.{◌>>=◌}
use Rattle.wasm_tree_spec.specs.Prelude.{any_uses_data, Functions, Tables, Memories, Globals, ElementSegments, DataSegments, ConstExpr, DataMode, DataSeg, Module, imported_memories}
use Rattle.wasm_tree.specs.declared.module.DataMode.TheVariants as data'
use Rattle.wasm_meaning.specs.Prelude.{Text, Inst, Val, Data, Store, imports_of, Environment, own_memories, own_store}
use Rattle.run_simulation.specs.Prelude.{Pairing, BothRel, both, FuncRel, TableRel, GlobalRel, ElemRel, StoreRel, StoreRelOff}
use Rattle.index_remap_proof.specs.Indices.{TreeNamesOnly, with_entry}
use Rattle.world_simulation.specs.Prelude.{one, new_memory, IsInst}
use Rattle.world_simulation.specs.InstantiatedStores.{Leaves, all_over, data_copies, data_left, memory_left}
use Rattle.world_simulation.proofs.AllocatedStores.{own_same, type_same}
use Rattle.eval_snapshot_proof.specs.Ranges.{GlobalsAreExpressible}
use Rattle.eval_spec.specs.Prelude.{State, imported_store, own_inst, value_in, is_dropped, memory_bytes}
use Rattle.eval_proof.specs.UnrelatedPlaces.{LeavesAlone}
use Rattle.eval_snapshot_spec.specs.After.{TellsTheSame}
use Rattle.eval_snapshot_spec.specs.Snapshot.{empty_func, emptied, is_passive, memory_segments, old_segments, segment_left, segments_left, snapshot}
use Rattle.eval_snapshot_proof.specs.EvaluatedWorlds.{with_empty_func}
use Rattle.eval_snapshot_proof.proofs.AddedFunctions.{mems_many}
use Rattle.eval_snapshot_proof.proofs.RelatedInstances.{SnapshotLaws, R, first_value, second_value}
use Rattle.eval_snapshot_proof.proofs.NamedIndices.{each_index}
use Rattle.eval_snapshot_proof.proofs.RelatedDataCopies.{AreBytesOf, all_is, bytes, first_own_stays, memory_at, own, place, second_defined, second_own_stays}
use Rattle.eval_snapshot_proof.proofs.KnownGlobals.{Run}
use Rattle.eval_snapshot_proof.proofs.QuietSegments.{IsQuietlyMade}
use Rattle.eval_snapshot_proof.proofs.IndexRelation.{defined, named as address}
use Rattle.eval_snapshot_proof.proofs.SharedAddresses.{same, within}
use Rattle.eval_snapshot_proof.proofs.SnapshotParts.{shape, bound}
use Rattle.eval_snapshot_proof.proofs.DefinedIndices as standing
use Rattle.eval_snapshot_proof.proofs.UnchangedParts.{Steady, StaysOrDropped}
use Rattle.eval_snapshot_proof.proofs.RelatedFunctions.{elems_alike, funcs_alike, tables_alike}
use Rattle.eval_snapshot_proof.proofs.RelatedGlobals.{globals_alike}
use Rattle.eval_snapshot_proof.proofs.RelatedMemories.{is_held, segments_at}

module _ (env : Environment) (m : Module) (s : State) (name : Text) (names kept : List Text) (i j : Inst) (a : IsInst env (one (with_empty_func m)) 0 (with_empty_func m) i)
    (b : IsInst env (one (snapshot m s (name ∷ names) kept)) 0 (snapshot m s (name ∷ names) kept) j)
    (made : IsQuietlyMade m) (named : TreeNamesOnly (with_entry (each_index m)) m) (are : AreBytesOf m (bytes env m s name names kept i j a b made named)) (begun after other : Store) (q e : State)
    (left : Leaves (first_value env m s name names kept i j a b) (with_empty_func m) i (own_store env) begun)
    (right : Leaves (second_value env m s name names kept i j a b) (snapshot m s (name ∷ names) kept) j (own_store env) other)
    (quiet : Leaves (value_in m) m (own_inst m) (imported_store m) q.store) (steady : Steady q.store e.store) (related : StoreRelOff (Run m i) e.unknown e.store after)
    (alone : LeavesAlone (Run m i) e.unknown begun after) (told : TellsTheSame m s e) where
  abbrev first : Module
  first = with_empty_func m

  abbrev second : Module
  second = snapshot m s (name ∷ names) kept

  abbrev value : ConstExpr → Option Val
  value = first_value env m s name names kept i j a b

  abbrev again : ConstExpr → Option Val
  again = second_value env m s name names kept i j a b

  abbrev Q : Pairing
  Q = R env m s name names kept

  abbrev here : ℕ
  here = place env m s name names kept i j a b made named

  abbrev base : ℕ
  base = own env m s name names kept i j a b made named

  -- ---- memories ----

  counted : length (imports_of Memories m) ≡ here
  counted = places_many _ _ m.imports (grind arith) 0

  none_below : (n z : ℕ) → n < base → (Run m i).of Memories z n → ⊥
  none_below n z low r =
      let c = counted in
      let size = mems_many env m (empty_func m ∷ []) i a in
      let all = length-append (imported_memories m.imports) m.mems in
      let inside = slice_get_within i.mems z n (address m i Memories z n r) in
      let least = defined m i Memories refl z n r in
      let k = z - here in
      let z_is : z ≡ here + k = omega (arith, c, least) in
      let at = memory_at env m s name names kept i j a b made named k (omega (arith, inside, size, all, c, z_is)) in
      let same : base + k ≡ n = same_Some _ _ (sym at.0 ∙ ap (slice_get i.mems) (sym z_is) ∙ (address m i Memories z n r)) in
      omega (arith, same, low)

  own_memory : (n : ℕ) → n < base → BothRel (λ x y. x ≡ y) (slice_get after.mems n) (slice_get other.mems n)
  own_memory n low =
      let x = slice_get_there (own_memories env) n low in
      let p = left.earlier_mems n x.0 x.1 in
      let q = right.earlier_mems n x.0 x.1 in
      let stays = alone.mems n (λ z r. none_below n z low r) in
      let first_same : p.0 ≡ x.0 = same_Some _ _ (sym p.1 ∙ ap (memory_left x.0) (first_own_stays env m s name names kept i j a b made named n low x.0.bytes)) in
      let all = ap (λ ds. all_over n (data_copies again j ds) x.0.bytes) (all_is env m s name names kept i j a b made named are) in
      let second_same : q.0 ≡ x.0 = same_Some _ _ (sym q.1 ∙ ap (memory_left x.0) (all ∙ second_own_stays env m s name names kept i j a b made named are n low x.0.bytes)) in
      both_at after.mems other.mems n n x.0 x.0 (stays ∙ p.2 ∙ ap Some first_same) (q.2 ∙ ap Some second_same) refl

  defined_memory : 0 < length m.mems → BothRel (λ x y. x ≡ y) (slice_get after.mems (base + 0)) (slice_get other.mems (base + 0))
  defined_memory lt =
      let l = slice_get_there m.mems 0 lt in
      let held = is_held m s e q quiet steady told l.0 l.1 in
      let c = counted in
      let all = length-append (imported_memories m.imports) m.mems in
      let z : here + 0 ≡ here = omega arith in
      let w : base + 0 ≡ base = omega arith in
      let at = memory_at env m s name names kept i j a b made named 0 lt in
      let r = related.mems {a = here + 0} {b = base + 0} (standing.memory_stands m i (here + 0) (base + 0) (omega (arith, c)) (omega (arith, all, lt)) at.0) in
      let again_there : slice_get second.mems 0 ≡ Some l.0 = ap (λ ms. slice_get ms 0) (shape m s name names kept).mems ∙ l.1 in
      let q = right.mems 0 l.0 again_there in
      let filled = ap (λ n. all_over n (data_copies again j second.datas) (new_memory l.0).bytes) w
      ∙ ap (λ ds. all_over base (data_copies again j ds) (new_memory l.0).bytes) (all_is env m s name names kept i j a b made named are)
      ∙ second_defined env m s name names kept i j a b made named are l.0 l.1 in
      let made_is : q.0 ≡ record { most = l.0.max; pages = l.0.min; bytes = memory_bytes m s } = same_Some _ _ (sym q.1 ∙ ap (memory_left (new_memory l.0)) filled) in
      both_at after.mems other.mems (base + 0) (base + 0) held.memory q.0 (sym (same_there r) ∙ ap (slice_get e.store.mems) z ∙ held.there) q.2 (held.is ∙ sym made_is)

  pub mems_alike : (n : ℕ) → n < bound m s name names kept env Memories → BothRel (λ x y. x ≡ y) (slice_get after.mems n) (slice_get other.mems n)
  mems_alike n lt = elim (cases_lt n base) [
    | inl low ↦ own_memory n low
    | inr le ↦
        let single = made.single in
        let all = length-append (imported_memories m.imports) m.mems in
        let n_is : base + 0 ≡ n = omega (arith, le, lt, single, all) in
        subst (λ n. BothRel (λ x y. x ≡ y) (slice_get after.mems n) (slice_get other.mems n)) n_is (defined_memory (omega (arith, le, lt)))
  ]

  -- ---- data segments ----

  -- A data segment that the quiet run left has the bytes of the segment at its place in the
  -- snapshot.
  left_bytes : (n : ℕ) (d : DataSeg) (x : Data) → slice_get e.store.datas n ≡ Some x → StaysOrDropped (data_left d d.mode) x →
      (data_left (segment_left s n d) (segment_left s n d).mode).bytes ≡ x.bytes
  left_bytes n d x h stays = ap (λ b. (data_left (cond b d emptied) (cond b d emptied).mode).bytes) (ap (λ b. is_passive d.mode && not b) dropped) ∙ by d.mode refl stays
    where
      dropped : is_dropped s n ≡ x.dropped
      dropped = told.dropped n ∙ ap (λ o. unwrap_or (o >>= λ (d : Data). Some d.dropped) false) h

      by : (mode : DataMode) → d.mode ≡ mode → StaysOrDropped (data_left d mode) x →
          (data_left (cond (is_passive mode && not x.dropped) d emptied) (cond (is_passive mode && not x.dropped) d emptied).mode).bytes ≡ x.bytes
      by data'.Passive is (inl same) = rw same (rw is refl)
      by data'.Passive is (inr same) = rw same refl
      by (data'.Active memory offset) is (inl same) = rw same refl
      by (data'.Active memory offset) is (inr same) = rw same refl

  used_datas : any_uses_data m.funcs ≡ true → (n : ℕ) → n < length m.datas → BothRel (λ (x y : Data). x.bytes ≡ y.bytes) (slice_get after.datas n) (slice_get other.datas n)
  used_datas uses n lt = by (slice_get e.store.datas n) (slice_get after.datas n) refl refl
      (related.datas {a = n} {b = n} (standing.data_stands m i n lt (let z : 0 + n ≡ n = omega arith in ap (λ l. slice_get l n) a.datas ∙ numbers_at 0 (length m.datas) n lt ∙ ap Some z)))
    where
      by : (o p : Option Data) → slice_get e.store.datas n ≡ o → slice_get after.datas n ≡ p → BothRel (λ (x y : Data). x.bytes ≡ y.bytes) o p →
          BothRel (λ (x y : Data). x.bytes ≡ y.bytes) (slice_get after.datas n) (slice_get other.datas n)
      by _ _ f h (both {a = x} {b = y} r) =
          let d = slice_get_there m.datas n lt in
          let z : 0 + n ≡ n = omega arith in
          let was : slice_get q.store.datas n ≡ Some (data_left d.0 d.0.mode) = ap (slice_get q.store.datas) (sym z) ∙ quiet.datas n d.0 d.1 in
          let k = steady.datas n (data_left d.0 d.0.mode) was in
          let stays = subst (StaysOrDropped (data_left d.0 d.0.mode)) (same_Some _ _ (sym k.1 ∙ f)) k.2 in
          let old : slice_get (old_segments m s) n ≡ Some (segment_left s n d.0) = ap (λ b. slice_get (cond b (segments_left s 0 m.datas) []) n) uses ∙ segments_at s 0 m.datas n d.0 d.1
          ∙ ap (λ k. Some (segment_left s k d.0)) z in
          let there : slice_get second.datas n ≡ Some (segment_left s n d.0) =
          ap (λ ds. slice_get ds n) (shape m s name names kept).datas ∙ append_at_left (old_segments m s) (memory_segments m s) n (segment_left s n d.0) old in
          let p = right.datas n (segment_left s n d.0) there in
          both_at after.datas other.datas n n y (data_left (segment_left s n d.0) (segment_left s n d.0).mode) h (ap (slice_get other.datas) (sym z) ∙ p) (sym r ∙ sym (left_bytes n d.0 x f stays))

  pub datas_alike : (n : ℕ) → n < bound m s name names kept env DataSegments → BothRel (λ (x y : Data). x.bytes ≡ y.bytes) (slice_get after.datas n) (slice_get other.datas n)
  datas_alike n lt = by (any_uses_data m.funcs) refl lt
    where
      by : (c : Bool) → any_uses_data m.funcs ≡ c → n < cond c (length m.datas) 0 → BothRel (λ (x y : Data). x.bytes ≡ y.bytes) (slice_get after.datas n) (slice_get other.datas n)
      by true uses lt = used_datas uses n lt
      by false uses lt = absurd (omega (arith, lt))

  -- ---- all ----

  pub stores_alike : SnapshotLaws → GlobalsAreExpressible e.store → StoreRel Q after other
  stores_alike laws fit = record {
    types = λ {a = x} {b = y} r. type_same Q (func x y r);
    owns = λ {a = x} {b = y} r. own_same Q (func x y r);
    funcs = λ {a = x} {b = y} r free. func x y r;
    tables = λ {a = x} {b = y} r. subst (λ y. BothRel (TableRel Q) (slice_get after.tables x) (slice_get other.tables y)) (same (bound m s name names kept env) Tables x y r)
        (subst (λ ts. BothRel (TableRel Q) (slice_get ts x) (slice_get other.tables x)) (sym alone.tables)
        (tables_alike laws env m s name names kept i j a b named begun other left right x (within (bound m s name names kept env) Tables x y r)));
    mems = λ {a = x} {b = y} r. subst (λ y. BothRel (λ x y. x ≡ y) (slice_get after.mems x) (slice_get other.mems y)) (same (bound m s name names kept env) Memories x y r)
        (mems_alike x (within (bound m s name names kept env) Memories x y r));
    globals = λ {a = x} {b = y} r. subst (λ y. BothRel (GlobalRel Q) (slice_get after.globals x) (slice_get other.globals y)) (same (bound m s name names kept env) Globals x y r)
        (globals_alike laws.constants env m s name names kept i j a b named begun after q e left quiet steady related alone told fit other right x (within (bound m s name names kept env) Globals x y r));
    elems = λ {a = x} {b = y} r. subst (λ y. BothRel (ElemRel Q) (slice_get after.elems x) (slice_get other.elems y)) (same (bound m s name names kept env) ElementSegments x y r)
        (subst (λ es. BothRel (ElemRel Q) (slice_get es x) (slice_get other.elems x)) (sym alone.elems)
        (elems_alike laws env m s name names kept i j a b named begun other left right x (within (bound m s name names kept env) ElementSegments x y r)));
    datas = λ {a = x} {b = y} r. subst (λ y. BothRel (λ (x y : Data). x.bytes ≡ y.bytes) (slice_get after.datas x) (slice_get other.datas y)) (same (bound m s name names kept env) DataSegments x y r)
        (datas_alike x (within (bound m s name names kept env) DataSegments x y r));
  }
    where
      func : (x y : ℕ) → Q.of Functions x y → BothRel (FuncRel Q) (slice_get after.funcs x) (slice_get other.funcs y)
      func x y r = subst (λ y. BothRel (FuncRel Q) (slice_get after.funcs x) (slice_get other.funcs y)) (same (bound m s name names kept env) Functions x y r)
          (subst (λ fs. BothRel (FuncRel Q) (slice_get fs x) (slice_get other.funcs x)) (sym alone.funcs)
          (funcs_alike laws env m s name names kept i j a b named begun other left right x (within (bound m s name names kept env) Functions x y r)))
