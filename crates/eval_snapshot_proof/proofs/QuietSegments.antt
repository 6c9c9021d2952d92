-- Consequences of a quiet instantiation: the module has at most one memory, none of its active data
-- segments goes to an imported memory, and the store of the quiet run has as many memories.
use Rattle.base_lists.proofs.Common.{◌≡◌, ◌∙◌, sym, ap, ap₂, refl, ℕ, zero, suc, ◌+◌, ◌≤◌, List, [], ◌∷◌, length, Bool, true, false, cond, ◌||◌, Option, Some, None, inl, inr, slice_get, nat_lt, cases_lt, lt-ltb, length-append, length-map, length-set, same_Some, and_then_is, arith}
use Rattle.std.proofs.lemmas.Bool.{true≢false}
use Rattle.base_lists.specs.Places.{numbers}
use Rattle.wasm_tree_spec.specs.Prelude.{Memories, ConstExpr, DataMode, DataSeg, Module, imported_memories, memories_of}
use Rattle.wasm_tree.specs.declared.module.DataMode.TheVariants as data'
use Rattle.wasm_meaning.specs.Prelude.{Outcome, Gives, Inst, Store, Touched, Bytes, Added, Filled, PlacedSegment, and_then, const_value, joined_stores, run_data_with, segments_in, store_with}
use Rattle.world_simulation.specs.Prelude.{AddsWith, new_memory}
use Rattle.world_simulation.specs.InstantiatedStores.{elem_copies, data_copies}
use Rattle.world_simulation.proofs.SegmentCopies.{all_stay}
use Rattle.world_simulation.specs.SegmentCopies.{OwnSegmentsRunAsCopies, memories, runs, tables}
use Rattle.eval_spec.specs.declared.stop.Stop.TheVariants as why
use Rattle.eval_spec.specs.Prelude.{State, Stage, Going, Stopped, Finished, Test, first_held, stopped_or, is_imported, test, writes_too_many, written_after, filled_from, imported_store, in_order, instantiated, own_inst, place_in, reads_global, state_at_first, value_in, with_data, with_data_mode}
use Rattle.eval_spec.specs.Prelude.{with_elem, with_segments}
use Rattle.eval_proof.specs.QuietInstantiations.{InstantiatedAs}

-- ---- one after the other ----

module _ {A : Type 0} (f : State → A → Stage) where
  began_there : (t : Stage) (xs : List A) (r : State) → in_order f t xs ≡ Finished r → (s : State) × (t ≡ Finished s)
  began_there (Finished s) xs r e = (s, refl)
  began_there (Stopped x left) [] r e = absurd (let k = e in cc)
  began_there (Stopped x left) (y ∷ ys) r e = absurd (let k = e in cc)
  began_there (Going s es) [] r e = absurd (let k = e in cc)
  began_there (Going s es) (y ∷ ys) r e = absurd (let k = e in cc)

  each_passed : (t : Stage) (xs : List A) (r : State) → in_order f t xs ≡ Finished r → (n : ℕ) (x : A) → slice_get xs n ≡ Some x → (p : State) × (q : State) × (f p x ≡ Finished q)
  each_passed t [] r e n x h = absurd (let k = h in cc)
  each_passed (Stopped y left) (z ∷ zs) r e n x h = absurd (let k = e in cc)
  each_passed (Going s es) (z ∷ zs) r e n x h = absurd (let k = e in cc)
  each_passed (Finished s) (y ∷ ys) r e zero x h =
      let b = began_there (f s y) ys r e in
      (s, b.0, ap (f s) (sym (same_Some y x h)) ∙ b.1)
  each_passed (Finished s) (y ∷ ys) r e (suc n) x h = each_passed (f s y) ys r e n x h

-- ---- active data segments ----

task_there : (i : Inst) (from : ℕ) (ds : List DataSeg) (n : ℕ) (d : DataSeg) → slice_get ds n ≡ Some d →
    (address : ℕ) × (slice_get (segments_in 0 i (numbers from (length ds)) ds) n ≡ Some (record { part = 0; inst = i; address = address; segment = d }))
task_there i from [] n d h = absurd (let k = h in cc)
task_there i from (x ∷ xs) zero d h = (from, ap (λ d. Some (record { part = 0; inst = i; address = from; segment = d })) (same_Some x d h))
task_there i from (x ∷ xs) (suc n) d h = task_there i (suc from) xs n d h

pub neither : (b c : Bool) → b || c ≡ false → c ≡ false
neither true c e = absurd (true≢false e)
neither false c e = e

module _ (m : Module) where
  not_held : (x : Test) (xs : List Test) (t : Stage) (q : State) → stopped_or (first_held (x ∷ xs)) t ≡ Finished q → x.holds ≡ false
  not_held x xs t q e = by x.holds e
    where
      by : (b : Bool) → stopped_or (cond b (Some x) (first_held xs)) t ≡ Finished q → b ≡ false
      by true e = absurd (let k = e in cc)
      by false e = refl

  passed_defined : (p q : State) (task : PlacedSegment DataSeg) (x : ℕ) (offset : ConstExpr) (mode : DataMode) → mode ≡ data'.Active x offset → with_data_mode m p task mode ≡ Finished q →
      is_imported m Memories x ≡ false
  passed_defined p q task x offset mode is e =
      let f : with_data_mode m p task (data'.Active x offset) ≡ Finished q = ap (with_data_mode m p task) (sym is) ∙ e in
      let filled = run_data_with (value_in m) p.store task task.segment.mode in
      let touched : Outcome Touched = Gives (Bytes x (place_in m offset) (length task.segment.bytes)) in
      neither (reads_global offset) (is_imported m Memories x)
      (not_held (test (reads_global offset || is_imported m Memories x) why.Unknown p.turns)
      (test filled.trapped why.Trap p.turns ∷ test (writes_too_many p.written touched) why.Memory p.turns ∷ [])
      (Finished (record p { store = filled.store; written = written_after p.written touched })) q f)

  segments_pass : (s q : State) → with_segments m s ≡ Finished q → (n : ℕ) (d : DataSeg) → slice_get m.datas n ≡ Some d → (x : ℕ) (offset : ConstExpr) → d.mode ≡ data'.Active x offset →
      is_imported m Memories x ≡ false
  segments_pass s q e n d h x offset is =
      let task = task_there (own_inst m) 0 m.datas n d h in
      let p = each_passed (with_data m) (in_order (with_elem m) (Finished s) (segments_in 0 (own_inst m) (own_inst m).elems m.elems))
      (segments_in 0 (own_inst m) (own_inst m).datas m.datas) q e n _ task.1 in
      passed_defined p.0 p.1 (record { part = 0; inst = own_inst m; address = task.0; segment = d }) x offset d.mode is p.2

  pub record IsQuietlyMade : Type 0 where
    pub single : length (memories_of m) ≤ 1
    pub defined : (n : ℕ) (d : DataSeg) → slice_get m.datas n ≡ Some d → (x : ℕ) (offset : ConstExpr) → d.mode ≡ data'.Active x offset → is_imported m Memories x ≡ false

  pub quietly_made : (turns : ℕ) (q : State) → instantiated m turns ≡ Finished q → IsQuietlyMade
  quietly_made turns q e = by (nat_lt 1 (length (memories_of m))) refl e
    where
      filled : (o : Option State) → filled_from m turns o ≡ Finished q → (n : ℕ) (d : DataSeg) → slice_get m.datas n ≡ Some d → (x : ℕ) (offset : ConstExpr) → d.mode ≡ data'.Active x offset →
          is_imported m Memories x ≡ false
      filled None e = absurd (let k = e in cc)
      filled (Some s) e = segments_pass s q e

      few : (k : ℕ) → nat_lt 1 k ≡ false → k ≤ 1
      few k h = elim (cases_lt 1 k) [
        | inl lt ↦ absurd (true≢false (sym (lt-ltb 1 k lt) ∙ h))
        | inr le ↦ le
      ]

      by : (b : Bool) → nat_lt 1 (length (memories_of m)) ≡ b → cond b (Stopped why.Memory turns) (filled_from m turns (state_at_first m turns)) ≡ Finished q → IsQuietlyMade
      by true h e = absurd (let k = e in cc)
      by false h e = record { single = few _ h; defined = filled (state_at_first m turns) e }

  -- ---- how many memories ----

  pub memory_count : OwnSegmentsRunAsCopies → (q : State) → InstantiatedAs m q → length q.store.mems ≡ length (memories_of m)
  memory_count run_own q is =
      let i = own_inst m in
      let before = imported_store m in
      let value = const_value before.globals i in
      let made = and_then_is (store_with value m i) _ is.added is.is in
      let same : record { inst = i; filled = _ } ≡ is.added = same_Some _ _ made.2 in
      let start = joined_stores before made.0 in
      let turn = run_own value m i 0 0 refl refl start in
      let filled = ap (λ (a : Added). a.filled) same in
      let good : (and_then (runs tables start 0 (elem_copies value i m.elems)) (λ s. runs memories s 0 (data_copies value i m.datas))).trapped ≡ false =
      ap (λ (f : Filled). f.trapped) (sym turn ∙ filled) ∙ is.untrapped in
      let both_went : (f : Filled) (g : Store → Filled) → (and_then f g).trapped ≡ false → (f.trapped ≡ false) × ((g f.store).trapped ≡ false) × ((and_then f g).store ≡ (g f.store).store) = λ f g h. grind arith in
      let went = both_went (runs tables start 0 (elem_copies value i m.elems)) (λ s. runs memories s 0 (data_copies value i m.datas)) good in
      let half = (runs tables start 0 (elem_copies value i m.elems)).store in
      let adds : AddsWith value m i made.0 = search (arith, made.1) in
      let count : length start.mems ≡ length (memories_of m) =
      length-append before.mems made.0.mems ∙ ap₂ (λ x y. x + y) (length-map (imported_memories m.imports) _) (ap length adds.mems ∙ length-map m.mems new_memory)
      ∙ sym (length-append (imported_memories m.imports) m.mems) in
      ap (λ (s : Store). length s.mems) (sym is.store ∙ ap (λ (f : Filled). f.store) (sym filled ∙ turn) ∙ went.2)
      ∙ all_stay memories (λ s. length s.mems) (λ s a c. length-set s.mems a c) (λ s n. refl) (data_copies value i m.datas) half 0 went.1
      ∙ all_stay tables (λ s. length s.mems) (λ s a c. refl) (λ s n. refl) (elem_copies value i m.elems) start 0 went.0
      ∙ count
