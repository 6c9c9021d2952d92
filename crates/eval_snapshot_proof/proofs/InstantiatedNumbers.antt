-- Numbers are in range in the store after the instantiation of a valid module, and no reference in
-- it is a non-null external one.
use Rattle.base_lists.proofs.Common.{◌≡◌, ◌∙◌, ℕ, suc, ◌*◌, ◌^◌, ◌<◌, ◌≤◌, arith, List, [], ◌∷◌, length, map, Bool, true, false, cond, Option, Some, None, slice_get, refl, sym, subst, nat_lt, same_Some, slice_get_within, every_at, copies_length}
use Rattle.std.specs.Option.{IfSome}
use Rattle.base_lists.specs.Every.{Every}
use Rattle.base_lists.specs.Options.{◌>>=◌, all_there}
use Rattle.wasm_tree_spec.specs.Prelude.{GlobalType, Limits, TableType, ConstExpr, DataMode, DataSeg, ElemMode, ElemSeg, GlobalDef, Module, imported_tables, imported_memories, imported_globals, memories_of}
use Rattle.wasm_tree.specs.declared.module.ConstExpr.TheVariants as const
use Rattle.wasm_tree.specs.declared.module.DataMode.TheVariants as data'
use Rattle.wasm_tree.specs.declared.module.ElemMode.TheVariants as elem
use Rattle.wasm_num.specs.Operations.{W32}
use Rattle.wasm_valid.specs.declared.kinds.ItemKind.TheVariants as kind
use Rattle.wasm_valid.specs.Prelude.{ItemsHold}
use Rattle.wasm_meaning.specs.Prelude.{Gives, copies, overwrite, RefVal, Table, Memory, Store, num_of, ref_of, null_of, zero_of, no_bytes, no_items, Bytes, Filled, PlacedSegment, copy_slots, copy_bytes, elem_with, global_with, joined_stores, new_elem, new_func, or_trapped, run_elem_with}
use Rattle.wasm_meaning.specs.Prelude.{run_data_with, segments_in, store_with}
use Rattle.eval_spec.specs.declared.stop.Stop.TheVariants as why
use Rattle.eval_spec.specs.Prelude.{State, Stage, Going, Stopped, Finished, Test, first_held, stopped_or, written_after, copied_slots, data_tests, elem_tests, filled_from, imported_store, in_order, instantiated, own_inst, place_in, state_at_first, value_in, with_data, with_data_mode, with_elem}
use Rattle.eval_spec.specs.Prelude.{with_elem_mode, with_segments}
use Rattle.eval_snapshot_proof.specs.Ranges.{BeginsInRange, IsByte, IsNullOrFunction, IsExpressible}
use Rattle.eval_snapshot_proof.proofs.ElementsOfLists.{there_then, each_of_both, each_copy, each_set, each_overwritten}
use Rattle.eval_snapshot_proof.proofs.IntegerOperations.{wrapped_in}
use Rattle.eval_snapshot_proof.proofs.ValuesOnStacks.{null_own, reference_in, zero_in}
use Rattle.eval_snapshot_proof.proofs.NumbersInSteps.{DataIn, ElemIn, EntryIn, GlobalIn, MemoryIn, StoreIn, TableIn}

-- ---- lists ----

-- A property of the result of a computation that may fail: its first part, if it succeeds, may be
-- taken as given.
there_is : {A B : Type 0} (Q : B → Type 0) (o : Option A) (f : A → Option B) → ((a : A) → o ≡ Some a → IfSome (f a) Q) → IfSome (o >>= f) Q
there_is Q None f h = tt
there_is Q (Some a) f h = h a refl

module _ {A B : Type 0} (Q : B → Type 0) where
  each_made : (P : A → Type 0) (f : A → B) → ((x : A) → P x → Q (f x)) → (xs : List A) → Every P xs → Every Q (map f xs)
  each_made P f h [] e = tt
  each_made P f h (x ∷ xs) e = (h x e.0, each_made P f h xs e.1)

  each_there : (f : A → Option B) → ((x : A) → IfSome (f x) Q) → (xs : List A) → IfSome (all_there f xs) (Every Q)
  each_there f h [] = tt
  each_there f h (x ∷ xs) =
      there_then Q (Every Q) (f x) (λ y. all_there f xs >>= λ ys. Some (y ∷ ys)) (h x) (λ y q.
      there_then (Every Q) (Every Q) (all_there f xs) (λ ys. Some (y ∷ ys)) (each_there f h xs) (λ ys e. (q, e)))

module _ {A : Type 0} (P : A → Type 0) where
  each_by_place : (xs : List A) → ((n : ℕ) (x : A) → slice_get xs n ≡ Some x → P x) → Every P xs
  each_by_place [] h = tt
  each_by_place (x ∷ xs) h = (h 0 x refl, each_by_place xs (λ n y e. h (suc n) y e))

abbrev Any : {A : Type 0} → A → Type 0
Any x = Unit {0}

any : {A : Type 0} (xs : List A) → Every Any xs
any [] = tt
any (x ∷ xs) = (tt, any xs)

-- ---- at first ----

module _ (m : Module) where
  zeros_of_imports : Every GlobalIn (imported_store m).globals
  zeros_of_imports = each_made GlobalIn Any (λ (t : GlobalType). record { ty = t; value = zero_of t.ty }) (λ t u. zero_in t.ty) (imported_globals m.imports) (any (imported_globals m.imports))

  constant_in : (x : ConstExpr) → IfSome (value_in m x) IsExpressible
  constant_in (const.I32 z) = wrapped_in 32 z
  constant_in (const.I64 z) = wrapped_in 64 z
  constant_in (const.Null t) = null_own t
  constant_in (const.Func f) = there_is IsExpressible (slice_get (own_inst m).funcs f) _ (λ a e. tt)
  constant_in (const.Global x) =
      there_is IsExpressible (slice_get (own_inst m).globals x) _ (λ a e.
      there_is IsExpressible (slice_get (imported_store m).globals a) _ (λ g at. every_at GlobalIn (imported_store m).globals a g zeros_of_imports at))

  global_in : (g : GlobalDef) → IfSome (global_with (value_in m) g) GlobalIn
  global_in g = there_then IsExpressible GlobalIn (value_in m g.init) (λ v. Some (record { ty = g.ty; value = v })) (constant_in g.init) (λ v h. h)

  item_in : (x : ConstExpr) → IfSome (value_in m x >>= ref_of) IsNullOrFunction
  item_in x = there_then IsExpressible IsNullOrFunction (value_in m x) ref_of (constant_in x) reference_in

  new_elem_in : (mode : ElemMode) (items : List RefVal) → Every IsNullOrFunction items → ElemIn (new_elem mode items)
  new_elem_in elem.Declarative items h = tt
  new_elem_in elem.Passive items h = h
  new_elem_in (elem.Active x offset) items h = h

  segment_in : (e : ElemSeg) → IfSome (elem_with (value_in m) e) ElemIn
  segment_in e =
      there_then (Every IsNullOrFunction) ElemIn (all_there (λ x. value_in m x >>= ref_of) e.items) (λ items. Some (new_elem e.mode items))
      (each_there IsNullOrFunction (λ x. value_in m x >>= ref_of) item_in e.items) (new_elem_in e.mode)

  module _ (items : ItemsHold m) (begins : BeginsInRange m) where
    abbrev FewPages : Limits → Type 0
    FewPages l = l.min ≤ 65536

    few_pages : Every FewPages m.mems
    few_pages = each_by_place FewPages m.mems (λ n l at. let item = items kind.Memory n (slice_get_within m.mems n l at) in subst FewPages (same_Some item.0 l (sym item.1 ∙ at)) item.2.1)

    table_in : (t : TableType) → t.limits.min < 2 ^ 32 → TableIn (record { ty = t.ty; most = t.limits.max; slots = copies t.limits.min (null_of t.ty) })
    table_in t lt = let count = copies_length t.limits.min (null_of t.ty) in (each_copy IsNullOrFunction t.limits.min (null_of t.ty) (null_own t.ty), omega (arith, count, lt))

    memory_in : (l : Limits) → FewPages l → MemoryIn (record { most = l.max; pages = l.min; bytes = copies (65536 * l.min) 0 })
    memory_in l few = let zero_byte : ℕ = 0 in let count = copies_length (65536 * l.min) zero_byte in (each_copy IsByte (65536 * l.min) 0 (omega arith), omega (arith, few), omega (arith, count, few))

    first_in : IfSome (store_with (value_in m) m (own_inst m)) (λ d. StoreIn (joined_stores (imported_store m) d))
    first_in =
        let Q : Store → Type 0 = λ d. StoreIn (joined_stores (imported_store m) d) in
        there_is Q (all_there (new_func (own_inst m)) m.funcs) _ (λ fs ef.
        there_then (Every GlobalIn) Q (all_there (global_with (value_in m)) m.globals) _ (each_there GlobalIn (global_with (value_in m)) global_in m.globals) (λ gs g.
        there_then (Every ElemIn) Q (all_there (elem_with (value_in m)) m.elems) _ (each_there ElemIn (elem_with (value_in m)) segment_in m.elems) (λ es e. record {
          tables = each_of_both TableIn _ _ (each_made TableIn Any _ (λ (t : TableType) u. (tt, omega arith)) (imported_tables m.imports) (any (imported_tables m.imports)))
              (each_made TableIn (λ t. t.limits.min < 2 ^ 32) _ table_in m.tables begins.tables);
          mems = each_of_both MemoryIn _ _ (each_made MemoryIn Any _ (λ (l : Limits) u. (tt, omega arith, omega arith)) (imported_memories m.imports) (any (imported_memories m.imports)))
              (each_made MemoryIn FewPages _ memory_in m.mems few_pages);
          globals = each_of_both GlobalIn (imported_store m).globals gs zeros_of_imports g;
          elems = e;
          datas = each_made DataIn (λ d. Every IsByte d.bytes) _ (λ (d : DataSeg) b. b) m.datas begins.datas;
        })))

    at_first_in : (turns : ℕ) → IfSome (state_at_first m turns) (λ s. StoreIn s.store)
    at_first_in turns = there_then (λ d. StoreIn (joined_stores (imported_store m) d)) (λ s. StoreIn s.store) (store_with (value_in m) m (own_inst m)) _ first_in (λ d h. h)

-- ---- segments ----

-- The numbers of a stage are in range, and its references are null or functions.
abbrev pub HeldIn : Stage → Type 0
HeldIn (Going s es) = StoreIn s.store × Every EntryIn es
HeldIn (Finished s) = StoreIn s.store
HeldIn (Stopped x left) = Unit {0}

pub tried_in : (o : Option Test) (t : Stage) → HeldIn t → HeldIn (stopped_or o t)
tried_in None t h = h
tried_in (Some x) t h = tt

abbrev FilledIn : Filled → Type 0
FilledIn f = StoreIn f.store

filled_in : (s : Store) (o : Option Filled) → StoreIn s → IfSome o FilledIn → FilledIn (or_trapped s o)
filled_in s None h k = h
filled_in s (Some f) h k = k

slots_in : (s : Store) (e a : ℕ) (t : Table) (o : Option (List RefVal)) → StoreIn s → IfSome o (λ slots. Every IsNullOrFunction slots × (length slots < 2 ^ 32)) → FilledIn (copy_slots s e a t o)
slots_in s e a t None h k = h
slots_in s e a t (Some slots) h k = record {
  tables = each_set TableIn s.tables a (record t { slots = slots }) h.tables k;
  mems = h.mems;
  globals = h.globals;
  elems = each_set ElemIn s.elems e no_items h.elems tt;
  datas = h.datas;
}

bytes_in : (s : Store) (e a : ℕ) (x : Memory) (o : Option (List ℕ)) → StoreIn s → MemoryIn x → IfSome o (λ bytes. Every IsByte bytes × (length bytes ≡ length x.bytes)) →
    FilledIn (copy_bytes s e a x o)
bytes_in s e a x None h m k = h
bytes_in s e a x (Some bytes) h m k =
    let same = k.1 in let most = m.2 in
    record {
      tables = h.tables;
      mems = each_set MemoryIn s.mems a (record x { bytes = bytes }) h.mems (k.0, m.1, omega (arith, same, most));
      globals = h.globals;
      elems = h.elems;
      datas = each_set DataIn s.datas e no_bytes h.datas tt;
    }

module _ (m : Module) where
  elem_in : (s : State) (task : PlacedSegment ElemSeg) (mode : ElemMode) → StoreIn s.store → FilledIn (run_elem_with (value_in m) s.store task mode)
  elem_in s task elem.Passive h = h
  elem_in s task elem.Declarative h = h
  elem_in s task (elem.Active x offset) h =
      filled_in s.store _ h
      (there_is FilledIn (value_in m offset >>= num_of W32) _ (λ n _.
      there_is FilledIn (slice_get task.inst.tables x) _ (λ a _.
      there_is FilledIn (slice_get s.store.tables a) _ (λ t it.
      there_is FilledIn (slice_get s.store.elems task.address) _ (λ e ie.
      slots_in s.store task.address a t (overwrite t.slots n e.items) h
      (filled t n e.items (every_at TableIn s.store.tables a t h.tables it) (every_at ElemIn s.store.elems task.address e h.elems ie)))))))
    where
      filled : (t : Table) (n : ℕ) (items : List RefVal) → TableIn t → Every IsNullOrFunction items → IfSome (overwrite t.slots n items) (λ slots. Every IsNullOrFunction slots × (length slots < 2 ^ 32))
      filled t n items k own = by (overwrite t.slots n items) (each_overwritten IsNullOrFunction t.slots n items k.0 own)
        where
          by : (o : Option (List RefVal)) → IfSome o (λ zs. Every IsNullOrFunction zs × (length zs ≡ length t.slots)) → IfSome o (λ slots. Every IsNullOrFunction slots × (length slots < 2 ^ 32))
          by None h = tt
          by (Some slots) h = let same = h.1 in let few = k.1 in (h.0, omega (arith, same, few))

  data_in : (s : State) (task : PlacedSegment DataSeg) (mode : DataMode) → StoreIn s.store → FilledIn (run_data_with (value_in m) s.store task mode)
  data_in s task data'.Passive h = h
  data_in s task (data'.Active x offset) h =
      filled_in s.store _ h
      (there_is FilledIn (value_in m offset >>= num_of W32) _ (λ n _.
      there_is FilledIn (slice_get task.inst.mems x) _ (λ a _.
      there_is FilledIn (slice_get s.store.mems a) _ (λ k ik.
      there_is FilledIn (slice_get s.store.datas task.address) _ (λ d id.
      let memory = every_at MemoryIn s.store.mems a k h.mems ik in
      bytes_in s.store task.address a k (overwrite k.bytes n d.bytes) h memory (each_overwritten IsByte k.bytes n d.bytes memory.0 (every_at DataIn s.store.datas task.address d h.datas id)))))))

  with_elem_in : (s : State) (task : PlacedSegment ElemSeg) (mode : ElemMode) → StoreIn s.store → HeldIn (with_elem_mode m s task mode)
  with_elem_in s task elem.Passive h = h
  with_elem_in s task elem.Declarative h = h
  with_elem_in s task (elem.Active x offset) h =
      let filled = run_elem_with (value_in m) s.store task task.segment.mode in
      let unknown = copied_slots s task.address x (place_in m offset) (length task.segment.items) in
      tried_in (first_held (elem_tests m s x offset filled)) (Finished (record s { store = filled.store; unknown = unknown })) (elem_in s task task.segment.mode h)

  with_data_in : (s : State) (task : PlacedSegment DataSeg) (mode : DataMode) → StoreIn s.store → HeldIn (with_data_mode m s task mode)
  with_data_in s task data'.Passive h = h
  with_data_in s task (data'.Active x offset) h =
      let filled = run_data_with (value_in m) s.store task task.segment.mode in
      let touched = Gives (Bytes x (place_in m offset) (length task.segment.bytes)) in
      tried_in (first_held (data_tests m s x offset filled touched)) (Finished (record s { store = filled.store; written = written_after s.written touched })) (data_in s task task.segment.mode h)

  in_order_in : {A : Type 0} (f : State → A → Stage) → ((s : State) (x : A) → StoreIn s.store → HeldIn (f s x)) → (t : Stage) (xs : List A) → HeldIn t → HeldIn (in_order f t xs)
  in_order_in f k (Finished s) [] h = h
  in_order_in f k (Finished s) (x ∷ xs) h = in_order_in f k (f s x) xs (k s x h)
  in_order_in f k (Stopped w n) xs h = tt
  in_order_in f k (Going s es) xs h = h

  segments_held : (s : State) → StoreIn s.store → HeldIn (with_segments m s)
  segments_held s h =
      let elems = segments_in 0 (own_inst m) (own_inst m).elems m.elems in
      let datas = segments_in 0 (own_inst m) (own_inst m).datas m.datas in
      in_order_in (with_data m) (λ s x k. with_data_in s x x.segment.mode k) (in_order (with_elem m) (Finished s) elems) datas
      (in_order_in (with_elem m) (λ s x k. with_elem_in s x x.segment.mode k) (Finished s) elems h)

  filled_held : (turns : ℕ) (o : Option State) → IfSome o (λ s. StoreIn s.store) → HeldIn (filled_from m turns o)
  filled_held turns None h = tt
  filled_held turns (Some s) h = segments_held s h

  -- The stage after the instantiation of a module that begins in range.
  pub instantiated_in : ItemsHold m → BeginsInRange m → (turns : ℕ) → HeldIn (instantiated m turns)
  instantiated_in items begins turns = by (nat_lt 1 (length (memories_of m))) (filled_held turns (state_at_first m turns) (at_first_in m items begins turns))
    where
      by : (several : Bool) → HeldIn (filled_from m turns (state_at_first m turns)) → HeldIn (cond several (Stopped why.Memory turns) (filled_from m turns (state_at_first m turns)))
      by true h = tt
      by false h = h
