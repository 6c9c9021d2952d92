-- An evaluation has as many memories as the module, after any steps.
use Rattle.base_lists.proofs.Common.{◌≡◌, ◌∙◌, ℕ, zero, suc, ◌-◌, ◌*◌, arith, List, ◌∷◌, length, Bool, true, false, cond, Option, Some, None, slice_get, refl, sym, ap, subst, nat_lt, length-map, length-set, same_Some, and_then_is}
use Rattle.std.proofs.Common.{length-append}
use Rattle.std.specs.Prelude.{[], unwrap_or}
use Rattle.base_lists.specs.Options.{◌>>=◌, all_there}
use Rattle.wasm_tree_spec.specs.Prelude.{ConstExpr, ElemSeg, ElemMode, DataSeg, DataMode, Module, imported_memories, memories_of}
use Rattle.wasm_num.specs.Operations.{W32}
use Rattle.wasm_meaning.specs.Prelude.{Outcome, Gives, Traps, IllTyped, copies, overwrite, Val, Func, Code, Own, Placeholder, Memory, Store, Level, Frame, Entry, Running, Mark, Opening, Waiting, Ended, Growing, Change, Keep, SetGlobal, SetMemory, SetTable, DropElem, DropData, Act, Goes}
use Rattle.wasm_meaning.specs.Prelude.{Calls, AsksGrow, Ends, Next, Ran, CallsOwn, WaitsGrowth, CallsPlaceholder, EndsCall, num_of, pop_typed, type_at, act, changed, enter, give, give_levels, perform, step, Bytes, Filled, PlacedSegment, copy_bytes, copy_slots, global_with, joined_stores}
use Rattle.wasm_meaning.specs.Prelude.{new_func, or_trapped, run_data_with, run_elem_with, segments_in, store_with}
use Rattle.wasm_meaning.specs.World.{elem_with as elems_with}
use Rattle.wasm_meaning.proofs.Outcomes.{AllOf, ill_typed, just, with_found, with_is}
use Rattle.eval_spec.specs.Prelude.{State, Stage, Going, Stopped, Finished, Test, first_held, stopped_or, frame_turns, host_tests, tests, written_after, after_steps, call_end, came_to, host_call, host_opened_if_there, quiet_step, spent, weight, called_in_order, evaluated_within}
use Rattle.eval_spec.specs.Prelude.{after_start, data_tests, elem_tests, filled_from, imported_store, in_order, instantiated, own_inst, place_in, state_at_first, value_in, with_data, with_data_mode, with_elem, with_elem_mode, memory_bytes}
use Rattle.wasm_tree.specs.declared.module.ElemMode.TheVariants as elem
use Rattle.wasm_tree.specs.declared.module.DataMode.TheVariants as data'
use Rattle.eval_spec.specs.declared.stop.Stop.TheVariants as why

abbrev Has : ℕ → Store → Type 0
Has n s = length s.mems ≡ n

-- ---- a step ----

changed_has : (n : ℕ) (s : Store) (c : Change) → Has n s → Has n (changed s c)
changed_has n s Keep h = h
changed_has n s (SetGlobal a g) h = h
changed_has n s (SetMemory a m) h = length-set s.mems a m ∙ h
changed_has n s (SetTable a t) h = h
changed_has n s (DropElem a) h = h
changed_has n s (DropData a) h = h

module _ (n : ℕ) (s : Store) (h : Has n s) where
  abbrev NextHas : Next → Type 0
  NextHas (Ran t es) = Has n t
  NextHas (EndsCall vs t es) = Has n t
  NextHas _ = Unit {0}

  levels_have : (vs : List Val) (f : Frame) (ls : List Level) (es : List Entry) → AllOf NextHas (give_levels s vs f ls es)
  levels_have vs f [] es = ill_typed
  levels_have vs f (l ∷ ls) es = just h

  give_has : (vs : List Val) (es : List Entry) → AllOf NextHas (give s vs es)
  give_has vs [] = ill_typed
  give_has vs (Running f ∷ es) = levels_have vs f f.levels es
  give_has vs (Mark ∷ es) = just h
  give_has vs (Opening xs ∷ es) = just h
  give_has vs (Waiting ts ∷ es) = ill_typed
  give_has vs (Ended ws ∷ es) = ill_typed
  give_has vs (Growing g ∷ es) = ill_typed

  enter_has : (f : Func) (args : List Val) (es : List Entry) → NextHas (enter s f args es)
  enter_has (Code t j ls c) args es = h
  enter_has (Own p t) args es = tt
  enter_has (Placeholder k t) args es = tt

  perform_has : (f : Frame) (es : List Entry) (x : Act) → AllOf NextHas (perform s f es x)
  perform_has f es (Goes c b) = just (changed_has n s c h)
  perform_has f es (Calls a vs b) = with_found (type_at s a) _ (λ t _. with_is (pop_typed t.params vs) _ (λ p _. with_found (slice_get s.funcs a) _ (λ g _. just (enter_has g p.0 _))))
  perform_has f es (AsksGrow g size count b) = just tt
  perform_has f es (Ends vs) = with_is (pop_typed f.results vs) _ (λ p _. give_has p.0 es)

  step_has : (es : List Entry) → AllOf NextHas (step s es)
  step_has [] = ill_typed
  step_has (Running f ∷ es) = with_is (act s f) _ (λ x _. perform_has f es x)
  step_has (Mark ∷ es) = ill_typed
  step_has (Opening xs ∷ es) = ill_typed
  step_has (Waiting ts ∷ es) = ill_typed
  step_has (Ended vs ∷ es) = ill_typed
  step_has (Growing g ∷ es) = ill_typed

-- ---- a call ----

module _ (m : Module) (n : ℕ) where
  abbrev StageHas : Stage → Type 0
  StageHas (Going s es) = Has n s.store
  StageHas (Finished s) = Has n s.store
  StageHas (Stopped x left) = Unit {0}

  came_has : (t s : State) (h : Has n t.store) (o : Outcome Next) → AllOf (NextHas n t.store h) o → StageHas (came_to s o)
  came_has t s h Traps k = tt
  came_has t s h IllTyped k = tt
  came_has t s h (Gives (Ran r es)) (just k) = k
  came_has t s h (Gives (EndsCall vs r es)) (just k) = k
  came_has t s h (Gives (CallsOwn p u vs r es)) k = tt
  came_has t s h (Gives (WaitsGrowth g i c r es)) k = tt
  came_has t s h (Gives (CallsPlaceholder i vs r es)) k = tt

  tried_has : (o : Option Test) (t : Stage) → StageHas t → StageHas (stopped_or o t)
  tried_has None t h = h
  tried_has (Some x) t h = tt

  quiet_has : (s : State) (es : List Entry) → Has n s.store → StageHas (quiet_step m s es)
  quiet_has s es h = tried_has (first_held (tests m s es)) (came_to (spent s es) (step s.store es)) (came_has s (spent s es) h (step s.store es) (step_has n s.store h es))

  after_has : (i : ℕ) (t : Stage) → StageHas t → StageHas (after_steps m i t)
  after_has zero t h = h
  after_has (suc i) (Going s es) h = after_has i (quiet_step m s es) (quiet_has s es h)
  after_has (suc i) (Stopped x left) h = tt
  after_has (suc i) (Finished s) h = h

  opened_has : (s : State) (o : Option Func) → Has n s.store → StageHas (host_opened_if_there s o)
  opened_has s None h = tt
  opened_has s (Some f) h =
      tried_has (first_held (host_tests s f)) (came_to (record s { turns = s.turns - frame_turns f }) (Gives (enter s.store f [] (Mark ∷ []))))
      (came_has s (record s { turns = s.turns - frame_turns f }) h (Gives (enter s.store f [] (Mark ∷ []))) (just (enter_has n s.store h f [] (Mark ∷ []))))

  call_has : (s : State) (func : ℕ) → Has n s.store → StageHas (call_end m s func)
  call_has s func h = after_has (suc (weight (host_call s func))) (host_call s func) (opened_has s (slice_get s.store.funcs func) h)

  called_have : (funcs : List ℕ) (t : Stage) → StageHas t → StageHas (called_in_order m t funcs)
  called_have [] (Finished s) h = h
  called_have [] (Stopped x left) h = tt
  called_have [] (Going s es) h = h
  called_have (func ∷ funcs) (Finished s) h = called_have funcs (call_end m s func) (call_has s func h)
  called_have (func ∷ funcs) (Stopped x left) h = tt
  called_have (func ∷ funcs) (Going s es) h = h

  started_has : (t : Stage) (start : Option ℕ) → StageHas t → StageHas (after_start m t start)
  started_has (Finished s) None h = h
  started_has (Finished s) (Some func) h = call_has s func h
  started_has (Stopped x left) start h = tt
  started_has (Going s es) start h = h

  -- ---- the instantiation ----

  filled_then : {A : Type 0} (s : Store) (o : Option A) (f : A → Option Filled) → Has n s → ((x : A) → Has n (or_trapped s (f x)).store) → Has n (or_trapped s (o >>= f)).store
  filled_then s None f h k = h
  filled_then s (Some x) f h k = k x

  slots_have : (s : Store) (i a : ℕ) (t : _) (o : Option (List _)) → Has n s → Has n (copy_slots s i a t o).store
  slots_have s i a t None h = h
  slots_have s i a t (Some slots) h = h

  bytes_have : (s : Store) (i a : ℕ) (x : Memory) (o : Option (List ℕ)) → Has n s → Has n (copy_bytes s i a x o).store
  bytes_have s i a x None h = h
  bytes_have s i a x (Some bytes) h = length-set s.mems a (record x { bytes = bytes }) ∙ h

  elem_has : (value : ConstExpr → Option Val) (s : Store) (x : PlacedSegment ElemSeg) (mode : ElemMode) → Has n s → Has n (run_elem_with value s x mode).store
  elem_has value s x elem.Passive h = h
  elem_has value s x elem.Declarative h = h
  elem_has value s x (elem.Active y offset) h =
      filled_then s (value offset >>= num_of W32) _ h (λ k. filled_then s (slice_get x.inst.tables y) _ h (λ a. filled_then s (slice_get s.tables a) _ h (λ t. filled_then s (slice_get s.elems x.address) _ h (λ e. slots_have s x.address a t (overwrite t.slots k e.items) h))))

  data_has : (value : ConstExpr → Option Val) (s : Store) (x : PlacedSegment DataSeg) (mode : DataMode) → Has n s → Has n (run_data_with value s x mode).store
  data_has value s x data'.Passive h = h
  data_has value s x (data'.Active y offset) h =
      filled_then s (value offset >>= num_of W32) _ h (λ k. filled_then s (slice_get x.inst.mems y) _ h (λ a. filled_then s (slice_get s.mems a) _ h (λ t. filled_then s (slice_get s.datas x.address) _ h (λ d. bytes_have s x.address a t (overwrite t.bytes k d.bytes) h))))

  elem_mode_has : (s : State) (x : PlacedSegment ElemSeg) (mode : ElemMode) → x.segment.mode ≡ mode → Has n s.store → StageHas (with_elem_mode m s x mode)
  elem_mode_has s x elem.Passive e h = h
  elem_mode_has s x elem.Declarative e h = h
  elem_mode_has s x (elem.Active y offset) e h = tried_has (first_held (elem_tests m s y offset (run_elem_with (value_in m) s.store x x.segment.mode))) _ (elem_has (value_in m) s.store x x.segment.mode h)

  data_mode_has : (s : State) (x : PlacedSegment DataSeg) (mode : DataMode) → x.segment.mode ≡ mode → Has n s.store → StageHas (with_data_mode m s x mode)
  data_mode_has s x data'.Passive e h = h
  data_mode_has s x (data'.Active y offset) e h =
      let filled = run_data_with (value_in m) s.store x x.segment.mode in
      let touched = Gives (Bytes y (place_in m offset) (length x.segment.bytes)) in
      tried_has (first_held (data_tests m s y offset filled touched)) (Finished (record s { store = filled.store; written = written_after s.written touched })) (data_has (value_in m) s.store x x.segment.mode h)

  each_has : {A : Type 0} (f : State → A → Stage) → ((s : State) (x : A) → Has n s.store → StageHas (f s x)) → (xs : List A) (t : Stage) → StageHas t → StageHas (in_order f t xs)
  each_has f k [] (Finished s) h = h
  each_has f k [] (Stopped x left) h = tt
  each_has f k [] (Going s es) h = h
  each_has f k (x ∷ xs) (Finished s) h = each_has f k xs (f s x) (k s x h)
  each_has f k (x ∷ xs) (Stopped y left) h = tt
  each_has f k (x ∷ xs) (Going s es) h = h

  filled_has : (turns : ℕ) (o : Option State) → ((s : State) → o ≡ Some s → Has n s.store) → StageHas (filled_from m turns o)
  filled_has turns None k = tt
  filled_has turns (Some s) k =
      let elems = segments_in 0 (own_inst m) (own_inst m).elems m.elems in
      each_has (with_data m) (λ t x h. data_mode_has t x x.segment.mode refl h) (segments_in 0 (own_inst m) (own_inst m).datas m.datas) (in_order (with_elem m) (Finished s) elems)
      (each_has (with_elem m) (λ t x h. elem_mode_has t x x.segment.mode refl h) elems (Finished s) (k s refl))

-- The store before any segment is copied has as many memories as the module.
first_has : (m : Module) (turns : ℕ) (s : State) → state_at_first m turns ≡ Some s → Has (length (memories_of m)) s.store
first_has m turns s e =
    let value = value_in m in
    let t = and_then_is (store_with value m (own_inst m)) _ s e in
    let fs = and_then_is (all_there (new_func (own_inst m)) m.funcs) _ t.0 t.1 in
    let gs = and_then_is (all_there (global_with value) m.globals) _ t.0 fs.2 in
    let es = and_then_is (all_there (elems_with value) m.elems) _ t.0 gs.2 in
    let defined : length m.mems ≡ length t.0.mems = sym (length-map m.mems (λ l. record { most = l.max; pages = l.min; bytes = copies (65536 * l.min) 0 })) ∙ ap (λ (x : Store). length x.mems) (same_Some _ t.0 es.2) in
    let imported = length-map {B = Memory} (imported_memories m.imports) (λ l. record { most = l.max; pages = 0; bytes = [] }) in
    let all = length-append (imported_store m).mems t.0.mems in
    let both = length-append (imported_memories m.imports) m.mems in
    let joined : length (joined_stores (imported_store m) t.0).mems ≡ length s.store.mems = ap (λ (x : State). length x.store.mems) (same_Some _ s t.2) in
    omega (arith, defined, imported, all, both, joined)

instantiated_has : (m : Module) (turns : ℕ) → StageHas m (length (memories_of m)) (instantiated m turns)
instantiated_has m turns = by (nat_lt 1 (length (memories_of m))) (filled_has m (length (memories_of m)) turns (state_at_first m turns) (λ s e. first_has m turns s e))
  where
    by : (b : Bool) → StageHas m (length (memories_of m)) (filled_from m turns (state_at_first m turns)) → StageHas m (length (memories_of m)) (cond b (Stopped why.Memory turns) (filled_from m turns (state_at_first m turns)))
    by true h = tt
    by false h = h

evaluated_has : (m : Module) (turns : ℕ) (funcs : List ℕ) (s : State) → evaluated_within m turns funcs ≡ Finished s → length s.store.mems ≡ length (memories_of m)
evaluated_has m turns funcs s e =
    let n = length (memories_of m) in
    subst (StageHas m n) e (called_have m n funcs (after_start m (instantiated m turns) m.start) (started_has m n (instantiated m turns) m.start (instantiated_has m turns)))

past_end : {A : Type 0} (xs : List A) (n : ℕ) → length xs ≡ n → slice_get xs n ≡ None
past_end [] n e = refl
past_end (x ∷ xs) zero e = absurd (cc)
past_end (x ∷ xs) (suc n) e = past_end xs n (omega (arith, e))

-- A module that defines no memory has no bytes.
pub no_bytes_there : (m : Module) (turns : ℕ) (funcs : List ℕ) (s : State) → evaluated_within m turns funcs ≡ Finished s → m.mems ≡ [] → memory_bytes m s ≡ []
no_bytes_there m turns funcs s e none =
    let many = evaluated_has m turns funcs s e in
    let both = length-append (imported_memories m.imports) m.mems in
    let no = ap length none in
    let same : length s.store.mems ≡ length (imported_memories m.imports) = omega (arith, many, both, no) in
    ap (λ (o : Option Memory). unwrap_or (o >>= λ x. Some x.bytes) []) (past_end s.store.mems (length (imported_memories m.imports)) same)
