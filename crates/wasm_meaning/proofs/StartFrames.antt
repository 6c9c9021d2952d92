-- A start depends only on its own frames, not on the entries below them.
use Rattle.base_lists.proofs.Common.{◌≡◌, ℕ, List, [], ◌∷◌, ◌++◌, length, Option, Some, Bool, true, false, slice_get, refl, ap, subst, nat_eq, then_same}
use Rattle.base_lists.specs.Related.{OptRel, none, some}
use Rattle.base_lists.proofs.Related.{either_rel}
use Rattle.wasm_tree_spec.specs.Prelude.{ValType, FuncType}
use Rattle.wasm_num.specs.Operations.{W32}
use Rattle.wasm_meaning.specs.Prelude.{Outcome, Gives, bind, overwrite, or_ill_typed, Pair, FuncRef, Val, Num, Ref, Func, Code, Own, Placeholder, Store, Change, Keep, SetGlobal, SetMemory, SetTable, DropElem, DropData, Growth, GrowMemory, GrowTable, Level, Frame, Entry, Running, Caller, Host}
use Rattle.wasm_meaning.specs.Prelude.{Starter, Mark, Opening, Waiting, Ended, Growing, Act, Goes, Calls, AsksGrow, Ends, Next, Ran, CallsOwn, WaitsGrowth, CallsPlaceholder, EndsCall, pop_typed, null_of, with_values, memory_may_grow, table_may_grow, type_at, act, frame_of, give_levels, give, enter}
use Rattle.wasm_meaning.specs.Prelude.{enter_at, changed, perform, to_mark, Shown, ExternalValue, FuncAt, TableAt, MemoryAt, GlobalAt, func_of, received, received_ref, received_all, Move, Call, Invoke, Take, Answer, Refuse, Grant, Deny, Get, Size, Set, Extend, Phase, Run, Out, Transition, Steps}
use Rattle.wasm_meaning.specs.Prelude.{Makes, made, viewed_at, place_at, show_all, trapped_to, run_after, called, is_mark, delivered, answered, refused, grown_table, granted, decided, shows, got, size_of, does, byte_of, set, extended, moved, at_entries, or_bad, next_move, tick, IsBottom}
use Rattle.wasm_meaning.specs.Prelude.{GivesNothing, a_frame, a_call, over, AgreeOnFrames, ended, trapped, ResRel, done, trap, wrong}
use Rattle.wasm_meaning.proofs.Outcomes.{bind_same}
use Rattle.wasm_meaning.specs.Run.{show, grown_memory}
use Rattle.wasm_meaning.specs.StartFrames.{goes_on}

-- ---- entries ----

same_top : {f g : Frame} {es : List Entry} → g.results ≡ f.results → GivesNothing (Running f ∷ es) → GivesNothing (Running g ∷ es)
same_top e (a_frame n) = a_frame (rw e n)
same_top e (over o g) = over refl g

funcs_stay : (s : Store) (c : Change) → (changed s c).funcs ≡ s.funcs
funcs_stay s Keep = refl
funcs_stay s (SetGlobal a g) = refl
funcs_stay s (SetMemory a m) = refl
funcs_stay s (SetTable a t) = refl
funcs_stay s (DropElem a) = refl
funcs_stay s (DropData a) = refl

abbrev by_host : Caller → Bool
by_host Host = true
by_host Starter = false

abbrev waits_host : Outcome (Caller × List Entry) → Bool
waits_host (Gives w) = by_host w.0
waits_host _ = false

-- If the caller is a start, the topmost entry is not the mark of a call of the embedder.
unmarked : (cs : List Entry) → to_mark cs ≡ Gives (Starter, []) → is_mark cs ≡ false
unmarked [] e = refl
unmarked (Running f ∷ es) e = refl
unmarked (Mark ∷ es) e = ap waits_host e
unmarked (Opening xs ∷ es) e = refl
unmarked (Waiting ts ∷ es) e = refl
unmarked (Ended vs ∷ es) e = refl
unmarked (Growing g ∷ es) e = refl

module _ (cs ds : List Entry) (low : IsBottom cs) (other : IsBottom ds) (p q : Phase) where
  -- The two runs that have these entries, with different entries below them.
  abbrev first : Run → List Entry → Run
  first r es = record r { entries = es ++ cs; phase = p }

  abbrev second : Run → List Entry → Run
  second r es = record r { entries = es ++ ds; phase = q }

  abbrev Alike : List Func → Out → Out → Type 0
  Alike = AgreeOnFrames cs ds p q

  data NextRel (funcs : List Func) : Next → Next → Type 0 where
    ran : {s : Store} (es : List Entry) → s.funcs ≡ funcs → GivesNothing es → NextRel funcs (Ran s (es ++ cs)) (Ran s (es ++ ds))
    ran_out : {s : Store} → s.funcs ≡ funcs → NextRel funcs (Ran s cs) (Ran s ds)
    calls_own : {pair : Pair} {ty : FuncType} {vs : List Val} {s : Store} (es : List Entry) → s.funcs ≡ funcs → GivesNothing es → NextRel funcs (CallsOwn pair ty vs s (es ++ cs)) (CallsOwn pair ty vs s (es ++ ds))
    waits : {g : Growth} {size count : ℕ} {s : Store} (es : List Entry) → s.funcs ≡ funcs → GivesNothing es → NextRel funcs (WaitsGrowth g size count s (es ++ cs)) (WaitsGrowth g size count s (es ++ ds))
    placeholder : {slot : ℕ} {vs : List Val} {s : Store} (es : List Entry) → s.funcs ≡ funcs → GivesNothing es → NextRel funcs (CallsPlaceholder slot vs s (es ++ cs)) (CallsPlaceholder slot vs s (es ++ ds))
    ends_call : {vs : List Val} {s : Store} (es : List Entry) → s.funcs ≡ funcs → GivesNothing es → NextRel funcs (EndsCall vs s (es ++ cs)) (EndsCall vs s (es ++ ds))

  -- ---- what a step of the machine comes to ----

  give_levels_below : (s : Store) (vs : List Val) (f : Frame) (ls : List Level) (es : List Entry) → GivesNothing (Running f ∷ es) → ResRel (NextRel s.funcs) (give_levels s vs f ls (es ++ cs)) (give_levels s vs f ls (es ++ ds))
  give_levels_below s vs f [] es g = wrong
  give_levels_below s vs f (l ∷ ls) es g = done (ran (_ ∷ es) refl (same_top refl g))

  give_below : (s : Store) (vs : List Val) {es : List Entry} → GivesNothing es → ResRel (NextRel s.funcs) (give s vs (es ++ cs)) (give s vs (es ++ ds))
  give_below s vs (a_frame {f = f} n) = give_levels_below s vs f f.levels [] (a_frame n)
  give_below s vs a_call = wrong
  give_below s vs (over {e = Running f} {es = es} o g) = give_levels_below s vs f f.levels es (over refl g)
  give_below s vs (over {e = Mark} {es = es} o g) = done (ends_call es refl g)
  give_below s vs (over {e = Opening xs} o g) = cc
  give_below s vs (over {e = Waiting ts} o g) = wrong
  give_below s vs (over {e = Ended ws} o g) = wrong
  give_below s vs (over {e = Growing x} o g) = wrong

  -- The lowest frame of a start gives no values.
  ends_lowest : (s : Store) {ts : List ValType} (vs : List Val) → ts ≡ [] → ResRel (NextRel s.funcs) (bind (pop_typed ts vs) (λ w. give s w.0 cs)) (bind (pop_typed ts vs) (λ w. give s w.0 ds))
  ends_lowest s vs n = rw (n, low.gives s, other.gives s) (done (ran_out refl))

  enter_below : (s : Store) (f : Func) (vs : List Val) (es : List Entry) → GivesNothing es → NextRel s.funcs (enter s f vs (es ++ cs)) (enter s f vs (es ++ ds))
  enter_below s (Code t i ls c) vs es g = ran (_ ∷ es) refl (over refl g)
  enter_below s (Own pair t) vs es g = calls_own (_ ∷ es) refl (over refl g)
  enter_below s (Placeholder n t) vs es g = placeholder es refl g

  enter_at_below : (s : Store) (a : ℕ) (vs : List Val) (es : List Entry) → GivesNothing es → ResRel (NextRel s.funcs) (enter_at s a vs (es ++ cs)) (enter_at s a vs (es ++ ds))
  enter_at_below s a vs es g = bind_same (or_ill_typed (slice_get s.funcs a)) (λ f. done (enter_below s f vs es g))

  ends_below : (s : Store) (f : Frame) (es : List Entry) (vs : List Val) → GivesNothing (Running f ∷ es) → ResRel (NextRel s.funcs) (perform s f (es ++ cs) (Ends vs)) (perform s f (es ++ ds) (Ends vs))
  ends_below s f _ vs (a_frame n) = ends_lowest s vs n
  ends_below s f es vs (over o g) = bind_same (pop_typed f.results vs) (λ w. give_below s w.0 g)

  perform_below : (s : Store) (f : Frame) (es : List Entry) → GivesNothing (Running f ∷ es) → (x : Act) → ResRel (NextRel s.funcs) (perform s f (es ++ cs) x) (perform s f (es ++ ds) x)
  perform_below s f es g (Goes c h) = done (ran (Running (frame_of f h) ∷ es) (funcs_stay s c) (same_top refl g))
  perform_below s f es g (Calls a vs h) = bind_same (or_ill_typed (type_at s a)) (λ t. bind_same (pop_typed t.params vs) (λ w. enter_at_below s a w.0 (Running (frame_of f (with_values h w.1)) ∷ es) (same_top refl g)))
  perform_below s f es g (AsksGrow x m n h) = done (waits (Growing x ∷ Running (frame_of f h) ∷ es) refl (over refl (same_top refl g)))
  perform_below s f es g (Ends vs) = ends_below s f es vs g

  -- ---- what follows it ----

  data MarkRel : Outcome (Caller × List Entry) → Outcome (Caller × List Entry) → Type 0 where
    at_mark : (es : List Entry) → GivesNothing es → MarkRel (Gives (Host, es ++ cs)) (Gives (Host, es ++ ds))
    at_opening : MarkRel (Gives (Starter, [])) (Gives (Starter, []))

  to_mark_low : MarkRel (to_mark cs) (to_mark ds)
  to_mark_low = rw (low.traps, other.traps) at_opening

  to_mark_below : {es : List Entry} → GivesNothing es → MarkRel (to_mark (es ++ cs)) (to_mark (es ++ ds))
  to_mark_below (a_frame n) = to_mark_low
  to_mark_below a_call = to_mark_low
  to_mark_below (over {e = Running f} o g) = to_mark_below g
  to_mark_below (over {e = Mark} {es = es} o g) = at_mark es g
  to_mark_below (over {e = Opening xs} o g) = cc
  to_mark_below (over {e = Waiting ts} o g) = to_mark_below g
  to_mark_below (over {e = Ended ws} o g) = to_mark_below g
  to_mark_below (over {e = Growing x} o g) = to_mark_below g

  trapped_below : {funcs : List Func} {o u : Outcome (Caller × List Entry)} (r : Run) (es : List Entry) → r.store.funcs ≡ funcs → MarkRel o u → Alike funcs (trapped_to (first r es) o) (trapped_to (second r es) u)
  trapped_below r es n (at_mark fs g) = goes_on r fs n g
  trapped_below r es n at_opening = trapped r

  after_below : {o u : Outcome Next} (r : Run) (es : List Entry) → GivesNothing es → ResRel (NextRel r.store.funcs) o u → Alike r.store.funcs (run_after (first r es) o) (run_after (second r es) u)
  after_below r es g trap = trapped_below r es refl (to_mark_below g)
  after_below r es g wrong = trapped_below r es refl (to_mark_below g)
  after_below r es g (done (ran {s = s} fs n h)) = goes_on (record r { store = s }) fs n h
  after_below r es g (done (ran_out {s = s} n)) = ended (record r { store = s }) n
  after_below r es g (done (calls_own {vs = vs} {s = s} fs n h)) = goes_on (record r { store = s; shown = (show_all s r.shown vs).1 }) fs n h
  after_below r es g (done (waits {s = s} fs n h)) = goes_on (record r { store = s }) fs n h
  after_below r es g (done (placeholder {s = s} fs n h)) = trapped_below (record r { store = s }) fs n (to_mark_below h)
  after_below r es g (done (ends_call {vs = vs} {s = s} fs n h)) = goes_on (record r { store = s; shown = (show_all s r.shown vs).1 }) fs n h

  -- ---- moves ----

  -- Two transitions are related if both are steps of the machine with related outcomes, or both
  -- make outputs that agree.
  data Turn (funcs : List Func) : Transition → Transition → Type 0 where
    steps : {o u : Outcome Next} (r : Run) (es : List Entry) → r.store.funcs ≡ funcs → GivesNothing es → ResRel (NextRel r.store.funcs) o u → Turn funcs (Steps (first r es) o) (Steps (second r es) u)
    makes : {o u : Out} → Alike funcs o u → Turn funcs (Makes o) (Makes u)

  made_below : {funcs : List Func} {t u : Transition} → Turn funcs t u → Alike funcs (made t) (made u)
  made_below (steps {o = o} {u = u} r es n g x) = subst (λ fs. Alike fs (run_after (first r es) o) (run_after (second r es) u)) n (after_below r es g x)
  made_below (makes x) = x

  abbrev Moved : Run → Option Transition → Option Transition → Type 0
  Moved r = OptRel (Turn r.store.funcs)

  called_below : (r : Run) (es fs : List Entry) → GivesNothing es → GivesNothing fs → (xs : List Shown) (a : ℕ) → Moved r (called (first r es) (fs ++ cs) xs a) (called (second r es) (fs ++ ds) xs a)
  called_below r es fs g h xs a = then_same (type_at r.store a) (λ t. then_same (received_all r.owned r.shown t.params xs) (λ vs. some (steps r es refl g (enter_at_below r.store a vs fs h))))

  delivered_low : (r : Run) (es : List Entry) → GivesNothing es → Turn r.store.funcs (delivered (first r es) [] cs) (delivered (second r es) [] ds)
  delivered_low r es g = rw (unmarked cs low.traps, unmarked ds other.traps, low.gives r.store, other.gives r.store) (steps r es refl g (done (ran_out refl)))

  delivered_below : (r : Run) (es : List Entry) → GivesNothing es → (vs : List Val) {fs : List Entry} → GivesNothing fs → Turn r.store.funcs (delivered (first r es) vs (fs ++ cs)) (delivered (second r es) vs (fs ++ ds))
  delivered_below r es g vs (a_frame n) = steps r es refl g (give_below r.store vs (a_frame n))
  delivered_below r es g vs a_call = steps r es refl g wrong
  delivered_below r es g vs (over {e = Running f} o h) = steps r es refl g (give_below r.store vs (over {e = Running f} refl h))
  delivered_below r es g vs (over {e = Mark} {es = fs} o h) = makes (goes_on r (Ended vs ∷ Mark ∷ fs) refl (over refl (over refl h)))
  delivered_below r es g vs (over {e = Opening xs} o h) = cc
  delivered_below r es g vs (over {e = Waiting ts} o h) = steps r es refl g wrong
  delivered_below r es g vs (over {e = Ended ws} o h) = steps r es refl g wrong
  delivered_below r es g vs (over {e = Growing x} o h) = steps r es refl g wrong

  answered_lowest : (r : Run) (es : List Entry) → GivesNothing es → (xs : List Shown) → Moved r (answered (first r es) xs (Waiting [] ∷ cs)) (answered (second r es) xs (Waiting [] ∷ ds))
  answered_lowest r es g [] = some (delivered_low r es g)
  answered_lowest r es g (x ∷ xs) = none

  answered_below : (r : Run) (es : List Entry) → GivesNothing es → (xs : List Shown) {fs : List Entry} → GivesNothing fs → Moved r (answered (first r es) xs (fs ++ cs)) (answered (second r es) xs (fs ++ ds))
  answered_below r es g xs (a_frame n) = none
  answered_below r es g xs a_call = answered_lowest r es g xs
  answered_below r es g xs (over {e = Running f} o h) = none
  answered_below r es g xs (over {e = Mark} o h) = none
  answered_below r es g xs (over {e = Opening ys} o h) = none
  answered_below r es g xs (over {e = Waiting ts} o h) = then_same (received_all r.owned r.shown ts xs) (λ vs. some (delivered_below r es g vs h))
  answered_below r es g xs (over {e = Ended ws} o h) = none
  answered_below r es g xs (over {e = Growing x} o h) = none

  refused_below : (r : Run) (es : List Entry) → GivesNothing es → {fs : List Entry} → GivesNothing fs → Moved r (refused (first r es) (fs ++ cs)) (refused (second r es) (fs ++ ds))
  refused_below r es g (a_frame n) = none
  refused_below r es g a_call = some (steps r es refl g trap)
  refused_below r es g (over {e = Running f} o h) = none
  refused_below r es g (over {e = Mark} o h) = none
  refused_below r es g (over {e = Opening ys} o h) = none
  refused_below r es g (over {e = Waiting ts} o h) = some (steps r es refl g trap)
  refused_below r es g (over {e = Ended ws} o h) = none
  refused_below r es g (over {e = Growing x} o h) = none

  granted_below : (r : Run) (es : List Entry) → GivesNothing es → (x : Growth) {fs : List Entry} → GivesNothing fs → Moved r (granted (first r es) x (fs ++ cs)) (granted (second r es) x (fs ++ ds))
  granted_below r es g (GrowMemory a n) h = then_same (slice_get r.store.mems a) (λ m. some (delivered_below (record r { store = changed r.store (SetMemory a (grown_memory m n)) }) es g (Num W32 m.pages ∷ []) h))
  granted_below r es g (GrowTable a n v) h = then_same (slice_get r.store.tables a) (λ t. some (delivered_below (record r { store = changed r.store (SetTable a (grown_table t n v)) }) es g (Num W32 (length t.slots) ∷ []) h))

  decided_below : (r : Run) (es : List Entry) → GivesNothing es → (m : Move) (x : Growth) {fs : List Entry} → GivesNothing fs → Moved r (decided (first r es) m x (fs ++ cs)) (decided (second r es) m x (fs ++ ds))
  decided_below r es g Grant x h = granted_below r es g x h
  decided_below r es g Deny x h = some (delivered_below r es g (Num W32 4294967295 ∷ []) h)
  decided_below r es g (Call name xs) x h = none
  decided_below r es g _ x h = none

  shows_below : (r : Run) (es : List Entry) → GivesNothing es → (v : Val) → Moved r (shows (first r es) v) (shows (second r es) v)
  shows_below r es g v = some (makes (goes_on (record r { shown = (show r.store r.shown v).1 }) es refl g))

  got_below : (r : Run) (es : List Entry) → GivesNothing es → (x : ExternalValue) (n : ℕ) → Moved r (got (first r es) x n) (got (second r es) x n)
  got_below r es g (FuncAt a) n = none
  got_below r es g (TableAt a) n = then_same (slice_get r.store.tables a) (λ t. then_same (slice_get t.slots n) (λ v. shows_below r es g (Ref v)))
  got_below r es g (MemoryAt a) n = then_same (slice_get r.store.mems a) (λ m. then_same (slice_get m.bytes n) (λ b. shows_below r es g (Num W32 b)))
  got_below r es g (GlobalAt a) n = then_same (slice_get r.store.globals a) (λ v. either_rel (nat_eq n 0) (shows_below r es g v.value) none)

  size_below : (r : Run) (es : List Entry) → GivesNothing es → (x : ExternalValue) → Moved r (size_of (first r es) x) (size_of (second r es) x)
  size_below r es g (FuncAt a) = none
  size_below r es g (TableAt a) = then_same (slice_get r.store.tables a) (λ t. shows_below r es g (Num W32 (length t.slots)))
  size_below r es g (MemoryAt a) = then_same (slice_get r.store.mems a) (λ m. shows_below r es g (Num W32 m.pages))
  size_below r es g (GlobalAt a) = then_same (slice_get r.store.globals a) (λ v. shows_below r es g (Num W32 1))

  does_below : (r : Run) (es : List Entry) → GivesNothing es → (c : Change) → Moved r (does (first r es) c) (does (second r es) c)
  does_below r es g c = some (makes (goes_on (record r { store = changed r.store c }) es (funcs_stay r.store c) g))

  set_below : (r : Run) (es : List Entry) → GivesNothing es → (x : ExternalValue) (n : ℕ) (v : Shown) → Moved r (set (first r es) x n v) (set (second r es) x n v)
  set_below r es g (FuncAt a) n v = none
  set_below r es g (TableAt a) n v = then_same (slice_get r.store.tables a) (λ t. then_same (received_ref r.owned r.shown t.ty v) (λ w. then_same (overwrite t.slots n (w ∷ [])) (λ slots. does_below r es g (SetTable a (record t { slots = slots })))))
  set_below r es g (MemoryAt a) n v = then_same (slice_get r.store.mems a) (λ m. then_same (byte_of v) (λ b. then_same (overwrite m.bytes n (b ∷ [])) (λ bytes. does_below r es g (SetMemory a (record m { bytes = bytes })))))
  set_below r es g (GlobalAt a) n v = then_same (slice_get r.store.globals a) (λ x. either_rel (nat_eq n 0) (either_rel x.ty.mutable (then_same (received r.owned r.shown x.ty.ty v) (λ w. does_below r es g (SetGlobal a (record x { value = w })))) none) none)

  extended_below : (r : Run) (es : List Entry) → GivesNothing es → (x : ExternalValue) (n : ℕ) → Moved r (extended (first r es) x n) (extended (second r es) x n)
  extended_below r es g (FuncAt a) n = none
  extended_below r es g (TableAt a) n = then_same (slice_get r.store.tables a) (λ t. either_rel (table_may_grow t n) (does_below r es g (SetTable a (grown_table t n (null_of t.ty)))) none)
  extended_below r es g (MemoryAt a) n = then_same (slice_get r.store.mems a) (λ m. either_rel (memory_may_grow m n) (does_below r es g (SetMemory a (grown_memory m n))) none)
  extended_below r es g (GlobalAt a) n = none

  moved_below : (r : Run) (es : List Entry) → GivesNothing es → (m : Move) → Moved r (moved (first r es) m) (moved (second r es) m)
  moved_below r es g (Call name xs) = then_same (viewed_at r name) (λ x. then_same (func_of x) (called_below r es (Mark ∷ es) g (over refl g) xs))
  moved_below r es g (Invoke number xs) = then_same (slice_get r.shown number) (called_below r es (Mark ∷ es) g (over refl g) xs)
  moved_below r es g (Take name) = then_same (viewed_at r name) (λ x. then_same (func_of x) (λ a. shows_below r es g (Ref (FuncRef (Some a)))))
  moved_below r es g (Answer xs) = answered_below r es g xs g
  moved_below r es g Refuse = refused_below r es g g
  moved_below r es g Grant = none
  moved_below r es g Deny = none
  moved_below r es g (Get x n) = then_same (place_at r x) (λ t. got_below r es g t n)
  moved_below r es g (Size x) = then_same (place_at r x) (size_below r es g)
  moved_below r es g (Set x n v) = then_same (place_at r x) (λ t. set_below r es g t n v)
  moved_below r es g (Extend x n) = then_same (place_at r x) (λ t. extended_below r es g t n)

  at_entries_below : (r : Run) (es : List Entry) → GivesNothing es → (m : Move) {fs : List Entry} → GivesNothing fs → Moved r (at_entries (first r es) m (fs ++ cs)) (at_entries (second r es) m (fs ++ ds))
  at_entries_below r es g m (a_frame n) = moved_below r es g m
  at_entries_below r es g m a_call = moved_below r es g m
  at_entries_below r es g m (over {e = Running f} o h) = moved_below r es g m
  at_entries_below r es g m (over {e = Mark} o h) = moved_below r es g m
  at_entries_below r es g m (over {e = Opening ys} o h) = moved_below r es g m
  at_entries_below r es g m (over {e = Waiting ts} o h) = moved_below r es g m
  at_entries_below r es g m (over {e = Ended ws} o h) = moved_below r es g m
  at_entries_below r es g m (over {e = Growing x} o h) = decided_below r es g m x h

  or_bad_below : {o u : Option Transition} (r : Run) (es : List Entry) → GivesNothing es → Moved r o u → Turn r.store.funcs (or_bad (first r es) o) (or_bad (second r es) u)
  or_bad_below r es g (some x) = x
  or_bad_below r es g none = makes (goes_on r es refl g)

  next_move_below : (r : Run) (es : List Entry) → GivesNothing es → (ms : List Move) → Turn r.store.funcs (next_move (first r es) ms) (next_move (second r es) ms)
  next_move_below r es g [] = makes (goes_on r es refl g)
  next_move_below r es g (m ∷ ms) = let x = record r { moves = ms } in or_bad_below x es g (at_entries_below x es g m g)

  -- ---- one step of a run ----

  step_below : (r : Run) (f : Frame) (es : List Entry) → GivesNothing (Running f ∷ es) → Alike r.store.funcs (tick (first r (Running f ∷ es))) (tick (second r (Running f ∷ es)))
  step_below r f es g = after_below r (Running f ∷ es) g (bind_same (act r.store f) (perform_below r.store f es g))

  pub tick_below : (r : Run) {es : List Entry} → GivesNothing es → Alike r.store.funcs (tick (first r es)) (tick (second r es))
  tick_below r (a_frame {f = f} n) = step_below r f [] (a_frame n)
  tick_below r a_call = made_below (next_move_below r (Waiting [] ∷ []) a_call r.moves)
  tick_below r (over {e = Running f} {es = es} o g) = step_below r f es (over refl g)
  tick_below r (over {e = Mark} {es = es} o g) = after_below r (Mark ∷ es) (over refl g) wrong
  tick_below r (over {e = Opening xs} o g) = cc
  tick_below r (over {e = Waiting ts} {es = es} o g) = made_below (next_move_below r (Waiting ts ∷ es) (over refl g) r.moves)
  tick_below r (over {e = Ended vs} {es = es} o g) = after_below r (Ended vs ∷ es) (over refl g) (give_below r.store vs g)
  tick_below r (over {e = Growing x} {es = es} o g) = made_below (next_move_below r (Growing x ∷ es) (over refl g) r.moves)
