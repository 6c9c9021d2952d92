-- Each step of a run that was instantiated extends its store.
use Rattle.base_lists.proofs.Common.{◌≡◌, ℕ, List, [], ◌∷◌, Option, Some, None, Bool, true, false, cond, option_and_then, slice_get, refl, sym, subst, ◌∙◌, arith, nat_eq, length-append, with_there, either_all, overwritten_length}
use Rattle.wasm_meaning.specs.Prelude.{Outcome, Gives, Traps, IllTyped, bind, overwrite, copies, Val, RefVal, Ref, Table, Memory, Global, Func, Code, Own, Placeholder, Store, Level, Frame, Entry, Running, Caller, Host, Starter, Mark, Opening, Waiting, Ended, Growing, Growth, GrowMemory, GrowTable}
use Rattle.wasm_meaning.specs.Prelude.{Change, SetGlobal, Act, Goes, Calls, AsksGrow, Ends, Next, Ran, CallsOwn, WaitsGrowth, CallsPlaceholder, EndsCall, Inst, pop_typed, null_of, memory_may_grow, table_may_grow, type_at, func_ref, changed, give_levels, give, enter, enter_at, act, perform, step}
use Rattle.wasm_meaning.specs.Prelude.{to_mark, Shown, ExternalValue, FuncAt, TableAt, MemoryAt, GlobalAt, func_of, received, received_ref, received_all, Filled, LoaderWorld, placeholders_of, transition, Move, Call, Invoke, Take, Answer, Refuse, Grant, Deny, Get, Size, Set, Extend, Phase, Fresh}
use Rattle.wasm_meaning.specs.Prelude.{Pending, Opened, Closed, Run, Transition, Steps, Makes, made, viewed_at, place_at, trapped_to, run_after, called, is_mark, delivered, answered, refused, grown_table, granted, decided, shows, got, size_of, does, byte_of, set, extended, moved, at_entries, or_bad}
use Rattle.wasm_meaning.specs.Prelude.{or_closed, next_move, nothing_in, open_next, is_taken_closed, closed_move, in_phase, transition_at, StepsWriteWhatTheyTouch}
use Rattle.wasm_tree_spec.specs.Prelude.{same_func_type}
use Rattle.wasm_meaning.specs.Loader.{call_answered}
use Rattle.wasm_meaning.specs.Run.{grown_memory, with_change}
use Rattle.run_simulation.specs.Prelude.{IsBegun}
use Rattle.base_lists.specs.Related.{IfThere, absent, present}
use Rattle.world_simulation.specs.StoreExtension.{TableExtends, MemoryExtends, Extends, RunExtends, StepsExtend, CallsExtend}
use Rattle.world_simulation.proofs.StoreExtension.{stays, and_then, Extending, global, memory, table, changed_extends}
use Rattle.world_simulation.proofs.FrameStepExtension.{Grows, act_all}
use Rattle.wasm_meaning.proofs.Outcomes.{with_is, with_found, cond_all, ill_typed, AllOf, stopped, just}

-- The store that a step leaves.
abbrev pub store_of : Next → Store
store_of (Ran s es) = s
store_of (CallsOwn p t vs s es) = s
store_of (WaitsGrowth g m n s es) = s
store_of (CallsPlaceholder n vs s es) = s
store_of (EndsCall vs s es) = s

abbrev pub Leaves : Store → Outcome Next → Type 0
Leaves s = AllOf (λ n. Extends s (store_of n))

enter_leaves : (s : Store) (f : Func) (vs : List Val) (es : List Entry) → Extends s (store_of (enter s f vs es))
enter_leaves s (Code t i ls c) vs es = stays s
enter_leaves s (Own p t) vs es = stays s
enter_leaves s (Placeholder n t) vs es = stays s

enter_at_leaves : (s : Store) (a : ℕ) (vs : List Val) (es : List Entry) → Leaves s (enter_at s a vs es)
enter_at_leaves s a vs es = with_found (slice_get s.funcs a) _ (λ f _. just (enter_leaves s f vs es))

give_leaves : (s : Store) (vs : List Val) (es : List Entry) → Leaves s (give s vs es)
give_leaves s vs [] = ill_typed
give_leaves s vs (Running f ∷ es) = go f.levels
  where
    go : (ls : List Level) → Leaves s (give_levels s vs f ls es)
    go [] = ill_typed
    go (l ∷ ls) = just (stays s)
give_leaves s vs (Mark ∷ es) = just (stays s)
give_leaves s vs (Opening xs ∷ es) = just (stays s)
give_leaves s vs (Waiting ts ∷ es) = ill_typed
give_leaves s vs (Ended ws ∷ es) = ill_typed
give_leaves s vs (Growing g ∷ es) = ill_typed

perform_leaves : (s : Store) (f : Frame) (es : List Entry) (x : Act) → Grows s x → Leaves s (perform s f es x)
perform_leaves s f es (Goes c h) g = just (changed_extends g)
perform_leaves s f es (Calls a vs h) g = with_found (type_at s a) _ (λ t _. with_is (pop_typed t.params vs) _ (λ p _. enter_at_leaves s a p.0 _))
perform_leaves s f es (AsksGrow k m n h) g = just (stays s)
perform_leaves s f es (Ends vs) g = with_is (pop_typed f.results vs) _ (λ p _. give_leaves s p.0 es)

step_leaves : StepsWriteWhatTheyTouch → (s : Store) (f : Frame) (es : List Entry) → Leaves s (step s (Running f ∷ es))
step_leaves writes s f es = go (act s f) (act_all writes s f)
  where
    go : (o : Outcome Act) → AllOf (Grows s) o → Leaves s (bind o (perform s f es))
    go Traps h = stopped
    go IllTyped h = ill_typed
    go (Gives x) (just g) = perform_leaves s f es x g

-- ---- runs ----

-- A transition that is a step of the machine is one of a run in this phase.
abbrev InPhase : Phase → Transition → Type 0
InPhase p (Steps q o) = q.phase ≡ p
InPhase p (Makes o) = Unit {0}

abbrev Both : Run → Transition → Type 0
Both r t = RunExtends r (made t) × InPhase r.phase t

abbrev All : Run → Option Transition → Type 0
All r = IfThere (Both r)

trapped_kept : (r : Run) (s : Store) (es : List Entry) (o : Outcome (Caller × List Entry)) → Extends r.store s → RunExtends r (trapped_to (record r { store = s; entries = es }) o)
trapped_kept r s es Traps h = record { store = h; owned = refl; begun = λ b. b }
trapped_kept r s es IllTyped h = record { store = h; owned = refl; begun = λ b. b }
trapped_kept r s es (Gives (Host, fs)) h = record { store = h; owned = refl; begun = λ b. b }
trapped_kept r s es (Gives (Starter, fs)) h = record { store = h; owned = refl; begun = λ b. tt }

pub after_kept : (r : Run) (o : Outcome Next) → Leaves r.store o → RunExtends r (run_after r o)
after_kept r (Gives (Ran s es)) (just h) = record { store = h; owned = refl; begun = λ b. b }
after_kept r (Gives (CallsOwn p t vs s es)) (just h) = record { store = h; owned = refl; begun = λ b. b }
after_kept r (Gives (WaitsGrowth g m n s es)) (just h) = record { store = h; owned = refl; begun = λ b. b }
after_kept r (Gives (CallsPlaceholder n vs s es)) (just h) = trapped_kept r s es (to_mark es) h
after_kept r (Gives (EndsCall vs s es)) (just h) = record { store = h; owned = refl; begun = λ b. b }
after_kept r Traps h = trapped_kept r r.store r.entries (to_mark r.entries) (stays r.store)
after_kept r IllTyped h = trapped_kept r r.store r.entries (to_mark r.entries) (stays r.store)

called_all : (r : Run) (es : List Entry) (xs : List Shown) (a : ℕ) → All r (called r es xs a)
called_all r es xs a = with_there (type_at r.store a) _ (λ t _. with_there (received_all r.owned r.shown t.params xs) _ (λ vs _. present (after_kept r _ (enter_at_leaves r.store a vs es), refl)))

delivered_kept : (r : Run) (vs : List Val) (es : List Entry) → Both r (delivered r vs es)
delivered_kept r vs es = go (is_mark es)
  where
    go : (b : Bool) → Both r (cond b (Makes (record r { entries = Ended vs ∷ es }, None)) (Steps r (give r.store vs es)))
    go true = (record { store = stays r.store; owned = refl; begun = λ b. b }, tt)
    go false = (after_kept r _ (give_leaves r.store vs es), refl)

answered_all : (r : Run) (xs : List Shown) (es : List Entry) → All r (answered r xs es)
answered_all r xs (Waiting ts ∷ es) = with_there (received_all r.owned r.shown ts xs) _ (λ vs _. present (delivered_kept r vs es))
answered_all r xs [] = absent
answered_all r xs (Running f ∷ es) = absent
answered_all r xs (Mark ∷ es) = absent
answered_all r xs (Opening ys ∷ es) = absent
answered_all r xs (Ended vs ∷ es) = absent
answered_all r xs (Growing g ∷ es) = absent

refused_all : (r : Run) (es : List Entry) → All r (refused r es)
refused_all r (Waiting ts ∷ es) = present (after_kept r Traps stopped, refl)
refused_all r [] = absent
refused_all r (Running f ∷ es) = absent
refused_all r (Mark ∷ es) = absent
refused_all r (Opening ys ∷ es) = absent
refused_all r (Ended vs ∷ es) = absent
refused_all r (Growing g ∷ es) = absent

module _ (r : Run) where
  memory_grown : (m : Memory) (n : ℕ) → MemoryExtends m (grown_memory m n)
  memory_grown m n = record { most = refl; size = omega arith }

  table_grown : (t : Table) (n : ℕ) (v : RefVal) → TableExtends t (grown_table t n v)
  table_grown t n v = let l = length-append t.slots (copies n v) in record { type = refl; most = refl; size = omega (arith, l) }

  -- What is delivered after a change that extends the store.
  after_change : (c : Change) (vs : List Val) (es : List Entry) → Extending r.store c → Both r (delivered (with_change r c) vs es)
  after_change c vs es g = let d = delivered_kept (with_change r c) vs es in (record { store = and_then r.store (changed r.store c) _ (changed_extends g) d.0.store; owned = d.0.owned; begun = d.0.begun }, d.1)

  granted_all : (g : Growth) (es : List Entry) → All r (granted r g es)
  granted_all (GrowMemory a n) es = with_there (slice_get r.store.mems a) _ (λ m e. present (after_change _ _ es (memory e (memory_grown m n))))
  granted_all (GrowTable a n v) es = with_there (slice_get r.store.tables a) _ (λ t e. present (after_change _ _ es (table e (table_grown t n v))))

  decided_all : (m : Move) (g : Growth) (es : List Entry) → All r (decided r m g es)
  decided_all Grant g es = granted_all g es
  decided_all Deny g es = present (delivered_kept r _ es)
  decided_all (Call i xs) g es = absent
  decided_all (Invoke i xs) g es = absent
  decided_all (Take i) g es = absent
  decided_all (Answer xs) g es = absent
  decided_all Refuse g es = absent
  decided_all (Get p n) g es = absent
  decided_all (Size p) g es = absent
  decided_all (Set p n v) g es = absent
  decided_all (Extend p n) g es = absent

  shows_all : (v : Val) → All r (shows r v)
  shows_all v = present (record { store = stays r.store; owned = refl; begun = λ b. b }, tt)

  got_all : (x : ExternalValue) (n : ℕ) → All r (got r x n)
  got_all (FuncAt a) n = absent
  got_all (TableAt a) n = with_there (slice_get r.store.tables a) _ (λ t _. with_there (slice_get t.slots n) _ (λ v _. shows_all (Ref v)))
  got_all (MemoryAt a) n = with_there (slice_get r.store.mems a) _ (λ m _. with_there (slice_get m.bytes n) _ (λ b _. present (record { store = stays r.store; owned = refl; begun = λ b. b }, tt)))
  got_all (GlobalAt a) n = with_there (slice_get r.store.globals a) _ (λ g _. either_all (nat_eq n 0) (shows_all g.value) absent)

  size_all : (x : ExternalValue) → All r (size_of r x)
  size_all (FuncAt a) = absent
  size_all (TableAt a) = with_there (slice_get r.store.tables a) _ (λ t _. present (record { store = stays r.store; owned = refl; begun = λ b. b }, tt))
  size_all (MemoryAt a) = with_there (slice_get r.store.mems a) _ (λ m _. present (record { store = stays r.store; owned = refl; begun = λ b. b }, tt))
  size_all (GlobalAt a) = with_there (slice_get r.store.globals a) _ (λ g _. present (record { store = stays r.store; owned = refl; begun = λ b. b }, tt))

  does_all : (c : Change) → Extending r.store c → All r (does r c)
  does_all c g = present (record { store = changed_extends g; owned = refl; begun = λ b. b }, tt)

  set_all : (x : ExternalValue) (n : ℕ) (v : Shown) → All r (set r x n v)
  set_all (FuncAt a) n v = absent
  set_all (TableAt a) n v =
      with_there (slice_get r.store.tables a) _ (λ t e. with_there (received_ref r.owned r.shown t.ty v) _
      (λ w _. with_there (overwrite t.slots n (w ∷ [])) _ (λ slots is. let l = overwritten_length t.slots n (w ∷ []) slots is in does_all _ (table e (record { type = refl; most = refl; size = omega (arith, l) })))))
  set_all (MemoryAt a) n v =
      with_there (slice_get r.store.mems a) _ (λ m e. with_there (byte_of v) _ (λ b _. with_there (overwrite m.bytes n (b ∷ [])) _ (λ bytes _. does_all _ (memory e (record { most = refl; size = omega arith })))))
  set_all (GlobalAt a) n v = with_there (slice_get r.store.globals a) _ (λ g e. either_all (nat_eq n 0) (mutable g e g.ty.mutable refl) absent)
    where
      different : (true ≡ false) → ⊥
      different e = cc

      mutable : (g : Global) → slice_get r.store.globals a ≡ Some g → (b : Bool) → g.ty.mutable ≡ b → IfThere (Both r) (cond b (option_and_then (λ w. does r (SetGlobal a (record g { value = w }))) (received r.owned r.shown g.ty.ty v)) None)
      mutable g e false m = absent
      mutable g e true m = with_there (received r.owned r.shown g.ty.ty v) _ (λ w _. does_all _ (global e (record { type = refl; fixed = λ f. absurd (different (sym m ∙ f)) })))

  extended_all : (x : ExternalValue) (n : ℕ) → All r (extended r x n)
  extended_all (FuncAt a) n = absent
  extended_all (TableAt a) n = with_there (slice_get r.store.tables a) _ (λ t e. either_all (table_may_grow t n) (does_all _ (table e (table_grown t n (null_of t.ty)))) absent)
  extended_all (MemoryAt a) n = with_there (slice_get r.store.mems a) _ (λ m e. either_all (memory_may_grow m n) (does_all _ (memory e (memory_grown m n))) absent)
  extended_all (GlobalAt a) n = absent

  moved_all : (m : Move) → All r (moved r m)
  moved_all (Call name xs) = with_there (viewed_at r name) _ (λ x _. with_there (func_of x) _ (λ a _. called_all r (Mark ∷ r.entries) xs a))
  moved_all (Invoke k xs) = with_there (slice_get r.shown k) _ (λ a _. called_all r (Mark ∷ r.entries) xs a)
  moved_all (Take name) = with_there (viewed_at r name) _ (λ x _. with_there (func_of x) _ (λ a _. present (record { store = stays r.store; owned = refl; begun = λ b. b }, tt)))
  moved_all (Answer xs) = answered_all r xs r.entries
  moved_all Refuse = refused_all r r.entries
  moved_all Grant = absent
  moved_all Deny = absent
  moved_all (Get p n) = with_there (place_at r p) _ (λ x _. got_all x n)
  moved_all (Size p) = with_there (place_at r p) _ (λ x _. size_all x)
  moved_all (Set p n v) = with_there (place_at r p) _ (λ x _. set_all x n v)
  moved_all (Extend p n) = with_there (place_at r p) _ (λ x _. extended_all x n)

  at_entries_all : (m : Move) (es : List Entry) → All r (at_entries r m es)
  at_entries_all m (Growing g ∷ es) = decided_all m g es
  at_entries_all m [] = moved_all m
  at_entries_all m (Running f ∷ es) = moved_all m
  at_entries_all m (Mark ∷ es) = moved_all m
  at_entries_all m (Opening xs ∷ es) = moved_all m
  at_entries_all m (Waiting ts ∷ es) = moved_all m
  at_entries_all m (Ended vs ∷ es) = moved_all m

  or_bad_kept : (o : Option Transition) → All r o → Both r (or_bad r o)
  or_bad_kept (Some t) (present h) = h
  or_bad_kept None h = (record { store = stays r.store; owned = refl; begun = λ b. b }, tt)

  or_closed_kept : (o : Option Transition) → All r o → Both r (or_closed r o)
  or_closed_kept (Some t) (present h) = h
  or_closed_kept None h = (record { store = stays r.store; owned = refl; begun = λ b. tt }, tt)

of_moves : (r : Run) (ms : List Move) (t : Transition) → Both (record r { moves = ms }) t → Both r t
of_moves r ms t h = (record { store = h.0.store; owned = h.0.owned; begun = h.0.begun }, h.1)

next_kept : (r : Run) (ms : List Move) → Both r (next_move r ms)
next_kept r [] = (record { store = stays r.store; owned = refl; begun = λ b. b }, tt)
next_kept r (m ∷ ms) = of_moves r ms _ (or_bad_kept (record r { moves = ms }) _ (at_entries_all (record r { moves = ms }) m r.entries))

closed_kept : (r : Run) (ms : List Move) → Both r (closed_move r ms)
closed_kept r [] = (record { store = stays r.store; owned = refl; begun = λ b. b }, tt)
closed_kept r (m ∷ ms) = of_moves r ms _ (or_bad_kept (record r { moves = ms }) _ (either_all (is_taken_closed m) (moved_all (record r { moves = ms }) m) absent))

open_kept : (r : Run) (starts : List ℕ) (es : List Entry) → Both r (open_next r starts es)
open_kept r [] es = (record { store = stays r.store; owned = refl; begun = λ b. tt }, tt)
open_kept r (a ∷ starts) es = or_closed_kept r _ (with_there (type_at r.store a) _ (λ t _. with_there (nothing_in t.results) _ (λ u _. called_all r (Opening starts ∷ es) [] a)))

phase_kept : (r : Run) (p : Phase) → IsBegun p → Both r (in_phase r p)
phase_kept r (Fresh b) h = absurd h
phase_kept r (Pending view) h = (after_kept r IllTyped ill_typed, refl)
phase_kept r Opened h = next_kept r r.moves
phase_kept r Closed h = closed_kept r r.moves

transition_kept : StepsWriteWhatTheyTouch → (r : Run) (es : List Entry) → es ≡ r.entries → IsBegun r.phase → Both r (transition_at r es)
transition_kept writes r [] e h = phase_kept r r.phase h
transition_kept writes r (Running f ∷ es) e h = (after_kept r _ (subst (λ fs. Leaves r.store (step r.store fs)) e (step_leaves writes r.store f es)), refl)
transition_kept writes r (Mark ∷ es) e h = (after_kept r IllTyped ill_typed, refl)
transition_kept writes r (Opening starts ∷ es) e h = open_kept r starts es
transition_kept writes r (Waiting ts ∷ es) e h = next_kept r r.moves
transition_kept writes r (Ended vs ∷ es) e h = (after_kept r _ (give_leaves r.store vs es), refl)
transition_kept writes r (Growing g ∷ es) e h = next_kept r r.moves

pub tick_extends : StepsWriteWhatTheyTouch → StepsExtend
tick_extends writes r h = (transition_kept writes r r.entries refl h).0

-- A step of the machine that follows an instantiated run is one of an instantiated run.
pub stepping_begun : StepsWriteWhatTheyTouch → (r q : Run) (o : Outcome Next) → IsBegun r.phase → transition r ≡ Steps q o → IsBegun q.phase
stepping_begun writes r q o begun is = subst IsBegun (sym (subst (InPhase r.phase) is (transition_kept writes r r.entries refl begun).1)) begun

-- ---- up to the call of a placeholder ----

trapped_store : (r : Run) (s : Store) (es : List Entry) (o : Outcome (Caller × List Entry)) → (trapped_to (record r { store = s; entries = es }) o).0.store ≡ s
trapped_store r s es Traps = refl
trapped_store r s es IllTyped = refl
trapped_store r s es (Gives (Host, fs)) = refl
trapped_store r s es (Gives (Starter, fs)) = refl

pub call_extends : StepsWriteWhatTheyTouch → CallsExtend
call_extends writes r q slot vs s es begun is =
    subst (Extends r.store) (trapped_store q s es (to_mark es)) (subst (λ t. Extends r.store (made t).0.store) is (tick_extends writes r begun).store)

-- The call of the function in the slot of a placeholder extends the store.
pub answer_leaves : (w : LoaderWorld) (i : Inst) (slot : ℕ) (vs : List Val) (es : List Entry) (f : Filled) → Leaves f.store (call_answered w i slot vs es f)
answer_leaves w i slot vs es f =
    cond_all f.trapped stopped (with_found (slice_get (placeholders_of w) slot) _ (λ p _. with_found (slice_get i.tables w.slot_table) _ (λ a _. with_found (slice_get f.store.tables a) _ (λ t _. with_found (slice_get t.slots slot) _ (λ r _.
    with_is (func_ref r) _ (λ c _. with_found (type_at f.store c) _ (λ u _. cond_all (same_func_type p.1 u) (enter_at_leaves f.store c vs es) stopped)))))))
