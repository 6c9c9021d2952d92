-- Related runs have equal traces.
use Rattle.base_lists.proofs.Common.{◌≡◌, ℕ, List, [], ◌∷◌, Option, Some, None, Bool, true, false, cond, option_and_then, slice_get, refl, ap, subst, ◌∙◌, nat_eq, there, then_rel, then_same, get_rel, append_rel, length_rel, copies_rel, overwrite_rel}
use Rattle.wasm_tree_spec.specs.Prelude.{Functions, Memories, RefType}
use Rattle.wasm_tree.specs.declared.types.RefType.TheVariants as reft
use Rattle.wasm_num.specs.Operations.{W32}
use Rattle.wasm_meaning.specs.Prelude.{Outcome, overwrite, RefVal, Val, Num, Table, Memory, Store, Change, SetTable, Growth, Entry, Caller, Host, Starter, Opening, Ended, Growing, Next, null_of, memory_may_grow, table_may_grow, give, enter_at, step, same_text, Shown, ExternalValue, TableKey}
use Rattle.wasm_meaning.specs.Prelude.{MemoryKey, GlobalKey, same_key, func_of, received_ref, received_all, Begun, Event, InstanceTrapped, Returned, Asked, Got, Place, TableOf, MemoryOf, GlobalOf, Named, Move, Call, Invoke, Take, Answer, Refuse, Grant, Deny, Get, Size, Set, Extend, Phase, Pending}
use Rattle.wasm_meaning.specs.Prelude.{Opened, Closed, Run, Out, Transition, Steps, Makes, made, place_at, trapped_to, run_after, called, is_mark, delivered, grown_table, answered, refused, granted, decided, shows, got, size_of, does, byte_of, set, extended, moved, at_entries, or_bad, or_closed}
use Rattle.wasm_meaning.specs.Prelude.{next_move, began, nothing_in, started, open_next, is_taken_closed, closed_move, in_phase, transition_at}
use Rattle.wasm_meaning.specs.Run.{trapped_at, showing, with_change, view_of}
use Rattle.run_simulation.specs.Prelude.{Pairing, OneToOne, OptRel, none, some, ResRel, done, trap, wrong, ListRel, nil, cons, RefRel, func, extern, ValRel, number, reference, TableRel, StoreRel, mark, opening, waiting, ended, growing, ChangeRel, set_global, set_memory, set_table, GrowthRel}
use Rattle.run_simulation.specs.Prelude.{memory_grows, table_grows, NextRel, ran, asked, asked_grow, loads, returned, ExternalValueRel, a_func, a_table, a_memory, a_global, KeyRel, BegunRel, PhaseRel, fresh, pending, opened, closed, RunRel, OutRel, MoveSkips, NextMoveSkips, TickSkips}
use Rattle.run_simulation.specs.Prelude.{calls_placeholder}
use Rattle.run_simulation.proofs.RelatedOutcomes.{written}
use Rattle.base_lists.proofs.Related.{then_rel_is, either_rel, if_there_at}
use Rattle.base_lists.specs.Related.{PairRel}
use Rattle.run_simulation.proofs.PassedValues.{look_rel, func_of_rel, received_rel, received_ref_rel, received_all_rel, fits_received}
use Rattle.run_simulation.proofs.ShownValues.{show_rel, show_all_rel}
use Rattle.run_simulation.proofs.TableSteps.{may_same}
use Rattle.run_simulation.proofs.StepsAgree.{Stacks, TopView, top_none, top_mark, top_opening, top_waiting, top_ended, top_growing, top_running, changed_rel}

module _ (R : Pairing) (apart : OneToOne R) (B C : Store → Store → List Entry → List Entry → Type 0) (stacks : Stacks R (written apart) B C) (F : Store → Store → List Entry → List Entry → Type 0) (begins : (s t : Store) (es fs : List Entry) → F s t es fs → B s t es fs) where
  -- ---- the run with a part changed ----

  state_rel : {r q : Run} {s t : Store} {es fs : List Entry} → RunRel R B F r q → StoreRel R s t → B s t es fs → RunRel R B F (record r { store = s; entries = es }) (record q { store = t; entries = fs })
  state_rel h s e = record { store = s; entries = e; phase = h.phase; shown = h.shown; view = h.view; owned = h.owned; moves = h.moves }

  shown_rel : {r q : Run} {xs ys : List ℕ} → RunRel R B F r q → ListRel (R.of Functions) xs ys → RunRel R B F (record r { shown = xs }) (record q { shown = ys })
  shown_rel h x = record { store = h.store; entries = h.entries; phase = h.phase; shown = x; view = h.view; owned = h.owned; moves = h.moves }

  phase_rel : {r q : Run} {p o : Phase} → RunRel R B F r q → PhaseRel R F p o → RunRel R B F (record r { phase = p }) (record q { phase = o })
  phase_rel h x = record { store = h.store; entries = h.entries; phase = x; shown = h.shown; view = h.view; owned = h.owned; moves = h.moves }

  -- ---- what follows a step ----

  trapped_at_rel : {r q : Run} {es fs : List Entry} (c : Caller) → RunRel R B F r q → C r.store q.store es fs → OutRel R B F (trapped_at r c es) (trapped_at q c fs)
  trapped_at_rel Host h e = record { event = refl; run = state_rel h h.store (stacks.steady e) }
  trapped_at_rel Starter h e = record { event = refl; run = phase_rel (state_rel h h.store (stacks.steady (stacks.cleared h.entries))) closed }

  trapped_rel : {r q : Run} {o p : Outcome (Caller × List Entry)} → RunRel R B F r q → ResRel (PairRel (◌≡◌ {A = Caller}) (C r.store q.store)) o p → OutRel R B F (trapped_to r o) (trapped_to q p)
  trapped_rel h wrong = record { event = refl; run = state_rel h h.store (stacks.steady (stacks.cleared h.entries)) }
  trapped_rel h trap = record { event = refl; run = state_rel h h.store (stacks.steady (stacks.cleared h.entries)) }
  trapped_rel h (done {b = b} w) = rw w.first (trapped_at_rel b.0 h w.second)

  showing_rel : {r q : Run} {s t : Store} {es fs : List Entry} {vs ws : List Val} (event : List Shown → Event) → RunRel R B F r q → StoreRel R s t → B s t es fs → ListRel (ValRel R) vs ws → OutRel R B F (showing r s es vs event) (showing q t fs ws event)
  showing_rel event h s e v =
      let x = show_all_rel R apart s v _ _ h.shown in record { event = ap (λ l. Some (event l)) x.same; run = shown_rel (state_rel h s e) x.shown }

  pub after_rel : {r q : Run} {o p : Outcome Next} → RunRel R B F r q → ResRel (NextRel R B) o p → OutRel R B F (run_after r o) (run_after q p)
  after_rel h wrong = trapped_rel h (stacks.marks h.entries)
  after_rel h trap = trapped_rel h (stacks.marks h.entries)
  after_rel h (done (ran s e)) = record { event = refl; run = state_rel h s e }
  after_rel h (done (asked {p = p} {u = u} v s e)) = showing_rel (Asked p u) h s e v
  after_rel h (done (asked_grow (memory_grows p) s e)) = record { event = refl; run = state_rel h s e }
  after_rel h (done (asked_grow (table_grows p v) s e)) = record { event = refl; run = state_rel h s e }
  after_rel h (done (loads v s e)) = trapped_rel (state_rel h s e) (stacks.marks e)
  after_rel h (done (returned v s e)) = showing_rel Returned h s e v

  -- ---- transitions ----

  -- Two transitions are related if both are steps of the machine, or both are made without one.
  data TransitionRel : Transition → Transition → Type 0 where
    steps : {r q : Run} {o p : Outcome Next} → RunRel R B F r q → ResRel (NextRel R B) o p → TransitionRel (Steps r o) (Steps q p)
    makes : {o p : Out} → OutRel R B F o p → TransitionRel (Makes o) (Makes p)

  made_rel : {t u : Transition} → TransitionRel t u → OutRel R B F (made t) (made u)
  made_rel (steps h s) = after_rel h s
  made_rel (makes o) = o

  -- Of two related transitions, both call a placeholder or neither does.
  kinds_rel : {t u : Transition} → TransitionRel t u → calls_placeholder t ≡ calls_placeholder u
  kinds_rel (steps h trap) = refl
  kinds_rel (steps h wrong) = refl
  kinds_rel (steps h (done (ran s e))) = refl
  kinds_rel (steps h (done (asked v s e))) = refl
  kinds_rel (steps h (done (asked_grow n s e))) = refl
  kinds_rel (steps h (done (loads v s e))) = refl
  kinds_rel (steps h (done (returned v s e))) = refl
  kinds_rel (makes o) = refl

  -- ---- moves ----

  called_rel : {r q : Run} {es fs : List Entry} {a b : ℕ} (xs : List Shown) → RunRel R B F r q → C r.store q.store es fs → R.of Functions a b → ¬ R.listed a → OptRel TransitionRel (called r es xs a) (called q fs xs b)
  called_rel {r} {q} {es} {fs} {a} {b} xs h e n free =
      then_rel_is (there (h.store.types n)) (λ t u is same. subst (λ y. OptRel TransitionRel (option_and_then (λ vs. Some (Steps r (enter_at r.store a vs es))) (received_all r.owned r.shown t.params xs))
      (option_and_then (λ vs. Some (Steps q (enter_at q.store b vs fs))) (received_all q.owned q.shown y.params xs))) same
      (then_rel_is (received_all_rel R t.params xs h.owned h.shown) (λ vs _ got v. some (steps h (stacks.enters h.store n free is (if_there_at (fits_received r.owned r.shown t.params xs) got) v e)))))

  delivered_rel : {r q : Run} {vs ws : List Val} {es fs : List Entry} → RunRel R B F r q → ListRel (ValRel R) vs ws → C r.store q.store es fs → TransitionRel (delivered r vs es) (delivered q ws fs)
  delivered_rel {r} {q} {vs} {ws} {es} {fs} h v e = rw (stacks.marked e) (either (is_mark fs))
    where
      either : (b : Bool) → TransitionRel (cond b (Makes (record r { entries = Ended vs ∷ es }, None)) (Steps r (give r.store vs es))) (cond b (Makes (record q { entries = Ended ws ∷ fs }, None)) (Steps q (give q.store ws fs)))
      either true = makes (record { event = refl; run = state_rel h h.store (stacks.steady (stacks.push (ended v) e)) })
      either false = steps h (stacks.gives h.store v e)

  answered_rel : {r q : Run} {es fs : List Entry} (xs : List Shown) → RunRel R B F r q → TopView R (written apart) C r.store q.store es fs → OptRel TransitionRel (answered r xs es) (answered q xs fs)
  answered_rel xs h (top_waiting {ts = ts} e) = then_rel (received_all_rel R ts xs h.owned h.shown) (λ _ _ v. some (delivered_rel h v e))
  answered_rel xs h (top_none e) = none
  answered_rel xs h (top_mark e) = none
  answered_rel xs h (top_opening x e) = none
  answered_rel xs h top_running = none
  answered_rel xs h (top_growing n e) = none
  answered_rel xs h (top_ended v e) = none

  refused_rel : {r q : Run} {es fs : List Entry} → RunRel R B F r q → TopView R (written apart) C r.store q.store es fs → OptRel TransitionRel (refused r es) (refused q fs)
  refused_rel h (top_waiting e) = some (steps h trap)
  refused_rel h (top_none e) = none
  refused_rel h (top_mark e) = none
  refused_rel h (top_opening x e) = none
  refused_rel h top_running = none
  refused_rel h (top_growing n e) = none
  refused_rel h (top_ended v e) = none

  change_rel : {r q : Run} {c d : Change} → RunRel R B F r q → ChangeRel R c d → RunRel R B F (with_change r c) (with_change q d)
  change_rel h c = state_rel h (changed_rel R (written apart) h.store c) (stacks.changes_all c h.entries)

  num_eq : {n m : ℕ} → n ≡ m → ValRel R (Num W32 n) (Num W32 m)
  num_eq {n} e = subst (λ x. ValRel R (Num W32 n) (Num W32 x)) e number

  table_grown : {t u : Table} {v w : RefVal} (n : ℕ) → TableRel R t u → RefRel R v w → TableRel R (grown_table t n v) (grown_table u n w)
  table_grown {v = v} {w = w} n t x = record { type = t.type; most = t.most; slots = append_rel t.slots (copies_rel v w n x) }

  then_memory_at : {A C : Type 0} {Q : A → C → Type 0} {r q : Run} {a b : ℕ} {f : Memory → Option A} {g : Memory → Option C} → RunRel R B F r q → R.of Memories a b → ((m : Memory) → OptRel Q (f m) (g m)) →
      OptRel Q (option_and_then f (slice_get r.store.mems a)) (option_and_then g (slice_get q.store.mems b))
  then_memory_at {Q = Q} {f = f} {g = g} h p k = then_rel (there (h.store.mems p)) (λ x y e. subst (λ z. OptRel Q (f x) (g z)) e (k x))

  granted_rel : {r q : Run} {x y : Growth} {es fs : List Entry} → RunRel R B F r q → GrowthRel R x y → C r.store q.store es fs → OptRel TransitionRel (granted r x es) (granted q y fs)
  granted_rel h (memory_grows {n = n} p) e = then_memory_at h p (λ m. some (delivered_rel (change_rel h (set_memory p)) (cons number nil) (stacks.changes (set_memory p) e)))
  granted_rel h (table_grows {n = n} p v) e = then_rel (there (h.store.tables p)) (λ _ _ t. let c = set_table p (table_grown n t v) in some (delivered_rel (change_rel h c) (cons (num_eq (length_rel t.slots)) nil) (stacks.changes c e)))

  decided_rel : {r q : Run} {x y : Growth} {es fs : List Entry} (m : Move) → RunRel R B F r q → GrowthRel R x y → C r.store q.store es fs → OptRel TransitionRel (decided r m x es) (decided q m y fs)
  decided_rel Grant h p e = granted_rel h p e
  decided_rel Deny h p e = some (delivered_rel h (cons number nil) e)
  decided_rel (Call i xs) h p e = none
  decided_rel _ h p e = none

  shows_rel : {r q : Run} {v w : Val} → RunRel R B F r q → ValRel R v w → OptRel TransitionRel (shows r v) (shows q w)
  shows_rel h v = let x = show_rel R apart h.store h.shown v in some (makes (record { event = ap (λ s. Some (Got s)) x.same; run = shown_rel h x.shown }))

  got_rel : {r q : Run} {x y : ExternalValue} (n : ℕ) → RunRel R B F r q → ExternalValueRel R x y → OptRel TransitionRel (got r x n) (got q y n)
  got_rel n h (a_func p) = none
  got_rel n h (a_table p) = then_rel (there (h.store.tables p)) (λ _ _ t. then_rel (get_rel t.slots n) (λ _ _ v. shows_rel h (reference v)))
  got_rel n h (a_memory p) = then_memory_at h p (λ m. then_same (slice_get m.bytes n) (λ b. shows_rel h (number {w = W32})))
  got_rel n h (a_global p) = then_rel (there (h.store.globals p)) (λ _ _ g. either_rel (nat_eq n 0) (shows_rel h g.value) none)

  size_rel : {r q : Run} {x y : ExternalValue} → RunRel R B F r q → ExternalValueRel R x y → OptRel TransitionRel (size_of r x) (size_of q y)
  size_rel h (a_func p) = none
  size_rel h (a_table p) = then_rel (there (h.store.tables p)) (λ _ _ t. shows_rel h (num_eq (length_rel t.slots)))
  size_rel h (a_memory p) = then_memory_at h p (λ m. shows_rel h (number {w = W32}))
  size_rel h (a_global p) = then_rel (there (h.store.globals p)) (λ _ _ g. shows_rel h (number {w = W32}))

  does_rel : {r q : Run} {c d : Change} → RunRel R B F r q → ChangeRel R c d → OptRel TransitionRel (does r c) (does q d)
  does_rel h c = some (makes (record { event = refl; run = change_rel h c }))

  set_rel : {r q : Run} {x y : ExternalValue} (n : ℕ) (v : Shown) → RunRel R B F r q → ExternalValueRel R x y → OptRel TransitionRel (set r x n v) (set q y n v)
  set_rel n v h (a_func p) = none
  set_rel {r} {q} n v h (a_table p) =
      then_rel (there (h.store.tables p)) (λ t u x. then_rel (at_type x.type (received_ref_rel R u.ty v h.owned h.shown)) (λ _ _ v. then_rel (overwrite_rel n x.slots (cons v nil)) (λ _ _ s.
      does_rel h (set_table p (record { type = x.type; most = x.most; slots = s })))))
    where
      at_type : {s t : RefType} → s ≡ t → OptRel (RefRel R) (received_ref r.owned r.shown t v) (received_ref q.owned q.shown t v) → OptRel (RefRel R) (received_ref r.owned r.shown s v) (received_ref q.owned q.shown t v)
      at_type {t = t} e o = rw e o
  set_rel n v h (a_memory p) = then_memory_at h p (λ m. then_same (byte_of v) (λ b. then_same (overwrite m.bytes n (b ∷ [])) (λ bytes. does_rel h (set_memory p))))
  set_rel n v h (a_global p) =
      then_rel (there (h.store.globals p)) (λ _ e g. rw g.type (either_rel (nat_eq n 0) (either_rel e.ty.mutable (then_rel (received_rel R e.ty.ty v h.owned h.shown) (λ _ _ w. does_rel h (set_global p (record { type = refl; value = w })))) none) none))

  null_rel : (t : RefType) → RefRel R (null_of t) (null_of t)
  null_rel reft.Func = func none
  null_rel reft.Extern = extern

  extended_rel : {r q : Run} {x y : ExternalValue} (n : ℕ) → RunRel R B F r q → ExternalValueRel R x y → OptRel TransitionRel (extended r x n) (extended q y n)
  extended_rel n h (a_func p) = none
  extended_rel {r} {q} n h (a_table {a = a1} {b = b1} p) = then_rel (there (h.store.tables p)) (λ t u x.
      subst (λ b. OptRel TransitionRel (cond (table_may_grow t n) (does r (SetTable a1 (grown_table t n (null_of t.ty)))) None) (cond b (does q (SetTable b1 (grown_table u n (null_of u.ty)))) None)) (may_same t u n (length_rel x.slots) x.most)
      (either_rel (table_may_grow t n) (does_rel h (set_table p (table_grown n x (subst (λ z. RefRel R (null_of t.ty) (null_of z)) x.type (null_rel t.ty))))) none))
  extended_rel n h (a_memory p) = then_memory_at h p (λ m. either_rel (memory_may_grow m n) (does_rel h (set_memory p)) none)
  extended_rel n h (a_global p) = none

  place_at_rel : {r q : Run} (p : Place) → RunRel R B F r q → OptRel (ExternalValueRel R) (place_at r p) (place_at q p)
  place_at_rel (TableOf p) h = look_rel R (same_key (TableKey p)) h.owned
  place_at_rel (MemoryOf p) h = look_rel R (same_key (MemoryKey p)) h.owned
  place_at_rel (GlobalOf p) h = look_rel R (same_key (GlobalKey p)) h.owned
  place_at_rel (Named n) h = look_rel R (same_text n) h.view

  moved_rel : {r q : Run} (m : Move) → RunRel R B F r q → C r.store q.store r.entries q.entries → TopView R (written apart) C r.store q.store r.entries q.entries → MoveSkips R r.view r.shown m → OptRel TransitionRel (moved r m) (moved q m)
  moved_rel (Call i xs) h c w free = then_rel_is (look_rel R (same_text i) h.view) (λ _ _ is x. then_rel_is (func_of_rel R x) (λ a _ of n. called_rel xs h (stacks.push mark c) n (free a (ap (option_and_then func_of) is ∙ of))))
  moved_rel (Invoke k xs) h c w free = then_rel_is (get_rel h.shown k) (λ a _ is n. called_rel xs h (stacks.push mark c) n (free a is))
  moved_rel (Take i) h c w free = then_rel (look_rel R (same_text i) h.view) (λ _ _ x. then_rel (func_of_rel R x) (λ _ _ n. shows_rel h (reference (func (some n)))))
  moved_rel (Answer xs) h c w free = answered_rel xs h w
  moved_rel Refuse h c w free = refused_rel h w
  moved_rel Grant h c w free = none
  moved_rel Deny h c w free = none
  moved_rel (Get p n) h c w free = then_rel (place_at_rel p h) (λ _ _ x. got_rel n h x)
  moved_rel (Size p) h c w free = then_rel (place_at_rel p h) (λ _ _ x. size_rel h x)
  moved_rel (Set p n v) h c w free = then_rel (place_at_rel p h) (λ _ _ x. set_rel n v h x)
  moved_rel (Extend p n) h c w free = then_rel (place_at_rel p h) (λ _ _ x. extended_rel n h x)

  -- The entry on top is no growth that waits for the embedder.
  abbrev NotGrowing : List Entry → Type 0
  NotGrowing (Growing g ∷ es) = ⊥
  NotGrowing es = Unit {0}

  at_entries_rel : {r q : Run} {es fs : List Entry} (m : Move) → RunRel R B F r q → C r.store q.store r.entries q.entries → TopView R (written apart) C r.store q.store r.entries q.entries → TopView R (written apart) C r.store q.store es fs → (NotGrowing es → MoveSkips R r.view r.shown m) →
      OptRel TransitionRel (at_entries r m es) (at_entries q m fs)
  at_entries_rel m h c w (top_growing p e) free = decided_rel m h p e
  at_entries_rel m h c w (top_none e) free = moved_rel m h c w (free tt)
  at_entries_rel m h c w (top_mark e) free = moved_rel m h c w (free tt)
  at_entries_rel m h c w (top_opening x e) free = moved_rel m h c w (free tt)
  at_entries_rel m h c w top_running free = moved_rel m h c w (free tt)
  at_entries_rel m h c w (top_waiting e) free = moved_rel m h c w (free tt)
  at_entries_rel m h c w (top_ended v e) free = moved_rel m h c w (free tt)

  or_bad_rel : {r q : Run} {o p : Option Transition} → RunRel R B F r q → OptRel TransitionRel o p → TransitionRel (or_bad r o) (or_bad q p)
  or_bad_rel h none = makes (record { event = refl; run = h })
  or_bad_rel h (some o) = o

  moves_rel : {r q : Run} (ms : List Move) → RunRel R B F r q → RunRel R B F (record r { moves = ms }) (record q { moves = ms })
  moves_rel ms h = record { store = h.store; entries = h.entries; phase = h.phase; shown = h.shown; view = h.view; owned = h.owned; moves = refl }

  -- The next move calls no function on the list; where a growth waits, a move calls no function at
  -- all.
  abbrev Skips : Run → List Move → Type 0
  Skips r ms = NotGrowing r.entries → NextMoveSkips R r.view r.shown ms

  next_move_rel : {r q : Run} (ms : List Move) → RunRel R B F r q → C r.store q.store r.entries q.entries → TopView R (written apart) C r.store q.store r.entries q.entries → Skips r ms → TransitionRel (next_move r ms) (next_move q ms)
  next_move_rel [] h c w free = makes (record { event = refl; run = h })
  next_move_rel (m ∷ ms) h c w free = let k = moves_rel ms h in or_bad_rel k (at_entries_rel m k c w w free)

  due_move_rel : {r q : Run} {ms ns : List Move} → ms ≡ ns → RunRel R B F r q → C r.store q.store r.entries q.entries → TopView R (written apart) C r.store q.store r.entries q.entries → Skips r ms → TransitionRel (next_move r ms) (next_move q ns)
  due_move_rel {r} {q} {ms} e h c w free = subst (λ x. TransitionRel (next_move r ms) (next_move q x)) e (next_move_rel ms h c w free)

  -- A move that a closed world takes calls no function.
  closed_skips : (view : _) (shown : List ℕ) (m : Move) → is_taken_closed m ≡ true → MoveSkips R view shown m
  closed_skips view shown (Call i xs) h = cc
  closed_skips view shown (Invoke k xs) h = cc
  closed_skips view shown _ h = tt

  closed_move_rel : {r q : Run} {ms ns : List Move} → ms ≡ ns → RunRel R B F r q → C r.store q.store r.entries q.entries → TopView R (written apart) C r.store q.store r.entries q.entries → TransitionRel (closed_move r ms) (closed_move q ns)
  closed_move_rel {r} {q} {ms} e h c w = subst (λ x. TransitionRel (closed_move r ms) (closed_move q x)) e (go ms)
    where
      taken : {A : Type 0} {P : A → A → Type 0} {o p : Option A} (b : Bool) → (b ≡ true → OptRel P o p) → OptRel P (cond b o None) (cond b p None)
      taken true h = h refl
      taken false h = none

      go : (ms : List Move) → TransitionRel (closed_move r ms) (closed_move q ms)
      go [] = makes (record { event = refl; run = h })
      go (m ∷ ms) = let k = moves_rel ms h in or_bad_rel k (taken (is_taken_closed m) (λ free. moved_rel m k c w (closed_skips r.view r.shown m free)))

  -- ---- one step of a run ----

  began_rel : {r q : Run} {b c : Option Begun} → RunRel R B F r q → OptRel (BegunRel R F) b c → OutRel R B F (began r b) (began q c)
  began_rel h none = record { event = refl; run = phase_rel (state_rel h h.store (stacks.steady (stacks.cleared h.entries))) closed }
  began_rel {r} {q} h (some {a = b} {b = c} g) = rw g.trapped (either c.trapped)
    where
      either : (x : Bool) → OutRel R B F (cond x (record r { store = b.store; entries = []; phase = Closed; owned = b.owned }, Some InstanceTrapped) (record r { store = b.store; entries = Opening b.starts ∷ []; phase = Pending b.view; owned = b.owned }, None))
          (cond x (record q { store = c.store; entries = []; phase = Closed; owned = c.owned }, Some InstanceTrapped) (record q { store = c.store; entries = Opening c.starts ∷ []; phase = Pending c.view; owned = c.owned }, None))
      either true = record { event = refl; run = record { store = g.store; entries = begins _ _ _ _ g.closed; phase = closed; shown = h.shown; view = h.view; owned = g.owned; moves = h.moves } }
      either false = record { event = refl; run = record { store = g.store; entries = begins _ _ _ _ g.entries; phase = pending g.view; shown = h.shown; view = h.view; owned = g.owned; moves = h.moves } }

  or_closed_rel : {r q : Run} {o p : Option Transition} → RunRel R B F r q → OptRel TransitionRel o p → TransitionRel (or_closed r o) (or_closed q p)
  or_closed_rel h none = makes (record { event = refl; run = phase_rel (state_rel h h.store (stacks.steady (stacks.cleared h.entries))) closed })
  or_closed_rel h (some o) = o

  in_phase_rel : {r q : Run} {p o : Phase} → RunRel R B F r q → C r.store q.store r.entries q.entries → TopView R (written apart) C r.store q.store r.entries q.entries → PhaseRel R F p o → (p ≡ Opened → NextMoveSkips R r.view r.shown r.moves) → TransitionRel (in_phase r p) (in_phase q o)
  in_phase_rel h c w (fresh b) free = makes (began_rel h b)
  in_phase_rel h c w (pending v) free = steps h wrong
  in_phase_rel h c w opened free = due_move_rel h.moves h c w (λ _. free refl)
  in_phase_rel h c w closed free = closed_move_rel h.moves h c w

  view_of_rel : {r q : Run} {p o : Phase} → RunRel R B F r q → PhaseRel R F p o → ListRel (KeyRel R) (view_of r p) (view_of q o)
  view_of_rel h (fresh b) = h.view
  view_of_rel h (pending v) = v
  view_of_rel h opened = h.view
  view_of_rel h closed = h.view

  started_rel : {r q : Run} {xs ys : List ℕ} {es fs : List Entry} {a b : ℕ} → RunRel R B F r q → ListRel (R.of Functions) xs ys → C r.store q.store es fs → R.of Functions a b → ¬ R.listed a → OptRel TransitionRel (started r xs es a) (started q ys fs b)
  started_rel {r} {q} {xs} {ys} {es} {fs} {a} {b} h x e n free =
      then_rel (there (h.store.types n)) (λ t u same. subst (λ y. OptRel TransitionRel (option_and_then (λ v. called r (Opening xs ∷ es) [] a) (nothing_in t.results)) (option_and_then (λ v. called q (Opening ys ∷ fs) [] b) (nothing_in y.results))) same
      (then_same (nothing_in t.results) (λ v. called_rel [] h (stacks.push (opening x) e) n free)))

  open_next_rel : {r q : Run} {xs ys : List ℕ} {es fs : List Entry} → RunRel R B F r q → ListRel (R.of Functions) xs ys → C r.store q.store es fs → TickSkips R r (Opening xs ∷ es) → TransitionRel (open_next r xs es) (open_next q ys fs)
  open_next_rel h nil e free = makes (record { event = refl; run = record { store = h.store; entries = stacks.steady e; phase = opened; shown = h.shown; view = view_of_rel h h.phase; owned = h.owned; moves = h.moves } })
  open_next_rel h (cons n x) e free = or_closed_rel h (started_rel h x e n free)

  -- The transitions of two related runs are related, if the steps of the machine from their stacks
  -- are.
  between_rel : {r q : Run} {es fs : List Entry} → RunRel R B F r q → (C r.store q.store es fs → C r.store q.store r.entries q.entries) → (TopView R (written apart) C r.store q.store es fs → TopView R (written apart) C r.store q.store r.entries q.entries) →
      TopView R (written apart) C r.store q.store es fs → ResRel (NextRel R B) (step r.store r.entries) (step q.store q.entries) → r.entries ≡ es → TickSkips R r es → TransitionRel (transition_at r es) (transition_at q fs)
  between_rel h whole views (top_none e) s same free = in_phase_rel h (whole e) (views (top_none e)) h.phase free
  between_rel h whole views (top_mark e) s same free = steps h wrong
  between_rel h whole views (top_opening x e) s same free = open_next_rel h x e free
  between_rel h whole views (top_waiting e) s same free = due_move_rel h.moves h (whole (stacks.push waiting e)) (views (top_waiting e)) (λ _. free)
  between_rel h whole views (top_ended v e) s same free = steps h (stacks.gives h.store v e)
  between_rel h whole views (top_growing n e) s same free = due_move_rel h.moves h (whole (stacks.push (growing n) e)) (views (top_growing n e)) (λ waits. absurd (subst NotGrowing same waits))
  between_rel h whole views top_running s same free = steps h s

  pub still_rel : {r q : Run} {es fs : List Entry} → RunRel R B F r q → (C r.store q.store es fs → C r.store q.store r.entries q.entries) → (TopView R (written apart) C r.store q.store es fs → TopView R (written apart) C r.store q.store r.entries q.entries) →
      TopView R (written apart) C r.store q.store es fs → ResRel (NextRel R B) (step r.store r.entries) (step q.store q.entries) → r.entries ≡ es → TickSkips R r es → OutRel R B F (made (transition_at r es)) (made (transition_at q fs))
  still_rel h whole views w s same free = made_rel (between_rel h whole views w s same free)

  -- Of the transitions of two related runs, both call a placeholder or neither does.
  pub still_kinds : {r q : Run} {es fs : List Entry} → RunRel R B F r q → (C r.store q.store es fs → C r.store q.store r.entries q.entries) → (TopView R (written apart) C r.store q.store es fs → TopView R (written apart) C r.store q.store r.entries q.entries) →
      TopView R (written apart) C r.store q.store es fs → ResRel (NextRel R B) (step r.store r.entries) (step q.store q.entries) → r.entries ≡ es → TickSkips R r es → calls_placeholder (transition_at r es) ≡ calls_placeholder (transition_at q fs)
  still_kinds h whole views w s same free = kinds_rel (between_rel h whole views w s same free)
