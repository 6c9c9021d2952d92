-- No step calls a placeholder where the store has none.
use Rattle.base_lists.proofs.Common.{◌≡◌, refl, ap, ◌∙◌, ℕ, List, [], ◌∷◌, Option, Some, None, Bool, true, false, cond, nat_eq, slice_get, then_all, any_there}
use Rattle.base_lists.specs.Options.{◌>>=◌}
use Rattle.wasm_tree_spec.specs.Prelude.{FuncType}
use Rattle.wasm_meaning.specs.Prelude.{Outcome, overwrite, Gives, Traps, IllTyped, bind, or_ill_typed, Act, Calls, Goes, AsksGrow, Ends, Code, Entry, Ended, Frame, Func, Growing, GrowMemory, GrowTable, Growth, Level, Mark, Next, Opening, Own, Placeholder, Running, Store, Val, Waiting, pop_typed}
use Rattle.wasm_meaning.specs.Prelude.{with_values, type_at, act, enter, enter_at, frame_of, give, give_levels, perform, step, FuncAt, GlobalAt, MemoryAt, Shown, TableAt, ExternalValue, func_of, received, received_all, received_ref, memory_may_grow, table_may_grow, Closed, Fresh, Move, Opened}
use Rattle.wasm_meaning.specs.Prelude.{Pending, Phase, Run, Steps, Makes, Transition, Answer, Call, Deny, Extend, Get, Grant, Invoke, Refuse, Set, Size, Take, answered, at_entries, byte_of, called, closed_move, decided, delivered, extended, got, granted, in_phase, is_mark, is_taken_closed, moved}
use Rattle.wasm_meaning.specs.Prelude.{nothing_in, next_move, open_next, or_bad, or_closed, place_at, refused, set, size_of, started, transition, transition_at, viewed_at}
use Rattle.run_simulation.specs.Prelude.{calls_placeholder}
use Rattle.base_lists.specs.Related.{IfThere, absent, present}

abbrev IsPlain : Transition → Type 0
IsPlain t = calls_placeholder t ≡ false

module _ (s : Store) (none : (a n : ℕ) (u : FuncType) → slice_get s.funcs a ≡ Some (Placeholder n u) → ⊥) where
  entered : (r : Run) (a : ℕ) (vs : List Val) (es : List Entry) → IsPlain (Steps r (enter_at s a vs es))
  entered r a vs es = by (slice_get s.funcs a) refl
    where
      by : (o : Option Func) → slice_get s.funcs a ≡ o → IsPlain (Steps r (bind (or_ill_typed o) (λ f. Gives (enter s f vs es))))
      by None e = refl
      by (Some (Code t i ls c)) e = refl
      by (Some (Own p t)) e = refl
      by (Some (Placeholder n u)) e = absurd (none a n u e)

  given : (r : Run) (t : Store) (ws : List Val) (ys : List Entry) → IsPlain (Steps r (give t ws ys))
  given r t ws [] = refl
  given r t ws (Running f ∷ ys) = in_levels f.levels
    where
      in_levels : (ls : List Level) → IsPlain (Steps r (give_levels t ws f ls ys))
      in_levels [] = refl
      in_levels (l ∷ ls) = refl
  given r t ws (Mark ∷ ys) = refl
  given r t ws (Opening xs ∷ ys) = refl
  given r t ws (Waiting ts ∷ ys) = refl
  given r t ws (Ended vs ∷ ys) = refl
  given r t ws (Growing g ∷ ys) = refl

  popped : (r : Run) {A : Type 0} (o : Outcome A) (f : A → Outcome Next) → ((a : A) → IsPlain (Steps r (f a))) → IsPlain (Steps r (bind o f))
  popped r Traps f h = refl
  popped r IllTyped f h = refl
  popped r (Gives a) f h = h a

  performed : (r : Run) (f : Frame) (es : List Entry) (x : Act) → IsPlain (Steps r (perform s f es x))
  performed r f es (Goes c h) = refl
  performed r f es (Calls a vs h) = popped r (or_ill_typed (type_at s a)) _ (λ t. popped r (pop_typed t.params vs) _ (λ p. entered r a p.0 (Running (frame_of f (with_values h p.1)) ∷ es)))
  performed r f es (AsksGrow g m n h) = refl
  performed r f es (Ends vs) = popped r (pop_typed f.results vs) _ (λ p. given r s p.0 es)

  stepped : (r : Run) (f : Frame) (es : List Entry) → IsPlain (Steps r (step s (Running f ∷ es)))
  stepped r f es = popped r (act s f) _ (performed r f es)

  -- ---- moves ----

  call_plain : (r : Run) → r.store ≡ s → (es : List Entry) (xs : List Shown) (a : ℕ) → IfThere IsPlain (called r es xs a)
  call_plain r e es xs a =
      then_all (any_there (type_at r.store a)) (λ t _. then_all (any_there (received_all r.owned r.shown t.params xs)) (λ vs _. present (ap (λ z. calls_placeholder (Steps r (enter_at z a vs es))) e ∙ entered r a vs es)))

  delivered_plain : (r : Run) (vs : List Val) (es : List Entry) → IsPlain (delivered r vs es)
  delivered_plain r vs es = by (is_mark es)
    where
      by : (b : Bool) → IsPlain (cond b (Makes (record r { entries = Ended vs ∷ es }, None)) (Steps r (give r.store vs es)))
      by true = refl
      by false = given r r.store vs es

  answered_plain : (r : Run) (xs : List Shown) (es : List Entry) → IfThere IsPlain (answered r xs es)
  answered_plain r xs [] = absent
  answered_plain r xs (Waiting ts ∷ es) = then_all (any_there (received_all r.owned r.shown ts xs)) (λ vs _. present (delivered_plain r vs es))
  answered_plain r xs (Running f ∷ es) = absent
  answered_plain r xs (Mark ∷ es) = absent
  answered_plain r xs (Opening ys ∷ es) = absent
  answered_plain r xs (Ended vs ∷ es) = absent
  answered_plain r xs (Growing g ∷ es) = absent

  -- A step that reads or writes an external value calls nothing.
  made_plain : {A : Type 0} (o : Option A) (f : A → Option Transition) → ((a : A) → IfThere IsPlain (f a)) → IfThere IsPlain (o >>= f)
  made_plain None f h = absent
  made_plain (Some a) f h = h a

  either_plain : (b : Bool) (o : Option Transition) → IfThere IsPlain o → IfThere IsPlain (cond b o None)
  either_plain true o h = h
  either_plain false o h = absent

  got_plain : (r : Run) (x : ExternalValue) (n : ℕ) → IfThere IsPlain (got r x n)
  got_plain r (FuncAt a) n = absent
  got_plain r (TableAt a) n = made_plain (slice_get r.store.tables a) _ (λ t. made_plain (slice_get t.slots n) _ (λ v. present refl))
  got_plain r (MemoryAt a) n = made_plain (slice_get r.store.mems a) _ (λ m. made_plain (slice_get m.bytes n) _ (λ b. present refl))
  got_plain r (GlobalAt a) n = made_plain (slice_get r.store.globals a) _ (λ g. either_plain (nat_eq n 0) _ (present refl))

  size_plain : (r : Run) (x : ExternalValue) → IfThere IsPlain (size_of r x)
  size_plain r (FuncAt a) = absent
  size_plain r (TableAt a) = made_plain (slice_get r.store.tables a) _ (λ t. present refl)
  size_plain r (MemoryAt a) = made_plain (slice_get r.store.mems a) _ (λ m. present refl)
  size_plain r (GlobalAt a) = made_plain (slice_get r.store.globals a) _ (λ g. present refl)

  set_plain : (r : Run) (x : ExternalValue) (n : ℕ) (v : Shown) → IfThere IsPlain (set r x n v)
  set_plain r (FuncAt a) n x = absent
  set_plain r (TableAt a) n x = made_plain (slice_get r.store.tables a) _ (λ t. made_plain (received_ref r.owned r.shown t.ty x) _ (λ v. made_plain (overwrite t.slots n (v ∷ [])) _ (λ slots. present refl)))
  set_plain r (MemoryAt a) n x = made_plain (slice_get r.store.mems a) _ (λ m. made_plain (byte_of x) _ (λ b. made_plain (overwrite m.bytes n (b ∷ [])) _ (λ bytes. present refl)))
  set_plain r (GlobalAt a) n x =
      made_plain (slice_get r.store.globals a) _ (λ g. either_plain (nat_eq n 0) _ (either_plain g.ty.mutable _ (made_plain (received r.owned r.shown g.ty.ty x) _ (λ v. present refl))))

  extended_plain : (r : Run) (x : ExternalValue) (n : ℕ) → IfThere IsPlain (extended r x n)
  extended_plain r (FuncAt a) n = absent
  extended_plain r (TableAt a) n = made_plain (slice_get r.store.tables a) _ (λ t. either_plain (table_may_grow t n) _ (present refl))
  extended_plain r (MemoryAt a) n = made_plain (slice_get r.store.mems a) _ (λ m. either_plain (memory_may_grow m n) _ (present refl))
  extended_plain r (GlobalAt a) n = absent

  move_plain : (r : Run) → r.store ≡ s → (m : Move) → IfThere IsPlain (moved r m)
  move_plain r e (Call name xs) = made_plain (viewed_at r name) _ (λ x. made_plain (func_of x) _ (λ a. call_plain r e (Mark ∷ r.entries) xs a))
  move_plain r e (Invoke number xs) = made_plain (slice_get r.shown number) _ (λ a. call_plain r e (Mark ∷ r.entries) xs a)
  move_plain r e (Take name) = made_plain (viewed_at r name) _ (λ x. made_plain (func_of x) _ (λ a. present refl))
  move_plain r e (Answer xs) = answered_plain r xs r.entries
  move_plain r e Refuse = refused_plain r.entries
    where
      refused_plain : (es : List Entry) → IfThere IsPlain (refused r es)
      refused_plain [] = absent
      refused_plain (Waiting ts ∷ es) = present refl
      refused_plain (Running f ∷ es) = absent
      refused_plain (Mark ∷ es) = absent
      refused_plain (Opening ys ∷ es) = absent
      refused_plain (Ended vs ∷ es) = absent
      refused_plain (Growing g ∷ es) = absent
  move_plain r e Grant = absent
  move_plain r e Deny = absent
  move_plain r e (Get p n) = made_plain (place_at r p) _ (λ x. got_plain r x n)
  move_plain r e (Size p) = made_plain (place_at r p) _ (λ x. size_plain r x)
  move_plain r e (Set p n v) = made_plain (place_at r p) _ (λ x. set_plain r x n v)
  move_plain r e (Extend p n) = made_plain (place_at r p) _ (λ x. extended_plain r x n)

  granted_plain : (r : Run) (g : Growth) (es : List Entry) → IfThere IsPlain (granted r g es)
  granted_plain r (GrowMemory a n) es = made_plain (slice_get r.store.mems a) _ (λ m. present (delivered_plain _ _ es))
  granted_plain r (GrowTable a n v) es = made_plain (slice_get r.store.tables a) _ (λ t. present (delivered_plain _ _ es))

  decided_plain : (r : Run) (m : Move) (g : Growth) (es : List Entry) → IfThere IsPlain (decided r m g es)
  decided_plain r Grant g es = granted_plain r g es
  decided_plain r Deny g es = present (delivered_plain r _ es)
  decided_plain r (Call name xs) g es = absent
  decided_plain r (Invoke number xs) g es = absent
  decided_plain r (Take name) g es = absent
  decided_plain r (Answer xs) g es = absent
  decided_plain r Refuse g es = absent
  decided_plain r (Get p n) g es = absent
  decided_plain r (Size p) g es = absent
  decided_plain r (Set p n v) g es = absent
  decided_plain r (Extend p n) g es = absent

  bad_plain : (r : Run) (o : Option Transition) → IfThere IsPlain o → IsPlain (or_bad r o)
  bad_plain r None h = refl
  bad_plain r (Some t) (present h) = h

  next_plain : (r : Run) → r.store ≡ s → (ms : List Move) → IsPlain (next_move r ms)
  next_plain r e [] = refl
  next_plain r e (m ∷ ms) = bad_plain q (at_entries q m q.entries) (at q.entries)
    where
      q : Run
      q = record r { moves = ms }

      at : (es : List Entry) → IfThere IsPlain (at_entries q m es)
      at (Growing g ∷ es) = decided_plain q m g es
      at [] = move_plain q e m
      at (Waiting ts ∷ es) = move_plain q e m
      at (Running f ∷ es) = move_plain q e m
      at (Mark ∷ es) = move_plain q e m
      at (Opening ys ∷ es) = move_plain q e m
      at (Ended vs ∷ es) = move_plain q e m

  closed_plain : (r : Run) → r.store ≡ s → (ms : List Move) → IsPlain (closed_move r ms)
  closed_plain r e [] = refl
  closed_plain r e (m ∷ ms) = let q = record r { moves = ms } in bad_plain q (cond (is_taken_closed m) (moved q m) None) (either_plain (is_taken_closed m) (moved q m) (move_plain q e m))

  -- ---- one step ----

  start_plain : (r : Run) → r.store ≡ s → (starts : List ℕ) (es : List Entry) (a : ℕ) → IfThere IsPlain (started r starts es a)
  start_plain r e starts es a = made_plain (type_at r.store a) _ (λ t. made_plain (nothing_in t.results) _ (λ u. call_plain r e (Opening starts ∷ es) [] a))

  open_plain : (r : Run) → r.store ≡ s → (starts : List ℕ) (es : List Entry) → IsPlain (open_next r starts es)
  open_plain r e [] es = refl
  open_plain r e (a ∷ starts) es = by (started r starts es a) (start_plain r e starts es a)
    where
      by : (o : Option Transition) → IfThere IsPlain o → IsPlain (or_closed r o)
      by None h = refl
      by (Some t) (present h) = h

  phase_plain : (r : Run) → r.store ≡ s → (p : Phase) → IsPlain (in_phase r p)
  phase_plain r e (Fresh b) = refl
  phase_plain r e (Pending view) = refl
  phase_plain r e Opened = next_plain r e r.moves
  phase_plain r e Closed = closed_plain r e r.moves

  at_plain : (r : Run) → r.store ≡ s → (es : List Entry) → r.entries ≡ es → IsPlain (transition_at r es)
  at_plain r e [] f = phase_plain r e r.phase
  at_plain r e (Running x ∷ es) f = ap (λ z. calls_placeholder (Steps r (step z r.entries))) e ∙ ap (λ xs. calls_placeholder (Steps r (step s xs))) f ∙ stepped r x es
  at_plain r e (Mark ∷ es) f = refl
  at_plain r e (Opening starts ∷ es) f = open_plain r e starts es
  at_plain r e (Waiting ts ∷ es) f = next_plain r e r.moves
  at_plain r e (Ended vs ∷ es) f = given r r.store vs es
  at_plain r e (Growing g ∷ es) f = next_plain r e r.moves

  pub no_placeholder_called : (r : Run) → r.store ≡ s → calls_placeholder (transition r) ≡ false
  no_placeholder_called r e = at_plain r e r.entries refl
