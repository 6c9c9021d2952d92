-- A run that is over takes moves on the environment's own entities alone, and no step of the
-- machine follows.
use Rattle.base_lists.proofs.Common.{◌≡◌, ℕ, List, [], ◌∷◌, Option, Some, None, cond, refl, ap, ◌∙◌, slice_get, nat_eq, with_there, either_all}
use Rattle.wasm_meaning.specs.Prelude.{overwrite, memory_may_grow, table_may_grow, Shown, ExternalValue, FuncAt, TableAt, MemoryAt, GlobalAt, received, received_ref, Move, Call, Invoke, Take, Answer, Refuse, Grant, Deny, Get, Size, Set, Extend, Run, Out, Transition, Steps, Makes, place_at, got}
use Rattle.wasm_meaning.specs.Prelude.{size_of, byte_of, set, extended, moved, or_bad, is_taken_closed, closed_move, in_phase, transition_at, transition}
use Rattle.base_lists.specs.Related.{IfThere, absent, present}
use Rattle.world_simulation.specs.FailedRuns.{IsOver, RunsThatAreOverStaySo}

-- The transition is made without a step of the machine, and leaves the stack and the phase.
data MadeAlike (r : Run) : Transition → Type 0 where
  alike : {o : Out} → o.0.phase ≡ r.phase → o.0.entries ≡ r.entries → MadeAlike r (Makes o)

module _ (r : Run) where
  abbrev All : Option Transition → Type 0
  All = IfThere (MadeAlike r)

  got_all : (x : ExternalValue) (n : ℕ) → All (got r x n)
  got_all (FuncAt a) n = absent
  got_all (TableAt a) n = with_there (slice_get r.store.tables a) _ (λ t _. with_there (slice_get t.slots n) _ (λ v _. present (alike refl refl)))
  got_all (MemoryAt a) n = with_there (slice_get r.store.mems a) _ (λ m _. with_there (slice_get m.bytes n) _ (λ b _. present (alike refl refl)))
  got_all (GlobalAt a) n = with_there (slice_get r.store.globals a) _ (λ g _. either_all (nat_eq n 0) (present (alike refl refl)) absent)

  size_all : (x : ExternalValue) → All (size_of r x)
  size_all (FuncAt a) = absent
  size_all (TableAt a) = with_there (slice_get r.store.tables a) _ (λ t _. present (alike refl refl))
  size_all (MemoryAt a) = with_there (slice_get r.store.mems a) _ (λ m _. present (alike refl refl))
  size_all (GlobalAt a) = with_there (slice_get r.store.globals a) _ (λ g _. present (alike refl refl))

  set_all : (x : ExternalValue) (n : ℕ) (v : Shown) → All (set r x n v)
  set_all (FuncAt a) n v = absent
  set_all (TableAt a) n v = with_there (slice_get r.store.tables a) _ (λ t _. with_there (received_ref r.owned r.shown t.ty v) _ (λ w _. with_there (overwrite t.slots n (w ∷ [])) _ (λ slots _. present (alike refl refl))))
  set_all (MemoryAt a) n v = with_there (slice_get r.store.mems a) _ (λ m _. with_there (byte_of v) _ (λ b _. with_there (overwrite m.bytes n (b ∷ [])) _ (λ bytes _. present (alike refl refl))))
  set_all (GlobalAt a) n v = with_there (slice_get r.store.globals a) _ (λ g _. either_all (nat_eq n 0) (either_all g.ty.mutable (with_there (received r.owned r.shown g.ty.ty v) _ (λ w _. present (alike refl refl))) absent) absent)

  extended_all : (x : ExternalValue) (n : ℕ) → All (extended r x n)
  extended_all (FuncAt a) n = absent
  extended_all (TableAt a) n = with_there (slice_get r.store.tables a) _ (λ t _. either_all (table_may_grow t n) (present (alike refl refl)) absent)
  extended_all (MemoryAt a) n = with_there (slice_get r.store.mems a) _ (λ m _. either_all (memory_may_grow m n) (present (alike refl refl)) absent)
  extended_all (GlobalAt a) n = absent

  taken_all : (m : Move) → All (cond (is_taken_closed m) (moved r m) None)
  taken_all (Get p n) = either_all (is_taken_closed (Get p n)) (with_there (place_at r p) _ (λ x _. got_all x n)) absent
  taken_all (Size p) = either_all (is_taken_closed (Size p)) (with_there (place_at r p) _ (λ x _. size_all x)) absent
  taken_all (Set p n v) = either_all (is_taken_closed (Set p n v)) (with_there (place_at r p) _ (λ x _. set_all x n v)) absent
  taken_all (Extend p n) = either_all (is_taken_closed (Extend p n)) (with_there (place_at r p) _ (λ x _. extended_all x n)) absent
  taken_all (Call name xs) = absent
  taken_all (Invoke k xs) = absent
  taken_all (Take name) = absent
  taken_all (Answer xs) = absent
  taken_all Refuse = absent
  taken_all Grant = absent
  taken_all Deny = absent

  or_bad_alike : (o : Option Transition) → All o → MadeAlike r (or_bad r o)
  or_bad_alike (Some t) (present h) = h
  or_bad_alike None h = alike refl refl

of_moves : (r : Run) (ms : List Move) (t : Transition) → MadeAlike (record r { moves = ms }) t → MadeAlike r t
of_moves r ms (Makes o) (alike p e) = alike p e
of_moves r ms (Steps q o) h = elim h [ ]

closed_alike : (r : Run) (ms : List Move) → MadeAlike r (closed_move r ms)
closed_alike r [] = alike refl refl
closed_alike r (m ∷ ms) = of_moves r ms _ (or_bad_alike (record r { moves = ms }) _ (taken_all (record r { moves = ms }) m))

pub stays_over : RunsThatAreOverStaySo
stays_over r h = go (transition r) (is ∙ refl) (closed_alike r r.moves)
  where
    is : transition r ≡ closed_move r r.moves
    is = ap (transition_at r) h.entries ∙ ap (in_phase r) h.phase

    go : (t : Transition) → t ≡ closed_move r r.moves → MadeAlike r (closed_move r r.moves) → (o : Out) × (t ≡ Makes o) × IsOver o.0
    go t e k = by (closed_move r r.moves) e k
      where
        by : (c : Transition) → t ≡ c → MadeAlike r c → (o : Out) × (t ≡ Makes o) × IsOver o.0
        by (Steps s x) e h = elim h [ ]
        by (Makes o) e (alike p q) = (o, e, record { phase = p ∙ h.phase; entries = q ∙ h.entries })
