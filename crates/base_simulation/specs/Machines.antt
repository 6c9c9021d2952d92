-- Machines that make steps, and their traces of events.
use Rattle.std.specs.Prelude.{◌≡◌, ℕ, zero, suc, ◌+◌, List, [], ◌∷◌, ◌++◌, Option, None, Some}
use Rattle.std.specs.List.{cons_option}

-- A step gives the next state, and perhaps an event.
abbrev pub Machine : Type 0 → Type 0 → Type 0
Machine S E = S → S × Option E

-- The trace of the first n steps.
abbrev pub events_of : {S E : Type 0} → Machine S E → S → ℕ → List E
events_of t s zero = []
events_of t s (suc n) = let o = t s in cons_option o.1 (events_of t o.0 n)

-- The state after n steps.
abbrev pub state_after : {S E : Type 0} → Machine S E → S → ℕ → S
state_after t s zero = s
state_after t s (suc n) = state_after t (t s).0 n

abbrev pub IsPrefix : {E : Type 0} → List E → List E → Type 0
IsPrefix {E} xs ys = (rest : List E) × (xs ++ rest ≡ ys)

-- The trace of fewer steps is a prefix of the trace of more steps.
abbrev pub ShorterRunsArePrefixes : {S E : Type 0} → Machine S E → Type 0
ShorterRunsArePrefixes {S} t = (s : S) (n k : ℕ) → IsPrefix (events_of t s n) (events_of t s (n + k))
