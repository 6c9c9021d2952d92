-- Small machines: their traces by the laws on simulations, and that smaller bounds are wrong.
use Rattle.std.proofs.Common.{◌≡◌, ℕ, zero, suc, ◌+◌, ◌*◌, List, [], ◌∷◌, ◌++◌, Some, None, refl, ap, arith}
use Rattle.base_simulation.specs.Machines.{Machine, events_of, IsPrefix}
use Rattle.base_simulation.specs.Simulations.{StepsTogether}
use Rattle.base_simulation.proofs.Lockstep.{lockstep}
use Rattle.base_simulation.proofs.StepwiseSimulation.{NextStepsAreRelated, both, second, stuttering_traces_are_equal, IsAnsweredBySome, stuttering_simulation}

-- A machine that counts, with each number as an event.
abbrev counts : Machine ℕ ℕ
counts n = (suc n, Some n)

no_prefix : (xs : List ℕ) (x : ℕ) (ys : List ℕ) → IsPrefix (xs ++ x ∷ ys) xs → ⊥
no_prefix [] x ys p = cc
no_prefix (y ∷ xs) x ys p = no_prefix xs x ys (p.0, cc)

-- ---- step by step ----

-- Two machines with equal traces: one counts by two, with each number as an event; the other
-- counts, with twice each number as an event.
abbrev by_two : Machine ℕ ℕ
by_two n = (suc (suc n), Some n)

abbrev doubles : Machine ℕ ℕ
doubles n = (suc n, Some (n + n))

both_double : (s q : ℕ) → s ≡ q + q → StepsTogether by_two doubles (λ s q. s ≡ q + q) s q
both_double s q e = record { event = ap Some e; states = omega (arith, e) }

by_two_shows_doubles : (n : ℕ) → events_of by_two 0 n ≡ events_of doubles 0 n
by_two_shows_doubles = lockstep by_two doubles (λ s q. s ≡ q + q) both_double 0 0 refl

-- ---- a number of stuttering steps in all ----

-- A machine that makes some steps without an event before it counts.
abbrev waits : Machine (ℕ × ℕ) ℕ
waits (zero, n) = ((zero, suc n), Some n)
waits (suc k, n) = ((k, n), None)

-- The stuttering steps left are those that the second machine still waits.
data Waiting : (d e : ℕ) → ℕ → ℕ × ℕ → Type 0 where
  for : {k n : ℕ} → Waiting k 0 n (k, n)

still_waits : (d e : ℕ) (s : ℕ) (q : ℕ × ℕ) → Waiting d e s q → NextStepsAreRelated counts waits Waiting d e s q
still_waits d e s (zero, n) for = both refl for
still_waits d e s (suc k, n) for = second refl for

waits_in_two_more : (n : ℕ) → IsPrefix (events_of counts 0 n) (events_of waits (2, 0) (n + 2)) × IsPrefix (events_of waits (2, 0) n) (events_of counts 0 (n + 0))
waits_in_two_more = stuttering_traces_are_equal counts waits Waiting still_waits 2 0 0 (2, 0) for

-- A bound of one more step is too small.
not_in_one_more : ((n : ℕ) → IsPrefix (events_of counts 0 n) (events_of waits (2, 0) (n + 1))) → ⊥
not_in_one_more h = no_prefix [] 0 [] (h 1)

-- ---- several steps for one ----

-- A machine that makes two steps without an event before each number.
abbrev rests : Machine (ℕ × ℕ) ℕ
rests (zero, n) = ((2, suc n), Some n)
rests (suc k, n) = ((k, n), None)

data Rested : ℕ → ℕ × ℕ → Type 0 where
  at : {n : ℕ} → Rested n (2, n)

still_rests : (s : ℕ) (q : ℕ × ℕ) → Rested s q → IsAnsweredBySome counts rests 3 Rested s q
still_rests s q at = record { further = 2; bound = omega arith; shown = refl; states = at }

rests_in_three_times_as_many : (n : ℕ) → IsPrefix (events_of counts 0 n) (events_of rests (2, 0) (3 * n)) × IsPrefix (events_of rests (2, 0) n) (events_of counts 0 n)
rests_in_three_times_as_many = stuttering_simulation counts rests 3 Rested still_rests 0 (2, 0) at

-- Bounds of twice as many steps and of three more steps are too small.
not_in_twice_as_many : ((n : ℕ) → IsPrefix (events_of counts 0 n) (events_of rests (2, 0) (2 * n))) → ⊥
not_in_twice_as_many h = no_prefix [] 0 [] (h 1)

not_in_three_more : ((n : ℕ) → IsPrefix (events_of counts 0 n) (events_of rests (2, 0) (n + 3))) → ⊥
not_in_three_more h = no_prefix (0 ∷ []) 1 [] (h 2)
