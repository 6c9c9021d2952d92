-- When one machine has the trace of another: in lockstep, or with stuttering.
use Rattle.std.specs.Prelude.{◌≡◌, ℕ, zero, suc, ◌+◌, ◌*◌, ◌≤◌, None}
use Rattle.base_simulation.specs.Machines.{Machine, events_of, state_after, IsPrefix}

-- ---- lockstep ----

-- A step of each machine has the same event and leads to related states again.
pub record StepsTogether {S T E : Type 0} (t : Machine S E) (u : Machine T E) (R : S → T → Type 0) (s : S) (q : T) : Type 0 where
  pub event : (t s).1 ≡ (u q).1
  pub states : R (t s).0 (u q).0

-- If the steps of related states have equal events and lead to related states, both machines have
-- equal traces in the same number of steps.
abbrev pub LockstepTracesAreEqual : Type 0 → Type 0 → Type 0 → Type 1
LockstepTracesAreEqual S T E =
    (t : Machine S E) (u : Machine T E) (R : S → T → Type 0) → ((s : S) (q : T) → R s q → StepsTogether t u R s q) →
    (s : S) (q : T) → R s q → (n : ℕ) → events_of t s n ≡ events_of u q n

-- ---- a number of stuttering steps in all ----

-- In each of `steps` steps, either both machines make a step with the same event, or one alone
-- makes a step without an event: the second at most `d` times in all, and the first at most `e`
-- times.
pub data Follows {S T E : Type 0} (t : Machine S E) (u : Machine T E) : (steps d e : ℕ) → S → T → Type 0 where
  so_far : {d e : ℕ} {s : S} {q : T} → Follows t u zero d e s q
  both : {n d e : ℕ} {s : S} {q : T} → (t s).1 ≡ (u q).1 → Follows t u n d e (t s).0 (u q).0 → Follows t u (suc n) d e s q
  second : {n d e : ℕ} {s : S} {q : T} → (u q).1 ≡ None → Follows t u n d e s (u q).0 → Follows t u (suc n) (suc d) e s q
  first : {n d e : ℕ} {s : S} {q : T} → (t s).1 ≡ None → Follows t u n d e (t s).0 q → Follows t u (suc n) d (suc e) s q

-- If in any number of steps the second machine makes at most `d` steps alone and the first at most
-- `e`, the trace of n steps of the first is a prefix of the trace of n + d steps of the second, and
-- that of n steps of the second a prefix of that of n + e steps of the first.
abbrev pub BudgetedTracesAreBounded : Type 0 → Type 0 → Type 0 → Type 0
BudgetedTracesAreBounded S T E =
    (t : Machine S E) (u : Machine T E) (d e : ℕ) (s : S) (q : T) → ((steps : ℕ) → Follows t u steps d e s q) →
    (n : ℕ) → IsPrefix (events_of t s n) (events_of u q (n + d)) × IsPrefix (events_of u q n) (events_of t s (n + e))

-- ---- several steps for one ----

-- For `steps` steps of the first machine, the second answers each by one to `k` steps, which have
-- the same events.
pub data Answers {S T E : Type 0} (t : Machine S E) (u : Machine T E) (k : ℕ) : (steps : ℕ) → S → T → Type 0 where
  so_far : {s : S} {q : T} → Answers t u k zero s q
  by_some : {n : ℕ} {s : S} {q : T} (further : ℕ) → suc further ≤ k → events_of u q (suc further) ≡ events_of t s 1 → Answers t u k n (t s).0 (state_after u q (suc further)) →
      Answers t u k (suc n) s q

-- If the second machine answers any number of steps in this way, the trace of n steps of the first
-- is a prefix of the trace of k * n steps of the second, and that of n steps of the second a prefix
-- of that of n steps of the first.
abbrev pub StutteringTracesAreBounded : Type 0 → Type 0 → Type 0 → Type 0
StutteringTracesAreBounded S T E =
    (t : Machine S E) (u : Machine T E) (k : ℕ) (s : S) (q : T) → ((steps : ℕ) → Answers t u k steps s q) →
    (n : ℕ) → IsPrefix (events_of t s n) (events_of u q (k * n)) × IsPrefix (events_of u q n) (events_of t s n)
