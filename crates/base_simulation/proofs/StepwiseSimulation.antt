-- Simulations given step by step: a relation that the next steps keep bounds the traces of any
-- number of steps.
use Rattle.std.proofs.Common.{◌≡◌, ℕ, zero, suc, ◌+◌, ◌*◌, ◌≤◌, None}
use Rattle.base_simulation.specs.Machines.{Machine, events_of, state_after, IsPrefix}
use Rattle.base_simulation.specs.Simulations.{Follows, Answers, by_some}
use Rattle.base_simulation.specs.Simulations as simulations
use Rattle.base_simulation.proofs.Stuttering.{followed_traces_are_bounded, answered_traces_are_bounded}

-- The next steps from related states: both machines step with equal events, or one of them makes a
-- stuttering step that is left to it.
pub data NextStepsAreRelated {S T E : Type 0} (t : Machine S E) (u : Machine T E) (I : ℕ → ℕ → S → T → Type 0) : ℕ → ℕ → S → T → Type 0 where
  both : {d e : ℕ} {r : S} {q : T} → (t r).1 ≡ (u q).1 → I d e (t r).0 (u q).0 → NextStepsAreRelated t u I d e r q
  second : {d e : ℕ} {r : S} {q : T} → (u q).1 ≡ None → I d e r (u q).0 → NextStepsAreRelated t u I (suc d) e r q
  first : {d e : ℕ} {r : S} {q : T} → (t r).1 ≡ None → I d e (t r).0 q → NextStepsAreRelated t u I d (suc e) r q

pub follows_by_steps : {S T E : Type 0} (t : Machine S E) (u : Machine T E) (I : ℕ → ℕ → S → T → Type 0) → ((d e : ℕ) (r : S) (q : T) → I d e r q → NextStepsAreRelated t u I d e r q) → (steps d e : ℕ) (r : S) (q : T) → I d e r q → Follows t u steps d e r q
follows_by_steps t u I next zero d e r q i = simulations.Follows.so_far
follows_by_steps {S} {T} t u I next (suc n) d e r q i = go (next d e r q i) (λ d e r q i. follows_by_steps t u I next n d e r q i)
  where
    go : {d e : ℕ} {r : S} {q : T} → NextStepsAreRelated t u I d e r q → ((d e : ℕ) (r : S) (q : T) → I d e r q → Follows t u n d e r q) → Follows t u (suc n) d e r q
    go (both p j) more = simulations.both p (more _ _ _ _ j)
    go (second p j) more = simulations.second p (more _ _ _ _ j)
    go (first p j) more = simulations.first p (more _ _ _ _ j)

-- The traces of related states are prefixes of each other, up to the stuttering steps left.
pub stuttering_traces_are_equal : {S T E : Type 0} (t : Machine S E) (u : Machine T E) (I : ℕ → ℕ → S → T → Type 0) → ((d e : ℕ) (r : S) (q : T) → I d e r q → NextStepsAreRelated t u I d e r q) → (d e : ℕ) (r : S) (q : T) → I d e r q →
    (n : ℕ) → IsPrefix (events_of t r n) (events_of u q (n + d)) × IsPrefix (events_of u q n) (events_of t r (n + e))
stuttering_traces_are_equal t u I next d e r q i = followed_traces_are_bounded t u d e r q (λ steps. follows_by_steps t u I next steps d e r q i)

-- The second machine answers the next step of the first by one to c steps, which have the same
-- events and lead to related states.
pub record IsAnsweredBySome {S T E : Type 0} (t : Machine S E) (u : Machine T E) (c : ℕ) (I : S → T → Type 0) (r : S) (q : T) : Type 0 where
  pub further : ℕ
  pub bound : suc further ≤ c
  pub shown : events_of u q (suc further) ≡ events_of t r 1
  pub states : I (t r).0 (state_after u q (suc further))

pub answers_by_some : {S T E : Type 0} (t : Machine S E) (u : Machine T E) (c : ℕ) (I : S → T → Type 0) → ((r : S) (q : T) → I r q → IsAnsweredBySome t u c I r q) → (steps : ℕ) (r : S) (q : T) → I r q → Answers t u c steps r q
answers_by_some t u c I next zero r q i = simulations.Answers.so_far
answers_by_some t u c I next (suc n) r q i = let a = next r q i in by_some a.further a.bound a.shown (answers_by_some t u c I next n _ _ a.states)

pub stuttering_simulation : {S T E : Type 0} (t : Machine S E) (u : Machine T E) (c : ℕ) (I : S → T → Type 0) → ((r : S) (q : T) → I r q → IsAnsweredBySome t u c I r q) → (r : S) (q : T) → I r q →
    (n : ℕ) → IsPrefix (events_of t r n) (events_of u q (c * n)) × IsPrefix (events_of u q n) (events_of t r n)
stuttering_simulation t u c I next r q i = answered_traces_are_bounded t u c r q (λ steps. answers_by_some t u c I next steps r q i)
