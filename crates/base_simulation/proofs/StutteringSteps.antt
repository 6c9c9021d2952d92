-- Stuttering steps: steps of a machine that show no event. A simulation may answer one step by some
-- of them.
use Rattle.std.proofs.Common.{◌≡◌, ℕ, zero, suc, List, [], Option, None, refl, ap, ◌∙◌}
use Rattle.std.specs.List.{cons_option}
use Rattle.base_simulation.specs.Machines.{Machine, events_of, state_after}

-- The machine makes this number of steps from the first state to the second, and none shows an
-- event.
pub data StutteringSteps {S E : Type 0} (t : Machine S E) : ℕ → S → S → Type 0 where
  here : {s : S} → StutteringSteps t zero s s
  before : {n : ℕ} {s r q : S} → t s ≡ (r, None) → StutteringSteps t n r q → StutteringSteps t (suc n) s q

module _ {S E : Type 0} (t : Machine S E) where
  pub stuttering_state : {n : ℕ} {s q : S} → StutteringSteps t n s q → state_after t s n ≡ q
  stuttering_state here = refl
  stuttering_state {n = suc n} (before e rest) = ap (λ o. state_after t o.0 n) e ∙ stuttering_state rest

  pub stuttering_events : {n : ℕ} {s q : S} → StutteringSteps t n s q → events_of t s n ≡ []
  stuttering_events here = refl
  stuttering_events {n = suc n} (before e rest) = ap (λ o. cons_option o.1 (events_of t o.0 n)) e ∙ stuttering_events rest

  -- The state after a number of stuttering steps and one more step.
  pub last_state : {n : ℕ} {s q : S} {o : S × Option E} → StutteringSteps t n s q → t q ≡ o → state_after t s (suc n) ≡ o.0
  last_state here f = ap (λ o. o.0) f
  last_state {n = suc n} (before e rest) f = ap (λ o. state_after t o.0 (suc n)) e ∙ last_state rest f

  pub last_events : {n : ℕ} {s q : S} {o : S × Option E} → StutteringSteps t n s q → t q ≡ o → events_of t s (suc n) ≡ cons_option o.1 []
  last_events here f = ap (λ o. cons_option o.1 []) f
  last_events {n = suc n} (before e rest) f = ap (λ o. cons_option o.1 (events_of t o.0 (suc n))) e ∙ last_events rest f

-- A number of stuttering steps followed by one more.
pub one_more : {S E : Type 0} (t : Machine S E) {n : ℕ} {s q r : S} → StutteringSteps t n s q → t q ≡ (r, None) → StutteringSteps t (suc n) s r
one_more t here e = before e here
one_more t (before f rest) e = before f (one_more t rest e)
