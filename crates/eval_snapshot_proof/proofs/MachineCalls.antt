-- Calls of the machine to their ends: a call that ends also ends if more steps are allowed, and a
-- call that a quiet call leads to its last step ends there.
use Rattle.base_lists.proofs.Common.{◌≡◌, ◌∙◌, sym, ap, ℕ, zero, suc, ◌<◌, ◌≤◌, List, Some, arith}
use Rattle.wasm_meaning.specs.Prelude.{Outcome, Gives, Traps, IllTyped, Val, Store, Entry, Next, Ran, CallsOwn, WaitsGrowth, CallsPlaceholder, EndsCall, step}
use Rattle.run_simulation.specs.Prelude.{here, step_on, KnownSteps, none_left, known_step, Pairing}
use Rattle.run_simulation.specs.UnknownPlaces.{GoesOn}
use Rattle.eval_snapshot_proof.specs.EvaluatedWorlds.{store_at_end}

-- ---- more steps ----

-- A call that ends within a number of steps ends in the same store if more steps are allowed.
pub ends_in_more : (n k : ℕ) → n ≤ k → (o : Outcome Next) (t : Store) → store_at_end n o ≡ Some t → store_at_end k o ≡ Some t
ends_in_more n k le (Gives (EndsCall vs s es)) t e = e
ends_in_more zero k le (Gives (Ran s es)) t e = absurd (let f = e in cc)
ends_in_more (suc n) zero le (Gives (Ran s es)) t e = absurd (omega (arith, le))
ends_in_more (suc n) (suc k) le (Gives (Ran s es)) t e = ends_in_more n k (omega (arith, le)) (step s es) t e
ends_in_more zero k le (Gives (CallsOwn p u vs s es)) t e = absurd (let f = e in cc)
ends_in_more (suc n) k le (Gives (CallsOwn p u vs s es)) t e = absurd (let f = e in cc)
ends_in_more zero k le (Gives (WaitsGrowth g size count s es)) t e = absurd (let f = e in cc)
ends_in_more (suc n) k le (Gives (WaitsGrowth g size count s es)) t e = absurd (let f = e in cc)
ends_in_more zero k le (Gives (CallsPlaceholder slot vs s es)) t e = absurd (let f = e in cc)
ends_in_more (suc n) k le (Gives (CallsPlaceholder slot vs s es)) t e = absurd (let f = e in cc)
ends_in_more zero k le Traps t e = absurd (let f = e in cc)
ends_in_more (suc n) k le Traps t e = absurd (let f = e in cc)
ends_in_more zero k le IllTyped t e = absurd (let f = e in cc)
ends_in_more (suc n) k le IllTyped t e = absurd (let f = e in cc)

-- ---- steps that go on, and the last one ----

pub ends_after : (k : ℕ) (s r t : Store) (es gs hs : List Entry) (vs : List Val) → GoesOn k s es r gs → step r gs ≡ Gives (EndsCall vs t hs) → store_at_end (suc k) (Gives (Ran s es)) ≡ Some t
ends_after _ s _ t es _ hs vs here e = ap (store_at_end 0) e
ends_after _ s r t es gs hs vs (step_on {n = n} {t = u} {fs = fs} f more) e = ap (store_at_end (suc n)) f ∙ ends_after n u r t fs gs hs vs more e

-- The steps that a call makes before its end are fewer than the steps within which it ends.
pub goes_within : (k n : ℕ) (s r t : Store) (es gs : List Entry) → GoesOn k s es r gs → store_at_end n (Gives (Ran s es)) ≡ Some t → k < n
goes_within k zero s r t es gs g e = absurd (let f = e in cc)
goes_within _ (suc n) s _ t es _ here e = omega arith
goes_within _ (suc n) s r t es gs (step_on {n = k} {t = u} {fs = fs} f more) e =
    let less = goes_within k n u r t fs gs more (ap (store_at_end n) (sym f) ∙ e) in omega (arith, less)

pub known_go_on : (R : Pairing) (k : ℕ) (u v : _) (s r : Store) (es gs : List Entry) → KnownSteps R k u s es v r gs → GoesOn k s es r gs
known_go_on R _ u _ s _ es _ none_left = here
known_go_on R _ u v s r es gs (known_step {n = n} {t = t} {fs = fs} reads skips known f more) = step_on f (known_go_on R n _ v t r fs gs more)
