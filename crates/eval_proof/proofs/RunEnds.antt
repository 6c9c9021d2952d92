-- A run of enough steps ends, in the one stage to which its steps lead.
use Rattle.base_lists.proofs.Common.{◌≡◌, ℕ, zero, suc, ◌<◌, false, refl, arith}
use Rattle.std.proofs.lemmas.Bool.{true≢false}
use Rattle.wasm_tree_spec.specs.Prelude.{Module}
use Rattle.eval_spec.specs.Prelude.{Stage, Going, Stopped, Finished, is_going, quiet_step, ComesTo, here, on, after_steps, weight}
use Rattle.eval_proof.specs.EndsAndCounts.{RunsEnd, EndsAreReached, QuietEndsAreUnique}
use Rattle.eval_proof.proofs.FallingWeight.{Less, falls}

-- A stage that is not going on stays so after any number of steps.
still : (m : Module) (n : ℕ) (t : Stage) → is_going t ≡ false → is_going (after_steps m n t) ≡ false
still m zero t e = e
still m (suc n) (Stopped x left) e = e
still m (suc n) (Finished s) e = e
still m (suc n) (Going s es) e = absurd (true≢false e)

ended : (m : Module) (n : ℕ) (t : Stage) → weight t < n → is_going (after_steps m n t) ≡ false
ended m zero t lt = absurd (omega (arith, lt))
ended m (suc n) (Stopped x left) lt = refl
ended m (suc n) (Finished s) lt = refl
ended m (suc n) (Going s es) lt = by (quiet_step m s es) (falls m s es) (ended m n)
  where
    by : (t : Stage) → Less (weight (Going s es)) t → ((u : Stage) → weight u < n → is_going (after_steps m n u) ≡ false) → is_going (after_steps m n t) ≡ false
    by (Going t fs) less more = more (Going t fs) (omega (arith, less, lt))
    by (Stopped x left) less more = still m n (Stopped x left) refl
    by (Finished t) less more = still m n (Finished t) refl

pub runs_end : RunsEnd
runs_end m t = ended m (suc (weight t)) t (omega arith)

leads : (m : Module) (n : ℕ) (t : Stage) → ComesTo m t (after_steps m n t)
leads m zero t = here
leads m (suc n) (Going s es) = on (leads m n (quiet_step m s es))
leads m (suc n) (Stopped x left) = here
leads m (suc n) (Finished s) = here

pub ends_are_reached : EndsAreReached
ends_are_reached m t = leads m (suc (weight t)) t

-- A run has only one end.
one_end : {m : Module} {t u v : Stage} → ComesTo m t u → ComesTo m t v → is_going u ≡ false → is_going v ≡ false → u ≡ v
one_end here here e f = refl
one_end here (on q) e f = absurd (true≢false e)
one_end (on p) here e f = absurd (true≢false f)
one_end (on p) (on q) e f = one_end p q e f

pub quiet_ends_are_unique : QuietEndsAreUnique
quiet_ends_are_unique m t u p e = one_end (ends_are_reached m t) p (runs_end m t) e
