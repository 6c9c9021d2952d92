-- The count of evaluated constructors is the greatest length of a quiet prefix.
use Rattle.base_lists.proofs.Common.{◌≡◌, ℕ, zero, suc, ◌≤◌, List, [], ◌∷◌, length, take, Bool, true, false, cond, refl, sym, ap, arith}
use Rattle.std.proofs.lemmas.Bool.{true≢false}
use Rattle.wasm_tree_spec.specs.Prelude.{Module}
use Rattle.eval_spec.specs.declared.limits.TheConstants.{MOST_TURNS}
use Rattle.eval_spec.specs.Prelude.{State, Stage, Going, Stopped, Finished, is_finished, call_end, booted, called_in_order, calls_finished}
use Rattle.eval_proof.specs.EndsAndCounts.{CountedAreQuiet, QuietAreCounted}

over_state : (t : Stage) → is_finished t ≡ true → (s : State) × (t ≡ Finished s)
over_state (Finished s) e = (s, refl)
over_state (Going s es) e = absurd (true≢false (sym e))
over_state (Stopped x left) e = absurd (true≢false (sym e))

-- Calls in order that finish begin at a stage that is finished.
began_over : (m : Module) (t : Stage) (funcs : List ℕ) → is_finished (called_in_order m t funcs) ≡ true → is_finished t ≡ true
began_over m (Finished s) funcs e = refl
began_over m (Going s es) funcs e = e
began_over m (Stopped x left) funcs e = e

counted : (m : Module) (t : Stage) (funcs : List ℕ) → is_finished t ≡ true → is_finished (called_in_order m t (take (calls_finished m t funcs) funcs)) ≡ true
counted m (Going s es) funcs e = absurd (true≢false (sym e))
counted m (Stopped x left) funcs e = absurd (true≢false (sym e))
counted m (Finished s) [] e = refl
counted m (Finished s) (f ∷ funcs) e = by (is_finished (call_end m s f)) refl (counted m (call_end m s f) funcs)
  where
    by : (b : Bool) → is_finished (call_end m s f) ≡ b → (is_finished (call_end m s f) ≡ true → is_finished (called_in_order m (call_end m s f) (take (calls_finished m (call_end m s f) funcs) funcs)) ≡ true) →
        is_finished (called_in_order m (Finished s) (take (cond b (suc (calls_finished m (call_end m s f) funcs)) 0) (f ∷ funcs))) ≡ true
    by true o more = more o
    by false o more = refl

greatest : (m : Module) (n : ℕ) (t : Stage) (funcs : List ℕ) → n ≤ length funcs → is_finished (called_in_order m t (take n funcs)) ≡ true → n ≤ calls_finished m t funcs
greatest m zero t funcs le e = omega arith
greatest m (suc n) t [] le e = absurd (omega (arith, le))
greatest m (suc n) (Going s es) (f ∷ funcs) le e = absurd (true≢false (sym e))
greatest m (suc n) (Stopped x left) (f ∷ funcs) le e = absurd (true≢false (sym e))
greatest m (suc n) (Finished s) (f ∷ funcs) le e = rw (began_over m (call_end m s f) (take n funcs) e) (let h = greatest m n (call_end m s f) funcs (omega (arith, le)) e in omega (arith, h))

pub counted_are_quiet : CountedAreQuiet
counted_are_quiet m funcs q = over_state _ (counted m (booted m MOST_TURNS) funcs (began_over m (booted m MOST_TURNS) [] (ap is_finished q.1)))

pub quiet_are_counted : QuietAreCounted
quiet_are_counted m funcs n le q = greatest m n (booted m MOST_TURNS) funcs le (ap is_finished q.1)
