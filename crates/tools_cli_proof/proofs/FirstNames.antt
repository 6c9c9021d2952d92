-- The first of names under which functions are exported.
use Rattle.base_lists.proofs.Common.{◌≡◌, ap, refl, ℕ, zero, suc, List, [], ◌∷◌, take, is_some, cond, Option, Some, None, cons_option}
use Rattle.wasm_tree_spec.specs.Prelude.{Module}
use Rattle.wasm_meaning.specs.Prelude.{Text}
use Rattle.eval_snapshot_spec.specs.Evaluated.{first_missing, func_named, funcs_named}

-- The first `n` of names that are not missing are not missing, and their functions are the first
-- `n`.
pub first_there : (m : Module) (names : List Text) (n : ℕ) → first_missing m names ≡ None → first_missing m (take n names) ≡ None
first_there m names zero h = refl
first_there m [] (suc n) h = refl
first_there m (name ∷ names) (suc n) h = by (func_named m name) h (first_there m names n)
  where
    by : (o : Option ℕ) → cond (is_some o) (first_missing m names) (Some name) ≡ None → (first_missing m names ≡ None → first_missing m (take n names) ≡ None) → cond (is_some o) (first_missing m (take n names)) (Some name) ≡ None
    by None e later = absurd (cc)
    by (Some func) e later = later e

pub first_funcs : (m : Module) (names : List Text) (n : ℕ) → first_missing m names ≡ None → funcs_named m (take n names) ≡ take n (funcs_named m names)
first_funcs m names zero h = refl
first_funcs m [] (suc n) h = refl
first_funcs m (name ∷ names) (suc n) h = by (func_named m name) h (first_funcs m names n)
  where
    by : (o : Option ℕ) → cond (is_some o) (first_missing m names) (Some name) ≡ None → (first_missing m names ≡ None → funcs_named m (take n names) ≡ take n (funcs_named m names)) →
        cons_option o (funcs_named m (take n names)) ≡ take (suc n) (cons_option o (funcs_named m names))
    by None e later = absurd (cc)
    by (Some func) e later = ap (λ l. func ∷ l) (later e)
