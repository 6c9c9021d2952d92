-- The loop that makes the body of a trampoline, one instruction at a time.
use Rattle.base_lists.proofs.Common.{◌≡◌, ℕ, suc, ◌+◌, List, [], ◌∷◌, ◌++◌, append_assoc, map, length, refl, ap, ◌∙◌, zero-add, map-append, numbers_more}
use Rattle.base_lists.specs.Places.{numbers}
use Rattle.wasm_tree_spec.specs.Prelude.{ValType, LocalGet}
use Rattle.run_simulation.specs.Prelude.{gets}

-- A step over one number: the value of the function for it follows the others.
pub numbered_more : {A : Type 0} (f : ℕ → A) (n k : ℕ) → map f (numbers n (k + 1)) ≡ map f (numbers n k) ++ f (n + k) ∷ []
numbered_more f n k = ap (map f) (numbers_more n k) ∙ map-append f (numbers n k) ((n + k) ∷ [])

pub counted_more : {A : Type 0} (f : ℕ → A) (k : ℕ) → map f (numbers 0 (k + 1)) ≡ map f (numbers 0 k) ++ f k ∷ []
counted_more f k = numbered_more f 0 k ∙ ap (λ n. map f (numbers 0 k) ++ f n ∷ []) (zero-add k)

pub push_two : {A : Type 0} (xs : List A) (x y : A) → (xs ++ x ∷ []) ++ y ∷ [] ≡ xs ++ x ∷ (y ∷ [])
push_two xs x y = append_assoc xs (x ∷ []) (y ∷ [])

pub gets_are : (n : ℕ) (ts : List ValType) → gets n ts ≡ map LocalGet (numbers n (length ts))
gets_are n [] = refl
gets_are n (t ∷ ts) = ap (λ is. LocalGet n ∷ is) (gets_are (suc n) ts)
