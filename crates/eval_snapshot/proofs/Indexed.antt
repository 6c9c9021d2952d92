-- The steps of a loop over a list that writes one element at a time, by its index.
use Rattle.std.proofs.Common.{◌≡◌, ◌∙◌, ap, refl, ℕ, zero, suc, ◌+◌, List, [], ◌∷◌, ◌++◌, take, drop, set, Some, slice_get, add-one, arith}
use Rattle.eval_snapshot_spec.specs.Snapshot.{indexed}

-- The list `xs` with `f` applied to each element before place `i`; indices are counted from `n` on.
abbrev pub written : {A : Type 0} → (ℕ → A → A) → (n : ℕ) → List A → ℕ → List A
written f n xs i = indexed f n (take i xs) ++ drop i xs

pub written_at : {A : Type 0} (f : ℕ → A → A) (n : ℕ) (xs : List A) (i : ℕ) → slice_get (written f n xs i) i ≡ slice_get xs i
written_at f n [] zero = refl
written_at f n [] (suc i) = refl
written_at f n (x ∷ xs) zero = refl
written_at f n (x ∷ xs) (suc i) = written_at f (suc n) xs i

written_suc : {A : Type 0} (f : ℕ → A → A) (n : ℕ) (xs : List A) (i : ℕ) (x y : A) → Some x ≡ slice_get xs i → y ≡ f (n + i) x → set (written f n xs i) i y ≡ written f n xs (suc i)
written_suc f n [] i x y e h = cc
written_suc f n (z ∷ zs) zero x y e h = let same : x ≡ z = cc in ap (λ w. w ∷ zs) (h ∙ ap (λ k. f k x) (let p : n + 0 ≡ n = omega arith in p) ∙ ap (f n) same)
written_suc f n (z ∷ zs) (suc i) x y e h = ap (λ ws. f n z ∷ ws) (written_suc f (suc n) zs i x y e (h ∙ ap (λ k. f k x) (let p : n + suc i ≡ suc n + i = omega arith in p)))

-- The element at place `i` is replaced by the result of `f` on it.
pub written_more : {A : Type 0} (f : ℕ → A → A) (n : ℕ) (xs : List A) (i : ℕ) (x y : A) → Some x ≡ slice_get xs i → y ≡ f (n + i) x → set (written f n xs i) i y ≡ written f n xs (i + 1)
written_more f n xs i x y e h = rw add-one (written_suc f n xs i x y e h)
