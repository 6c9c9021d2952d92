-- Parts of lists: cut off, cut out, written over, repeated.
use Rattle.std.specs.Prelude.{ℕ, zero, suc, List, [], ◌∷◌, ◌++◌, length, Option, Some, None}
use Rattle.base_lists.specs.Options.{◌>>=◌}

-- The first list, reversed, on top of the second.
abbrev pub onto : {A : Type 0} → List A → List A → List A
onto [] ys = ys
onto (x ∷ xs) ys = onto xs (x ∷ ys)

-- The first n elements, and those after them; `None` if there are fewer than n.
abbrev pub split_at : {A : Type 0} → ℕ → List A → Option (List A × List A)
split_at zero xs = Some ([], xs)
split_at (suc n) [] = None
split_at (suc n) (x ∷ xs) = split_at n xs >>= λ p. Some (x ∷ p.0, p.1)

-- The n elements from `place` on; `None` if the range passes the end.
abbrev pub slice : {A : Type 0} → List A → (place n : ℕ) → Option (List A)
slice xs place n = split_at place xs >>= λ p. split_at n p.1 >>= λ q. Some q.0

-- The first list with the second in it from `place` on; `None` if the range passes the end.
abbrev pub overwrite : {A : Type 0} → List A → (place : ℕ) → List A → Option (List A)
overwrite xs place ys = split_at place xs >>= λ p. split_at (length ys) p.1 >>= λ q. Some (p.0 ++ (ys ++ q.1))

abbrev pub copies : {A : Type 0} → ℕ → A → List A
copies zero v = []
copies (suc n) v = v ∷ copies n v
