-- Places in lists, and consecutive numbers.
use Rattle.std.specs.Prelude.{ℕ, zero, suc, List, [], ◌∷◌, Option, Some, None, Bool, cond}

-- `count` consecutive numbers, beginning with `from`.
abbrev pub numbers : (from count : ℕ) → List ℕ
numbers n zero = []
numbers n (suc count) = n ∷ numbers (suc n) count

-- The first place whose element passes the test, counted from `n`.
abbrev pub first_place : {A : Type 0} → (A → Bool) → List A → ℕ → Option ℕ
first_place is [] n = None
first_place is (x ∷ xs) n = cond (is x) (Some n) (first_place is xs (suc n))

-- The places whose elements pass the test, counted from `n`.
abbrev pub places : {A : Type 0} → (A → Bool) → List A → ℕ → List ℕ
places is [] n = []
places is (x ∷ xs) n = cond (is x) (n ∷ places is xs (suc n)) (places is xs (suc n))

-- How many elements pass the test.
abbrev pub count_of : {A : Type 0} → (A → Bool) → List A → ℕ
count_of is [] = 0
count_of is (x ∷ xs) = cond (is x) (suc (count_of is xs)) (count_of is xs)
