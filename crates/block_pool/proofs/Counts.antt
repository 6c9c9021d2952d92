-- The number of elements that pass a test, before and after one element is replaced.
use Rattle.base_lists.proofs.Common.{cases_lt, ◌≡◌, ℕ, zero, suc, ◌+◌, ◌<◌, ◌≤◌, List, [], ◌∷◌, length, Bool, true, false, Option, Some, None, is_some, cond, slice_index_or, slice_set, count_by, refl, sym, ap, ◌∙◌, inl, inr, arith, get_or_past, none-some}
use Rattle.std.proofs.lemmas.List.Sums.{sum_by-set, sum_by-cons}

abbrev pub flag : Bool → ℕ
flag b = cond b 1 0

pub counted_set : {A : Type 0} (p : A → Bool) (xs : List A) (k : ℕ) (y d : A) → k < length xs → count_by p (slice_set xs k y) + flag (p (slice_index_or xs k d)) ≡ count_by p xs + flag (p y)
counted_set p xs k y d h = sum_by-set (λ x. cond (p x) 1 0) xs k y d h

pub there : {A : Type 0} (xs : List (Option A)) (k : ℕ) (v : A) → slice_index_or xs k None ≡ Some v → k < length xs
there xs k v e = elim (cases_lt k (length xs)) [ inl h ↦ h | inr h ↦ absurd (none-some v (sym (get_or_past xs k None h) ∙ e)) ]

-- Replacing a value by another leaves the number of values.
pub as_many : {A : Type 0} (xs : List (Option A)) (k : ℕ) (v w : A) → slice_index_or xs k None ≡ Some v → count_by is_some (slice_set xs k (Some w)) ≡ count_by is_some xs
as_many xs k v w e =
    let h : k < length xs = there xs k v e in
    let f : is_some (slice_index_or xs k None) ≡ true = ap is_some e in
    let g : count_by is_some (slice_set xs k (Some w)) + flag (is_some (slice_index_or xs k None)) ≡ count_by is_some xs + 1 = counted_set is_some xs k (Some w) None h in
    omega (arith, rw f at g)

pub count_step : {A : Type 0} (p : A → Bool) (x : A) (xs : List A) → count_by p (x ∷ xs) ≡ flag (p x) + count_by p xs
count_step p x xs = sum_by-cons (λ y. cond (p y) 1 0) x xs

flag_within : (a b : Bool) → (a ≡ true → b ≡ true) → flag a ≤ flag b
flag_within true b h = rw (h refl) (omega arith)
flag_within false b h = omega arith

-- A stronger test is passed by at most as many elements.
pub count_within : {A : Type 0} (p q : A → Bool) → ((x : A) → p x ≡ true → q x ≡ true) → (xs : List A) → count_by p xs ≤ count_by q xs
count_within p q h [] = omega arith
count_within p q h (x ∷ xs) = omega (arith, count_step p x xs, count_step q x xs, flag_within (p x) (q x) (h x), count_within p q h xs)

-- A stronger test is passed by fewer elements if one element passes only the weaker test.
pub count_fewer : {A : Type 0} (p q : A → Bool) → ((x : A) → p x ≡ true → q x ≡ true) → (xs : List A) (k : ℕ) (d : A) → k < length xs → p (slice_index_or xs k d) ≡ false → q (slice_index_or xs k d) ≡ true → count_by p xs < count_by q xs
count_fewer p q h [] k d i e f = absurd (omega arith)
count_fewer p q h (x ∷ xs) zero d i e f =
    let g : flag (p x) ≡ 0 = ap flag e in
    let j : flag (q x) ≡ 1 = ap flag f in
    omega (arith, count_step p x xs, count_step q x xs, g, j, count_within p q h xs)
count_fewer p q h (x ∷ xs) (suc k) d i e f =
    omega (arith, count_step p x xs, count_step q x xs, flag_within (p x) (q x) (h x), count_fewer p q h xs k d (omega arith) e f)
