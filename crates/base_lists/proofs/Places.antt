-- What stands at a place of a list, and of a list that is mapped, joined or written. Std has
-- `slice_get_within`, `slice_get_past` and `slice_get-map`.
use Rattle.std.proofs.Common.{◌≡◌, ◌≢◌, ◌∙◌, ap, refl, ℕ, zero, suc, ◌+◌, ◌<◌, ◌≤◌, List, [], ◌∷◌, ◌++◌, map, length, drop, replicate, Some, None, arith, ◌⊎◌, inl, inr, slice_get, slice_set, slice_index, ap₂, sym}

-- The element x stands somewhere in the list xs.
abbrev pub Has : {A : Type 0} → List A → A → Type 0
Has xs x = (p : ℕ) × (slice_get xs p ≡ Some x)

pub slice_get_there : {A : Type 0} (xs : List A) (n : ℕ) → n < length xs → (x : A) × (slice_get xs n ≡ Some x)
slice_get_there [] n l = absurd (omega (arith, l))
slice_get_there (x ∷ xs) zero l = (x, refl)
slice_get_there (x ∷ xs) (suc n) l = slice_get_there xs n (omega (arith, l))

pub slice_get_none : {A : Type 0} (xs : List A) (n : ℕ) → slice_get xs n ≡ None → length xs ≤ n
slice_get_none [] n h = omega arith
slice_get_none (x ∷ xs) zero h = cc
slice_get_none (x ∷ xs) (suc n) h = let l = slice_get_none xs n h in omega (arith, l)

pub slice_index_is : (xs : List ℕ) (n x : ℕ) → slice_get xs n ≡ Some x → slice_index xs n ≡ x
slice_index_is [] n x h = cc
slice_index_is (y ∷ ys) zero x h = let same : y ≡ x = cc in same
slice_index_is (y ∷ ys) (suc n) x h = slice_index_is ys n x h

-- ---- mapped ----

pub map_at : {A B : Type 0} (f : A → B) (xs : List A) (n : ℕ) (x : A) → slice_get xs n ≡ Some x → slice_get (map f xs) n ≡ Some (f x)
map_at f [] n x h = cc
map_at f (y ∷ ys) zero x h = let same : y ≡ x = cc in ap (λ z. Some (f z)) same
map_at f (y ∷ ys) (suc n) x h = map_at f ys n x h

pub map_from : {A B : Type 0} (f : A → B) (xs : List A) (n : ℕ) (y : B) → slice_get (map f xs) n ≡ Some y → (x : A) × (slice_get xs n ≡ Some x) × (f x ≡ y)
map_from f [] n y h = absurd (let k = h in cc)
map_from f (x ∷ xs) zero y h = (x, refl, (let same : f x ≡ y = cc in same))
map_from f (x ∷ xs) (suc n) y h = map_from f xs n y h

pub map_twice : {A B C : Type 0} (f : B → C) (g : A → B) (xs : List A) → map f (map g xs) ≡ map (λ x. f (g x)) xs
map_twice f g [] = refl
map_twice f g (x ∷ xs) = ap (λ ys. f (g x) ∷ ys) (map_twice f g xs)

-- A map that leaves each element unchanged leaves the list unchanged.
pub map_stays : {A : Type 0} (f : A → A) (xs : List A) → ((n : ℕ) (x : A) → slice_get xs n ≡ Some x → f x ≡ x) → map f xs ≡ xs
map_stays f [] h = refl
map_stays f (x ∷ xs) h = ap₂ (λ y ys. y ∷ ys) (h 0 x refl) (map_stays f xs (λ n. h (suc n)))

-- ---- joined ----

pub append_at_left : {A : Type 0} (xs ys : List A) (n : ℕ) (x : A) → slice_get xs n ≡ Some x → slice_get (xs ++ ys) n ≡ Some x
append_at_left [] ys n x h = cc
append_at_left (z ∷ xs) ys zero x h = h
append_at_left (z ∷ xs) ys (suc n) x h = append_at_left xs ys n x h

pub append_left : {A : Type 0} (xs ys : List A) (n : ℕ) → n < length xs → slice_get (xs ++ ys) n ≡ slice_get xs n
append_left [] ys n h = absurd (omega arith)
append_left (x ∷ xs) ys zero h = refl
append_left (x ∷ xs) ys (suc n) h = append_left xs ys n (omega arith)

pub append_right : {A : Type 0} (xs ys : List A) (n : ℕ) → slice_get (xs ++ ys) (length xs + n) ≡ slice_get ys n
append_right [] ys n = let e : 0 + n ≡ n = omega arith in ap (slice_get ys) e
append_right (z ∷ xs) ys n = let e : suc (length xs) + n ≡ suc (length xs + n) = omega arith in ap (slice_get (z ∷ xs ++ ys)) e ∙ append_right xs ys n

pub has_left : {A : Type 0} (xs ys : List A) (x : A) → Has xs x → Has (xs ++ ys) x
has_left xs ys x h = (h.0, append_at_left xs ys h.0 x h.1)

pub has_right : {A : Type 0} (xs ys : List A) (x : A) → Has ys x → Has (xs ++ ys) x
has_right xs ys x h = (length xs + h.0, append_right xs ys h.0 ∙ h.1)

-- An entry of two joined lists is an entry of the first or of the second.
pub append_from : {A : Type 0} (xs ys : List A) (n : ℕ) (x : A) → slice_get (xs ++ ys) n ≡ Some x → (slice_get xs n ≡ Some x) ⊎ ((k : ℕ) × (n ≡ length xs + k) × (slice_get ys k ≡ Some x))
append_from [] ys n x h = inr (n, omega arith, h)
append_from (z ∷ xs) ys zero x h = inl h
append_from (z ∷ xs) ys (suc n) x h = by (append_from xs ys n x h)
  where
    by : (slice_get xs n ≡ Some x) ⊎ ((k : ℕ) × (n ≡ length xs + k) × (slice_get ys k ≡ Some x)) → (slice_get xs n ≡ Some x) ⊎ ((k : ℕ) × (suc n ≡ suc (length xs) + k) × (slice_get ys k ≡ Some x))
    by (inl e) = inl e
    by (inr r) = let e = r.1 in inr (r.0, omega (arith, e), r.2)

-- An index into two joined lists is one into the first list or, from its length on, one into the
-- second.
pub index_left : (xs ys : List ℕ) (i : ℕ) → i < length xs → slice_index (xs ++ ys) i ≡ slice_index xs i
index_left xs ys i lt = let x = slice_get_there xs i lt in slice_index_is (xs ++ ys) i x.0 (append_at_left xs ys i x.0 x.1) ∙ sym (slice_index_is xs i x.0 x.1)

pub index_right : (xs ys : List ℕ) (n j x : ℕ) → n ≡ length xs → slice_get ys j ≡ Some x → slice_index (xs ++ ys) (n + j) ≡ x
index_right xs ys n j x e h = ap (λ k. slice_index (xs ++ ys) (k + j)) e ∙ slice_index_is (xs ++ ys) (length xs + j) x (append_right xs ys j ∙ h)

pub push_last : {A : Type 0} (xs : List A) (y : A) → slice_get (xs ++ y ∷ []) (length xs) ≡ Some y
push_last [] y = refl
push_last (x ∷ xs) y = push_last xs y

pub push_before : {A : Type 0} (xs : List A) (y : A) (n : ℕ) (x : A) → n ≢ length xs → slice_get (xs ++ y ∷ []) n ≡ Some x → slice_get xs n ≡ Some x
push_before [] y zero x ne h = absurd (ne refl)
push_before [] y (suc n) x ne h = cc
push_before (z ∷ xs) y zero x ne h = h
push_before (z ∷ xs) y (suc n) x ne h = push_before xs y n x (omega arith) h

-- An entry of a list with one more element is an entry of the list or the new element.
pub push_from : {A : Type 0} (xs : List A) (y : A) (n : ℕ) (x : A) → slice_get (xs ++ y ∷ []) n ≡ Some x → (slice_get xs n ≡ Some x) ⊎ (x ≡ y)
push_from [] y zero x e = inr (let same : x ≡ y = cc in same)
push_from [] y (suc n) x e = cc
push_from (z ∷ zs) y zero x e = inl e
push_from (z ∷ zs) y (suc n) x e = push_from zs y n x e

pub drop_at : {A : Type 0} (xs : List A) (n k : ℕ) → slice_get (drop n xs) k ≡ slice_get xs (n + k)
drop_at xs zero k = let e : k ≡ zero + k = omega arith in ap (slice_get xs) e
drop_at [] (suc n) k = refl
drop_at (x ∷ xs) (suc n) k = drop_at xs n k ∙ (let e : suc (n + k) ≡ suc n + k = omega arith in ap (slice_get (x ∷ xs)) e)

-- ---- written ----

pub set_at : {A : Type 0} (xs : List A) (n : ℕ) (y : A) → n < length xs → slice_get (slice_set xs n y) n ≡ Some y
set_at [] n y h = absurd (omega arith)
set_at (x ∷ xs) zero y h = refl
set_at (x ∷ xs) (suc n) y h = set_at xs n y (omega arith)

pub set_other : {A : Type 0} (xs : List A) (n k : ℕ) (y : A) → k ≢ n → slice_get (slice_set xs n y) k ≡ slice_get xs k
set_other [] n k y h = refl
set_other (x ∷ xs) zero zero y h = absurd (h refl)
set_other (x ∷ xs) zero (suc k) y h = refl
set_other (x ∷ xs) (suc n) zero y h = refl
set_other (x ∷ xs) (suc n) (suc k) y h = set_other xs n k y (omega arith)

-- ---- repeated ----

pub replicate_at : {A : Type 0} (a : A) (n i : ℕ) → i < n → slice_get (replicate n a) i ≡ Some a
replicate_at a zero i lt = absurd (omega arith)
replicate_at a (suc n) zero lt = refl
replicate_at a (suc n) (suc i) lt = replicate_at a n i (omega arith)

pub replicate_within : {A : Type 0} (a b : A) (n i : ℕ) → slice_get (replicate n a) i ≡ Some b → i < n
replicate_within a b zero i e = cc
replicate_within a b (suc n) zero e = omega arith
replicate_within a b (suc n) (suc i) e = let lt = replicate_within a b n i e in omega arith
