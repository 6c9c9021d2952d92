-- The lengths of parts of lists.
use Rattle.std.proofs.Common.{◌≡◌, ℕ, zero, suc, ◌+◌, ◌≤◌, List, [], ◌∷◌, length, take, drop, Option, Some, None, option_and_then, refl, sym, ap, arith}
use Rattle.base_lists.specs.Parts.{split_at, slice, copies, overwrite}
use Rattle.base_lists.proofs.Options.{and_then_is, is_some_there}
use Rattle.std.proofs.lemmas.List.{length-append, length-drop}

-- A list of at least n elements is split into its first n elements and the rest.
pub split_take : {A : Type 0} (n : ℕ) (xs : List A) → n ≤ length xs → split_at n xs ≡ Some (take n xs, drop n xs)
split_take zero xs le = refl
split_take (suc n) [] le = absurd (omega (arith, le))
split_take (suc n) (x ∷ xs) le = rw (split_take n xs (omega (arith, le))) refl

pub split_lengths : {A : Type 0} (n : ℕ) (xs : List A) (p : List A × List A) → split_at n xs ≡ Some p → (length p.0 ≡ n) × (length p.0 + length p.1 ≡ length xs)
split_lengths zero xs p e = let i : ([], xs) ≡ p = cc in rw (← i) (refl, omega arith)
split_lengths (suc n) [] p e = cc
split_lengths {A} (suc n) (x ∷ xs) p e = go (split_at n xs) (split_lengths n xs) e
  where
    go : (o : Option (List A × List A)) → ((q : List A × List A) → o ≡ Some q → (length q.0 ≡ n) × (length q.0 + length q.1 ≡ length xs)) → option_and_then (λ q. Some (x ∷ q.0, q.1)) o ≡ Some p → (length p.0 ≡ suc n) × (length p.0 + length p.1 ≡ suc (length xs))
    go None h e = cc
    go (Some q) h e =
        let i : (x ∷ q.0, q.1) ≡ p = cc in
        let k = h q refl in
        rw (← i) (ap suc k.0, omega (arith, k.1))

pub slice_length : {A : Type 0} (xs : List A) (place n : ℕ) (ys : List A) → slice xs place n ≡ Some ys → length ys ≡ n
slice_length {A} xs place n ys e = go (split_at place xs) e
  where
    inner : (p : List A × List A) (o : Option (List A × List A)) → o ≡ split_at n p.1 → option_and_then (λ q. Some q.0) o ≡ Some ys → length ys ≡ n
    inner p None s e = cc
    inner p (Some q) s e = let i : q.0 ≡ ys = cc in let k = split_lengths n p.1 q (sym s) in rw (← i) k.0

    go : (o : Option (List A × List A)) → option_and_then (λ p. option_and_then (λ q. Some q.0) (split_at n p.1)) o ≡ Some ys → length ys ≡ n
    go None e = cc
    go (Some p) e = inner p (split_at n p.1) refl e

pub copies_length : {A : Type 0} (n : ℕ) (v : A) → length (copies n v) ≡ n
copies_length zero v = refl
copies_length (suc n) v = ap suc (copies_length n v)

pub overwritten_length : {A : Type 0} (xs : List A) (n : ℕ) (ys zs : List A) → overwrite xs n ys ≡ Some zs → length zs ≡ length xs
overwritten_length xs n ys zs e = let p = and_then_is (split_at n xs) _ zs e in grind (arith, length-append, split_lengths n xs, split_lengths (length ys) p.0.1)

-- If the new elements fit into the list, they are written, and its length stays the same.
pub overwrite_fits : {A : Type 0} (xs ys : List A) (n : ℕ) → n + length ys ≤ length xs → (zs : List A) × (overwrite xs n ys ≡ Some zs) × (length zs ≡ length xs)
overwrite_fits xs ys n h =
    let zs = is_some_there (overwrite xs n ys) (grind (arith, split_take, length-drop)) in
    (zs.0, zs.1, overwritten_length xs n ys zs.0 zs.1)
