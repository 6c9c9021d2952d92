-- Numbers in a row, and the test whether two numbers are equal.
use Rattle.std.proofs.Common.{◌≡◌, ◌∙◌, ap, sym, refl, ℕ, zero, suc, ◌+◌, ◌<◌, [], ◌∷◌, ◌++◌, map, length, Some, true, nat_eq, arith, slice_get, slice_index}
use Rattle.std.proofs.lemmas.Option.{slice_get_within}
use Rattle.std.proofs.lemmas.Bool.Decides.{nat_tests}
use Rattle.base_lists.specs.Places.{numbers}
use Rattle.base_lists.proofs.Places.{slice_index_is}

pub same_number : (x y : ℕ) → nat_eq x y ≡ true → x ≡ y
same_number x y h = grind (arith, nat_tests)

pub add_next : (p q : ℕ) → p + suc q ≡ suc p + q
add_next p q = omega arith

pub length-numbers : (from count : ℕ) → length (numbers from count) ≡ count
length-numbers from zero = refl
length-numbers from (suc count) = ap suc (length-numbers (suc from) count)

pub numbers_at : (from count i : ℕ) → i < count → slice_get (numbers from count) i ≡ Some (from + i)
numbers_at from zero i l = absurd (omega (arith, l))
numbers_at from (suc count) zero l = ap Some (let e : from ≡ from + 0 = omega arith in e)
numbers_at from (suc count) (suc i) l = numbers_at (suc from) count i (omega (arith, l)) ∙ ap Some (let e : suc from + i ≡ from + suc i = omega arith in e)

pub numbers_index : (n i : ℕ) → i < n → slice_index (numbers 0 n) i ≡ i
numbers_index n i h = slice_index_is (numbers 0 n) i i (numbers_at 0 n i h ∙ (let e : 0 + i ≡ i = omega arith in ap Some e))

pub number_is : (from count n a : ℕ) → slice_get (numbers from count) n ≡ Some a → (n < count) × (a ≡ from + n)
number_is from count n a h = grind (arith, slice_get_within, length-numbers, numbers_at)

-- The number at a place of the first n numbers is the place itself.
pub numbers_is : (n i v : ℕ) → slice_get (numbers 0 n) i ≡ Some v → (i < n) × (i ≡ v)
numbers_is n i v h =
    let l = slice_get_within (numbers 0 n) i v h in
    let m : i < n = omega (arith, l, length-numbers 0 n) in
    let e : Some (0 + i) ≡ Some v = sym (numbers_at 0 n i m) ∙ h in
    let same : 0 + i ≡ v = cc in
    (m, omega (arith, same))

pub map_numbers_index : (f : ℕ → ℕ) (from count i : ℕ) → i < count → slice_index (map f (numbers from count)) i ≡ f (from + i)
map_numbers_index f from zero i h = absurd (omega arith)
map_numbers_index f from (suc count) zero h = ap f (omega arith)
map_numbers_index f from (suc count) (suc i) h = map_numbers_index f (suc from) count i (omega arith) ∙ ap f (omega arith)

numbers_push : (n i : ℕ) → numbers n (suc i) ≡ numbers n i ++ (n + i) ∷ []
numbers_push n zero = let e : n ≡ n + 0 = omega arith in ap (λ k. k ∷ []) e
numbers_push n (suc i) = let e : suc n + i ≡ n + suc i = omega arith in ap (λ rest. n ∷ rest) (numbers_push (suc n) i ∙ ap (λ k. numbers (suc n) i ++ k ∷ []) e)

pub numbers_more : (n i : ℕ) → numbers n (i + 1) ≡ numbers n i ++ (n + i) ∷ []
numbers_more n i = let e : i + 1 ≡ suc i = omega arith in ap (numbers n) e ∙ numbers_push n i

pub numbers_append : (n i j : ℕ) → numbers n (i + j) ≡ numbers n i ++ numbers (n + i) j
numbers_append n zero j = let e : 0 + j ≡ j = omega arith in let z : n ≡ n + 0 = omega arith in ap (numbers n) e ∙ ap (λ k. numbers k j) z
numbers_append n (suc i) j =
    let e : suc i + j ≡ suc (i + j) = omega arith in
    let z : suc n + i ≡ n + suc i = omega arith in
    ap (numbers n) e ∙ ap (λ rest. n ∷ rest) (numbers_append (suc n) i j ∙ ap (λ k. numbers (suc n) i ++ numbers k j) z)
