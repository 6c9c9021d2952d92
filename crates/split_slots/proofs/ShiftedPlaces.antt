-- The new indices of kept functions, which follow a number of other functions.
use Rattle.base_lists.proofs.Common.{◌≡◌, ℕ, zero, suc, ◌+◌, ◌-◌, ◌^◌, ◌<◌, arith, Bool, List, [], ◌∷◌, take, refl, drop, length, Some, sym, ap, ◌∙◌, slice_get, slice_get_within, length-map, length-numbers, drop_at, slice_index_is}
use Rattle.base_lists.specs.Places.{numbers}
use Rattle.base_kept.specs.Kept.{kept_before, new_places}
use Rattle.base_kept.proofs.Laws.{before_most, new_place}

pub many_places : (marks : List Bool) → length (new_places marks) ≡ length marks
many_places marks = length-map (numbers 0 (length marks)) (kept_before marks) ∙ length-numbers 0 (length marks)

-- A new index after the other functions is within u32 where the number of all functions is.
pub places_few : (marks : List Bool) (from count i place : ℕ) → length marks + count < 2 ^ 32 → slice_get (drop from (new_places marks)) i ≡ Some place → count + place < 2 ^ 32
places_few marks from count i place few at =
    let there = sym (drop_at (new_places marks) from i) ∙ at in
    let within = slice_get_within (new_places marks) (from + i) place there in
    let many = many_places marks in
    let lt : from + i < length marks = omega (arith, within, many) in
    let is = sym (slice_index_is (new_places marks) (from + i) place there) ∙ new_place marks (from + i) lt in
    let most = before_most marks (from + i) in
    omega (arith, is, most, lt, few)

take_whole : {A : Type 0} (xs : List A) (n : ℕ) → length xs ≡ n → take n xs ≡ xs
take_whole [] zero e = refl
take_whole [] (suc n) e = refl
take_whole (x ∷ xs) zero e = absurd (omega (arith, e))
take_whole (x ∷ xs) (suc n) e = let less : length xs ≡ n = omega (arith, e) in ap (λ ys. x ∷ ys) (take_whole xs n less)

rest_many : {A : Type 0} (xs : List A) (n : ℕ) → length (drop n xs) ≡ length xs - n
rest_many [] zero = let e : 0 ≡ 0 - 0 = omega arith in e
rest_many [] (suc n) = let e : 0 ≡ 0 - suc n = omega arith in e
rest_many (x ∷ xs) zero = let e : suc (length xs) ≡ suc (length xs) - 0 = omega arith in e
rest_many (x ∷ xs) (suc n) = let e : length xs - n ≡ suc (length xs) - suc n = omega arith in rest_many xs n ∙ e

-- The rest of a list from a place on is also a slice up to its length.
pub rest_is : {A : Type 0} (xs : List A) (n : ℕ) → take (length xs - n) (drop n xs) ≡ drop n xs
rest_is xs n = take_whole (drop n xs) (length xs - n) (rest_many xs n)
