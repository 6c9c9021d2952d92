-- The loop that makes the list of the slots of functions, one slot at a time.
use Rattle.base_lists.proofs.Common.{◌≡◌, ◌≢◌, ℕ, zero, suc, ◌+◌, ◌-◌, ◌<◌, ◌≤◌, Bool, true, false, cond, List, [], ◌∷◌, ◌++◌, map, take, length, nat_eq, Option, Some, None, refl, sym, ap, ap₂, ◌∙◌, arith, slice_get, slice_set, slice_index, replicate, subst, is_some, unwrap_or, ◌||◌}
use Rattle.base_lists.proofs.Common.{IsStrictlyIncreasing, eq-eqb, every_at, map_at, slice_get_none, slice_get_there, slice_index_is, length-numbers, numbers_is, same_number}
use Rattle.base_lists.specs.Members.{is_among}
use Rattle.base_lists.specs.Every.{Every}
use Rattle.base_lists.specs.Places.{first_place, numbers}
use Rattle.split_spec.specs.Prelude.{place_among}
use Rattle.split_slots.specs.SlotLookup.{slot_at}

-- ---- one entry of a table ----

same_from : {X : Type 0} (g h : ℕ → X) (a n : ℕ) → ((j : ℕ) → a ≤ j → h j ≡ g j) → map g (numbers a n) ≡ map h (numbers a n)
same_from g h a zero same = refl
same_from g h a (suc n) same = ap₂ (λ x xs. x ∷ xs) (sym (same a (omega arith))) (same_from g h (suc a) n (λ j le. same j (omega (arith, le))))

set_one : {X : Type 0} (g h : ℕ → X) (a n i : ℕ) (v : X) → i < n → h (a + i) ≡ v → ((j : ℕ) → j ≢ a + i → h j ≡ g j) → slice_set (map g (numbers a n)) i v ≡ map h (numbers a n)
set_one g h a zero i v lt is same = absurd (omega (arith, lt))
set_one g h a (suc n) zero v lt is same =
    let here : a + zero ≡ a = omega arith in
    ap₂ (λ x xs. x ∷ xs) (sym is ∙ ap h here) (same_from g h (suc a) n (λ j le. same j (λ e. absurd (omega (arith, e, le)))))
set_one g h a (suc n) (suc i) v lt is same =
    let there : suc a + i ≡ a + suc i = omega arith in
    let less : i < n = omega (arith, lt) in
    ap₂ (λ x xs. x ∷ xs) (sym (same a (λ e. absurd (omega (arith, e))))) (set_one g h (suc a) n i v less (ap h there ∙ is) (λ j other. same j (λ e. other (e ∙ sym there))))

-- ---- the first place of a number ----

pub no_number : (x y : ℕ) → x ≢ y → nat_eq x y ≡ false
no_number x y other = split (nat_eq x y) refl
  where
    split : (b : Bool) → nat_eq x y ≡ b → nat_eq x y ≡ false
    split true e = absurd (other (same_number x y e))
    split false e = e

-- The place of a number that differs from the last of a list is its place in the list without the
-- last.
other_place : (j y : ℕ) → j ≢ y → (xs : List ℕ) (n : ℕ) → first_place (nat_eq j) (xs ++ y ∷ []) n ≡ first_place (nat_eq j) xs n
other_place j y other [] n = rw (no_number j y other) refl
other_place j y other (x ∷ xs) n = ap (λ o. cond (nat_eq j x) (Some n) o) (other_place j y other xs (suc n))

-- The place of the last number of a list, where no number before it is equal to it.
last_place : (y : ℕ) (xs : List ℕ) (n : ℕ) → ((i x : ℕ) → slice_get xs i ≡ Some x → x ≢ y) → first_place (nat_eq y) (xs ++ y ∷ []) n ≡ Some (n + length xs)
last_place y [] n new = rw (nat_eq-refl y) (let e : n ≡ n + 0 = omega arith in ap Some e)
  where
    nat_eq-refl : (k : ℕ) → nat_eq k k ≡ true
    nat_eq-refl k = eq-eqb k k refl
last_place y (x ∷ xs) n new =
    let e : suc n + length xs ≡ n + suc (length xs) = omega arith in
    rw (no_number y x (λ same. new 0 x refl (sym same))) (last_place y xs (suc n) (λ i z at. new (suc i) z at) ∙ ap Some e)

-- ---- one function more has a slot ----

pub take_one : (xs : List ℕ) (k x : ℕ) → slice_get xs k ≡ Some x → take (suc k) xs ≡ take k xs ++ x ∷ []
take_one [] k x e = cc
take_one (y ∷ ys) zero x e = let same : y ≡ x = cc in ap (λ z. z ∷ []) same
take_one (y ∷ ys) (suc k) x e = ap (λ zs. y ∷ zs) (take_one ys k x e)

taken_at : (xs : List ℕ) (k i x : ℕ) → slice_get (take k xs) i ≡ Some x → (i < k) × (slice_get xs i ≡ Some x)
taken_at [] zero i x e = cc
taken_at [] (suc k) i x e = cc
taken_at (y ∷ ys) zero i x e = cc
taken_at (y ∷ ys) (suc k) zero x e = (omega arith, e)
taken_at (y ∷ ys) (suc k) (suc i) x e = let (lt, at) = taken_at ys k i x e in (omega (arith, lt), at)

length_taken : (xs : List ℕ) (k : ℕ) → k ≤ length xs → length (take k xs) ≡ k
length_taken xs zero le = refl
length_taken [] (suc k) le = absurd (omega (arith, le))
length_taken (x ∷ xs) (suc k) le = let less : k ≤ length xs = omega (arith, le) in ap suc (length_taken xs k less)

rises : (xs : List ℕ) → IsStrictlyIncreasing xs → (i d : ℕ) → i + suc d < length xs → slice_index xs i < slice_index xs (i + suc d)
rises xs inc i zero lt = let e : i + 1 ≡ i + suc zero = omega arith in subst (λ n. slice_index xs i < slice_index xs n) e (inc i (omega (arith, lt)))
rises xs inc i (suc d) lt =
    let e : i + suc d + 1 ≡ i + suc (suc d) = omega arith in
    let first = rises xs inc i d (omega (arith, lt)) in
    let next = subst (λ n. slice_index xs (i + suc d) < slice_index xs n) e (inc (i + suc d) (omega (arith, lt))) in
    omega (arith, first, next)

module _ (moved : List ℕ) (count k : ℕ) (inc : IsStrictlyIncreasing moved) (there : Every (λ f. f < count) moved) (lt : k < length moved) where
  step : (f : ℕ) → slice_get moved k ≡ Some f → slice_set (map (place_among (take k moved)) (numbers 0 count)) f (Some k) ≡ map (place_among (take (k + 1) moved)) (numbers 0 count)
  step f at =
      set_one (place_among (take k moved)) (place_among (take k moved ++ f ∷ [])) 0 count f (Some k) (every_at (λ g. g < count) moved k f there at)
      (ap (place_among (take k moved ++ f ∷ [])) zero_f ∙ last_place f (take k moved) 0 new ∙ ap Some many)
      (λ j other. other_place j f (λ e. other (e ∙ sym zero_f)) (take k moved) 0)
      ∙ ap (λ xs. map (place_among xs) (numbers 0 count)) (sym (take_one moved k f at) ∙ ap (λ n. take n moved) one)
    where
      zero_f : 0 + f ≡ f
      zero_f = omega arith

      one : suc k ≡ k + 1
      one = omega arith

      many : 0 + length (take k moved) ≡ k
      many = let e = length_taken moved k (omega (arith, lt)) in omega (arith, e)

      new : (i x : ℕ) → slice_get (take k moved) i ≡ Some x → x ≢ f
      new i x e same =
          let (before, here) = taken_at moved k i x e in
          let d : ℕ = k - suc i in
          let sum : i + suc d ≡ k = omega (arith, before) in
          let less = rises moved inc i d (omega (arith, sum, lt)) in
          let first = slice_index_is moved i x here in
          let last = ap (slice_index moved) sum ∙ slice_index_is moved k f at in
          absurd (omega (arith, less, first, last, same))

  pub one_slot : slice_set (map (place_among (take k moved)) (numbers 0 count)) (slice_index moved k) (Some k) ≡ map (place_among (take (k + 1) moved)) (numbers 0 count)
  one_slot =
      let (f, at) = slice_get_there moved k lt in
      ap (λ g. slice_set (map (place_among (take k moved)) (numbers 0 count)) g (Some k)) (slice_index_is moved k f at) ∙ step f at

pub no_slots : (a n : ℕ) → replicate n None ≡ map (place_among []) (numbers a n)
no_slots a zero = refl
no_slots a (suc n) = ap (λ xs. None ∷ xs) (no_slots (suc a) n)

-- ---- what a whole table tells ----

no_place : (xs : List ℕ) (count : ℕ) → Every (λ f. f < count) xs → (j n : ℕ) → count ≤ j → first_place (nat_eq j) xs n ≡ None
no_place [] count there j n le = refl
no_place (x ∷ xs) count there j n le = rw (no_number j x (λ e. absurd (omega (arith, e, le, there.0)))) (no_place xs count there.1 j (suc n) le)

slice_none : {A : Type 0} (i : ℕ) → slice_get {X = A} [] i ≡ None
slice_none zero = refl
slice_none (suc i) = refl

map_none : (g : ℕ → Option ℕ) (xs : List ℕ) (i : ℕ) → slice_get xs i ≡ None → slice_get (map g xs) i ≡ None
map_none g [] i none = slice_none i
map_none g (x ∷ xs) zero none = cc
map_none g (x ∷ xs) (suc i) none = map_none g xs i none

pub table_tells : (moved : List ℕ) (count : ℕ) → Every (λ f. f < count) moved → (f : ℕ) → slot_at (map (place_among moved) (numbers 0 count)) f ≡ place_among moved f
table_tells moved count there f = split (slice_get (numbers 0 count) f) refl
  where
    split : (o : Option ℕ) → slice_get (numbers 0 count) f ≡ o → slot_at (map (place_among moved) (numbers 0 count)) f ≡ place_among moved f
    split (Some g) e = let (lt, same) = numbers_is count f g e in ap (λ o. unwrap_or o None) (map_at (place_among moved) (numbers 0 count) f g e) ∙ ap (place_among moved) (sym same)
    split None e =
        let le = slice_get_none (numbers 0 count) f e in
        let many = length-numbers 0 count in
        ap (λ o. unwrap_or o None) (map_none (place_among moved) (numbers 0 count) f e) ∙ sym (no_place moved count there f 0 (omega (arith, le, many)))

-- A function has a slot exactly where it is among the moved functions.
pub has_place : (moved : List ℕ) (f n : ℕ) → is_some (first_place (nat_eq f) moved n) ≡ is_among moved f
has_place [] f n = refl
has_place (x ∷ xs) f n = split (nat_eq f x) (has_place xs f (suc n))
  where
    split : (b : Bool) → is_some (first_place (nat_eq f) xs (suc n)) ≡ is_among xs f → is_some (cond b (Some n) (first_place (nat_eq f) xs (suc n))) ≡ (b || is_among xs f)
    split true later = refl
    split false later = later
