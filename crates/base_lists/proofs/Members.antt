-- Which numbers stand in lists that are joined, mapped or chosen from others, and where a number
-- stands first.
use Rattle.std.proofs.Common.{◌≡◌, ◌∙◌, ap, sym, subst, refl, ℕ, zero, suc, ◌+◌, List, [], ◌∷◌, ◌++◌, map, nat_eq, true≢false, true, false, cond, ◌||◌, ◌⊎◌, inl, inr, ⊎_elim, Option, Some, None, slice_get, arith, eq-eqb, Contains}
use Rattle.std.specs.List.{cons_option, filter_map, flat_map}
use Rattle.std.proofs.lemmas.List.Folds.{list_any-append}
use Rattle.base_lists.specs.Members.{is_among}
use Rattle.base_lists.specs.Places.{first_place}
use Rattle.base_lists.proofs.Bools.{either_true, left_either, left_false, right_either, right_false, cond_is}
use Rattle.base_lists.proofs.Each.{any_from_place, list_any_there}
use Rattle.base_lists.proofs.Numbers.{same_number}

-- ---- by place ----

pub among_there : (xs : List ℕ) (x : ℕ) → is_among xs x ≡ true → (p : ℕ) × (slice_get xs p ≡ Some x)
among_there xs x h = let r = list_any_there (nat_eq x) xs h in (r.1.0, r.1.1 ∙ ap Some (sym (same_number x r.0 r.2)))

pub there_among : (xs : List ℕ) (p x : ℕ) → slice_get xs p ≡ Some x → is_among xs x ≡ true
there_among xs p x at = any_from_place (nat_eq x) xs p x at (eq-eqb x x refl)

-- ---- in two lists ----

pub among_append : (xs ys : List ℕ) (x : ℕ) → is_among (xs ++ ys) x ≡ (is_among xs x || is_among ys x)
among_append xs ys x = list_any-append (nat_eq x) xs ys

pub among_left : (xs ys : List ℕ) (x : ℕ) → is_among xs x ≡ true → is_among (xs ++ ys) x ≡ true
among_left xs ys x h = among_append xs ys x ∙ left_either _ _ h

pub among_right : (xs ys : List ℕ) (x : ℕ) → is_among ys x ≡ true → is_among (xs ++ ys) x ≡ true
among_right xs ys x h = among_append xs ys x ∙ right_either _ _ h

pub among_either : (xs ys : List ℕ) (x : ℕ) → is_among (xs ++ ys) x ≡ true → (is_among xs x ≡ true) ⊎ (is_among ys x ≡ true)
among_either xs ys x h = either_true _ _ (sym (among_append xs ys x) ∙ h)

-- ---- in what is made of a list ----

-- The image of a member of a list is a member of the mapped list.
pub among_map : (f : ℕ → ℕ) (xs : List ℕ) (x : ℕ) → is_among xs x ≡ true → is_among (map f xs) (f x) ≡ true
among_map f [] x h = cc
among_map f (y ∷ ys) x h =
    ⊎_elim
    (λ e. left_either (nat_eq (f x) (f y)) (is_among (map f ys) (f x)) (eq-eqb (f x) (f y) (ap f (same_number x y e))))
    (λ k. right_either (nat_eq (f x) (f y)) (is_among (map f ys) (f x)) (among_map f ys x k))
    (either_true (nat_eq x y) (is_among ys x) h)

-- A number in the list of one item is in the joined lists of all items.
pub among_joined : {A : Type 0} (f : A → List ℕ) (xs : List A) (i : ℕ) (a : A) (x : ℕ) → slice_get xs i ≡ Some a → is_among (f a) x ≡ true → is_among (flat_map f xs) x ≡ true
among_joined f [] i a x e h = cc
among_joined f (y ∷ ys) zero a x e h = let same : a ≡ y = cc in among_left (f y) (flat_map f ys) x (subst (λ z. is_among (f z) x ≡ true) same h)
among_joined f (y ∷ ys) (suc i) a x e h = among_right (f y) (flat_map f ys) x (among_joined f ys i a x e h)

pub joined_among : {A : Type 0} (f : A → List ℕ) (xs : List A) (x : ℕ) → is_among (flat_map f xs) x ≡ true → (i : ℕ) × (a : A) × (slice_get xs i ≡ Some a) × (is_among (f a) x ≡ true)
joined_among f [] x h = absurd (true≢false (sym h))
joined_among f (y ∷ ys) x h = ⊎_elim (λ k. (0, y, refl, k)) (λ k. let r = joined_among f ys x k in (suc r.0, r.1, r.2, r.3)) (among_either (f y) (flat_map f ys) x h)

chosen_first : (o : Option ℕ) (ys : List ℕ) (x : ℕ) → is_among (cons_option o ys) x ≡ true → (o ≡ Some x) ⊎ (is_among ys x ≡ true)
chosen_first None ys x h = inr h
chosen_first (Some z) ys x h = ⊎_elim (λ e. inl (ap Some (sym (same_number x z e)))) inr (either_true (nat_eq x z) (is_among ys x) h)

pub chosen_among : {A : Type 0} (f : A → Option ℕ) (xs : List A) (x : ℕ) → is_among (filter_map f xs) x ≡ true → (i : ℕ) × (a : A) × (slice_get xs i ≡ Some a) × (f a ≡ Some x)
chosen_among f [] x h = absurd (true≢false (sym h))
chosen_among f (y ∷ ys) x h = ⊎_elim (λ e. (0, y, refl, e)) (λ k. let r = chosen_among f ys x k in (suc r.0, r.1, r.2, r.3)) (chosen_first (f y) (filter_map f ys) x h)

-- ---- the first place of a number ----

pub place_is : (x : ℕ) (xs : List ℕ) (n p : ℕ) → first_place (nat_eq x) xs n ≡ Some p → (i : ℕ) × (p ≡ n + i) × (slice_get xs i ≡ Some x)
place_is x [] n p h = absurd (let k = h in cc)
place_is x (y ∷ ys) n p h =
    ⊎_elim
    (λ e. let is : Some n ≡ Some p = e.1 in let at : n ≡ p = cc in (0, omega (arith, at), ap Some (sym (same_number x y e.0))))
    (λ e. let r = place_is x ys (suc n) p e.1 in let at = r.1 in (suc r.0, omega (arith, at), r.2))
    (cond_is (nat_eq x y) (Some n) (first_place (nat_eq x) ys (suc n)) (Some p) h)

pub no_place : (x : ℕ) (xs : List ℕ) (n : ℕ) → first_place (nat_eq x) xs n ≡ None → is_among xs x ≡ false
no_place x [] n h = refl
no_place x (y ∷ ys) n h =
    ⊎_elim
    (λ e. let is : Some n ≡ None = e.1 in cc)
    (λ e. ap (λ b. b || is_among ys x) e.0 ∙ no_place x ys (suc n) e.1)
    (cond_is (nat_eq x y) (Some n) (first_place (nat_eq x) ys (suc n)) None h)

pub none_among : (x : ℕ) (xs : List ℕ) (n : ℕ) → is_among xs x ≡ false → first_place (nat_eq x) xs n ≡ None
none_among x [] n h = refl
none_among x (y ∷ ys) n h = ap (λ b. cond b (Some n) (first_place (nat_eq x) ys (suc n))) (left_false (nat_eq x y) (is_among ys x) h) ∙ none_among x ys (suc n) (right_false (nat_eq x y) (is_among ys x) h)

pub the_one : {A : Type 0} (x y : A) → Contains (x ∷ []) y → x ≡ y
the_one x y (zero, h, e) = e
the_one x y (suc k, h, e) = absurd (omega (arith, h))
