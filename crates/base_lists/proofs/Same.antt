-- A test of two elements that decides equality decides it of lists too.
use Rattle.std.proofs.Common.{◌≡◌, ap₂, refl, ℕ, nat_eq, List, [], ◌∷◌, Bool, true, eq-eqb}
use Rattle.std.proofs.lemmas.Bool.{and_parts, and_from}
use Rattle.base_lists.specs.Same.{each_same}
use Rattle.base_lists.proofs.Numbers.{same_number}

pub each_same_is : {A : Type 0} (same : A → A → Bool) → ((x y : A) → same x y ≡ true → x ≡ y) → (xs ys : List A) → each_same same xs ys ≡ true → xs ≡ ys
each_same_is same is [] [] h = refl
each_same_is same is [] (y ∷ ys) h = cc
each_same_is same is (x ∷ xs) [] h = cc
each_same_is same is (x ∷ xs) (y ∷ ys) h = let b = and_parts (same x y) (each_same same xs ys) h in ap₂ (λ z zs. z ∷ zs) (is x y b.0) (each_same_is same is xs ys b.1)

pub each_same_self : {A : Type 0} (same : A → A → Bool) → ((x : A) → same x x ≡ true) → (xs : List A) → each_same same xs xs ≡ true
each_same_self same self [] = refl
each_same_self same self (x ∷ xs) = and_from (same x x) (each_same same xs xs) (self x) (each_same_self same self xs)

-- ---- texts, as lists of bytes ----

pub text_is : (x y : List ℕ) → each_same nat_eq x y ≡ true → x ≡ y
text_is = each_same_is nat_eq same_number

pub text_self : (x : List ℕ) → each_same nat_eq x x ≡ true
text_self = each_same_self nat_eq (λ n. eq-eqb n n refl)
