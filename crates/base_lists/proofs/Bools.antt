-- Tests that are joined. Std has the rest: `and_parts`, `and_from`, `cases_Bool`, `not-true`,
-- `or-true` and others.
use Rattle.std.proofs.Common.{◌≡◌, ◌∙◌, ap, Bool, true, false, ◌&&◌, ◌||◌, cond, ◌⊎◌, inl, inr, refl, sym, Ordering, Less, Equal, Greater, not}
use Rattle.std.specs.Ordering.{is_eq, ordering_then}

pub left_true : (a b : Bool) → a && b ≡ true → a ≡ true
left_true true b h = refl
left_true false b h = cc

pub right_true : (a b : Bool) → a && b ≡ true → b ≡ true
right_true true b h = h
right_true false b h = cc

pub and_false : (b : Bool) → b && false ≡ false
and_false true = refl
and_false false = refl

pub either_true : (a b : Bool) → (a || b) ≡ true → (a ≡ true) ⊎ (b ≡ true)
either_true true b h = inl refl
either_true false b h = inr h

pub left_either : (a b : Bool) → a ≡ true → (a || b) ≡ true
left_either a b h = ap (λ z. z || b) h

pub right_either : (a b : Bool) → b ≡ true → (a || b) ≡ true
right_either true b h = refl
right_either false b h = h

pub left_false : (a b : Bool) → (a || b) ≡ false → a ≡ false
left_false true b h = h
left_false false b h = refl

pub right_false : (a b : Bool) → (a || b) ≡ false → b ≡ false
right_false true b h = cc
right_false false b h = h

-- Two tests that imply each other are equal.
pub same_tests : (a b : Bool) → (a ≡ true → b ≡ true) → (b ≡ true → a ≡ true) → a ≡ b
same_tests true b f g = sym (f refl)
same_tests false true f g = g refl
same_tests false false f g = refl

-- The value of a choice is the first or the second, as its test says.
pub cond_is : {A : Type 0} (b : Bool) (x y z : A) → cond b x y ≡ z → ((b ≡ true) × (x ≡ z)) ⊎ ((b ≡ false) × (y ≡ z))
cond_is true x y z h = inl (refl, h)
cond_is false x y z h = inr (refl, h)

-- A lexicographic comparison of two steps finds equals exactly where both steps do.
pub both_equal : (o p : Ordering) → is_eq (ordering_then o p) ≡ is_eq o && is_eq p
both_equal Less p = refl
both_equal Equal p = refl
both_equal Greater p = refl

-- A conjunction stays true if each of its two parts does.
pub and_keeps : (a a' b b' : Bool) → (a ≡ true → a' ≡ true) → (b ≡ true → b' ≡ true) → a && b ≡ true → a' && b' ≡ true
and_keeps false a' b b' s t h = cc
and_keeps true a' b b' s t h = ap (λ z. z && b') (s refl) ∙ t h

-- A test that implies another is never true where the other is false.
pub and_not : (a b : Bool) → (a ≡ true → b ≡ true) → a && not b ≡ false
and_not false b h = refl
and_not true b h = ap not (h refl)
