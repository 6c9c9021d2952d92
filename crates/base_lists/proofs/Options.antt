-- What a chain of look-ups found, and what it found for each element of a list.
use Rattle.std.proofs.Common.{◌≡◌, ◌∙◌, ap, ap₂, sym, refl, ℕ, zero, suc, List, [], ◌∷◌, length, Option, Some, None, Bool, true, false, is_some, option_and_then, option_map, unwrap_or, slice_get, arith}
use Rattle.std.proofs.lemmas.Option.{slice_get_within}
use Rattle.base_lists.specs.Options.{all_there, Keeps, first_given, only}
use Rattle.base_lists.proofs.Places.{slice_get_there}
use Rattle.std.specs.Option.{option_or}

pub and_then_is : {A B : Type 0} (o : Option A) (f : A → Option B) (y : B) → option_and_then f o ≡ Some y → (x : A) × (o ≡ Some x) × (f x ≡ Some y)
and_then_is None f y h = absurd (let k = h in cc)
and_then_is (Some x) f y h = (x, refl, h)

-- An option that a function maps to none is none.
pub then_none : {A B : Type 0} (o : Option A) (f : A → B) → option_and_then (λ a. Some (f a)) o ≡ None → o ≡ None
then_none None f e = refl
then_none (Some a) f e = cc

pub option_map_is : {A B : Type 0} (f : A → B) (o : Option A) (y : B) → option_map f o ≡ Some y → (x : A) × (o ≡ Some x) × (f x ≡ y)
option_map_is f None y h = absurd (let k = h in cc)
option_map_is f (Some x) y h = (x, refl, (let same : f x ≡ y = cc in same))

pub unwrap_or_false_is : (o : Option Bool) → unwrap_or o false ≡ true → o ≡ Some true
unwrap_or_false_is None h = absurd (let k = h in cc)
unwrap_or_false_is (Some b) h = ap Some h

pub is_some_there : {A : Type 0} (o : Option A) → is_some o ≡ true → (x : A) × (o ≡ Some x)
is_some_there None h = absurd (let k = h in cc)
is_some_there (Some x) h = (x, refl)

-- ---- the first of several ----

pub left_none : {A : Type 0} (x y : Option A) → option_or x y ≡ None → x ≡ None
left_none None y h = refl
left_none (Some a) y h = cc

pub right_none : {A : Type 0} (x y : Option A) → option_or x y ≡ None → y ≡ None
right_none None y h = h
right_none (Some a) y h = cc

-- If no value is given for the list, none is given for any of its elements.
pub none_given : {A B : Type 0} (f : A → Option B) (xs : List A) (n : ℕ) (x : A) → first_given f xs ≡ None → slice_get xs n ≡ Some x → f x ≡ None
none_given f [] n x h k = cc
none_given f (y ∷ ys) zero x h k = let same : y ≡ x = cc in ap f (sym same) ∙ left_none (f y) (first_given f ys) h
none_given f (y ∷ ys) (suc n) x h k = none_given f ys n x (right_none (f y) (first_given f ys) h) k

-- ---- where there is something for all ----

pub all_there_same : {A B : Type 0} {f g : A → Option B} → ((x : A) → f x ≡ g x) → (xs : List A) → all_there f xs ≡ all_there g xs
all_there_same h [] = refl
all_there_same h (x ∷ xs) = ap₂ (λ o p. option_and_then (λ y. option_and_then (λ ys. Some (y ∷ ys)) p) o) (h x) (all_there_same h xs)

pub all_there_length : {A B : Type 0} (f : A → Option B) (xs : List A) (ys : List B) → all_there f xs ≡ Some ys → length ys ≡ length xs
all_there_length f [] ys h = let e : [] ≡ ys = cc in ap length (sym e)
all_there_length {A} {B} f (x ∷ xs) ys h = go (f x) (all_there f xs) (all_there_length f xs) h
  where
    go : (o : Option B) (p : Option (List B)) → ((zs : List B) → p ≡ Some zs → length zs ≡ length xs) → option_and_then (λ y. option_and_then (λ zs. Some (y ∷ zs)) p) o ≡ Some ys → length ys ≡ suc (length xs)
    go None p ih e = cc
    go (Some y) None ih e = cc
    go (Some y) (Some zs) ih e = let same : y ∷ zs ≡ ys = cc in ap length (sym same) ∙ ap suc (ih zs refl)

-- If there is a value for each element, the value for an element stands at the place of the
-- element.
pub all_there_at : {A B : Type 0} (f : A → Option B) (xs : List A) (ys : List B) → all_there f xs ≡ Some ys → (n : ℕ) (x : A) → slice_get xs n ≡ Some x → (y : B) × (f x ≡ Some y) × (slice_get ys n ≡ Some y)
all_there_at f [] ys h n x e = absurd (let k = e in cc)
all_there_at {A} {B} f (z ∷ xs) ys h n x e = by (λ rest r n e. all_there_at f xs rest r n x e) (f z) refl (all_there f xs) refl h n e
  where
    by : ((rest : List B) → all_there f xs ≡ Some rest → (n : ℕ) → slice_get xs n ≡ Some x → (y : B) × (f x ≡ Some y) × (slice_get rest n ≡ Some y)) → (o : Option B) → f z ≡ o → (r : Option (List B)) → all_there f xs ≡ r →
        option_and_then (λ y. option_and_then (λ ys. Some (y ∷ ys)) r) o ≡ Some ys → (n : ℕ) → slice_get (z ∷ xs) n ≡ Some x → (y : B) × (f x ≡ Some y) × (slice_get ys n ≡ Some y)
    by on None i r j h n e = absurd (let k = h in cc)
    by on (Some y) i None j h n e = absurd (let k = h in cc)
    by on (Some y) i (Some rest) j h zero e =
        let same : z ≡ x = cc in
        let list : y ∷ rest ≡ ys = cc in
        (y, ap f (sym same) ∙ i, ap (λ l. slice_get l zero) (sym list))
    by on (Some y) i (Some rest) j h (suc n) e =
        let list : y ∷ rest ≡ ys = cc in
        let r = on rest j n e in
        (r.0, r.1, ap (λ l. slice_get l (suc n)) (sym list) ∙ r.2)

-- The value at a place was found for the element at that place.
pub all_there_back : {A B : Type 0} (f : A → Option B) (xs : List A) (ys : List B) → all_there f xs ≡ Some ys → (n : ℕ) (y : B) → slice_get ys n ≡ Some y → (x : A) × (slice_get xs n ≡ Some x) × (f x ≡ Some y)
all_there_back f xs ys h n y at =
    let many = all_there_length f xs ys h in
    let within = slice_get_within ys n y at in
    let x = slice_get_there xs n (omega (arith, many, within)) in
    let z = all_there_at f xs ys h n x.0 x.1 in
    (x.0, x.1, z.1 ∙ sym z.2 ∙ at)

-- Each element has a value, which stands at the place of the element.
pub record AllThere {A B : Type 0} (f : A → Option B) (xs : List A) : Type 0 where
  pub results : List B
  pub are : all_there f xs ≡ Some results
  pub places : (n : ℕ) → slice_get results n ≡ option_and_then f (slice_get xs n)

pub all_there_from : {A B : Type 0} (f : A → Option B) (xs : List A) → ((n : ℕ) (x : A) → slice_get xs n ≡ Some x → (y : B) × (f x ≡ Some y)) → AllThere f xs
all_there_from f [] h = record { results = []; are = refl; places = λ n. refl }
all_there_from {B = B} f (x ∷ xs) h =
    let y = h zero x refl in
    let rest = all_there_from f xs (λ n. h (suc n)) in
    let are : all_there f (x ∷ xs) ≡ Some (y.0 ∷ rest.results) = ap₂ (λ o p. option_and_then (λ y. option_and_then (λ ys. Some (y ∷ ys)) p) o) y.1 rest.are in
    record { results = y.0 ∷ rest.results; are = are; places = at_place y.0 y.1 rest.results rest.places }
  where
    at_place : (y : B) → f x ≡ Some y → (ys : List B) → ((n : ℕ) → slice_get ys n ≡ option_and_then f (slice_get xs n)) → (n : ℕ) → slice_get (y ∷ ys) n ≡ option_and_then f (slice_get (x ∷ xs) n)
    at_place y e ys ih zero = sym e
    at_place y e ys ih (suc n) = ih n

-- ---- what stays, and what a test lets through ----

pub keeps_map : {A B : Type 0} (f : A → B) (m n : Option A) → Keeps m n → Keeps (option_map f m) (option_map f n)
keeps_map f None n k y h = cc
keeps_map f (Some x) n k y h = ap (option_map f) (k x refl) ∙ h

pub keeps_only : {A : Type 0} (a b : Bool) (m n : Option A) → (a ≡ true → b ≡ true) → Keeps m n → Keeps (only a m) (only b n)
keeps_only false b m n t k y h = cc
keeps_only true b m n t k y h = ap (λ z. only z n) (t refl) ∙ k y h

pub keeps_then : {A B : Type 0} (m n : Option A) (f g : A → Option B) → Keeps m n → ((x : A) → Keeps (f x) (g x)) → Keeps (option_and_then f m) (option_and_then g n)
keeps_then None n f g k l y h = cc
keeps_then (Some x) n f g k l y h = ap (λ z. option_and_then g z) (k x refl) ∙ l x y h

pub only_rest : {A : Type 0} (b : Bool) (m : Option A) (e : A) → only b m ≡ Some e → m ≡ Some e
only_rest false m e h = cc
only_rest true m e h = h

pub only_true : {A : Type 0} (b : Bool) (m : Option A) (e : A) → only b m ≡ Some e → b ≡ true
only_true false m e h = cc
only_true true m e h = refl
