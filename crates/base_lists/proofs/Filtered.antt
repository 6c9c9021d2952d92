-- Filtered lists: which elements are kept or chosen, how many, and the places of those that pass a
-- test.
use Rattle.std.proofs.Common.{◌≡◌, ◌∙◌, ap, ap₂, sym, subst, refl, ℕ, zero, suc, ◌+◌, ◌≤◌, List, [], ◌∷◌, length, Option, Some, None, is_some, Bool, true, false, cond, ◌&&◌, arith, option_and_then, filter, filter_map, slice_get}
use Rattle.std.specs.List.{cons_option}
use Rattle.base_lists.specs.Places.{first_place, places, count_of}
use Rattle.base_lists.specs.Options.{all_there}
use Rattle.base_lists.proofs.Places.{Has}

-- ---- the first that passes a test ----

pub record First {A : Type 0} (test : A → Bool) (xs : List A) (from : ℕ) : Type 0 where
  pub at : ℕ
  pub item : A
  pub is : first_place test xs from ≡ Some (from + at)
  pub got : slice_get xs at ≡ Some item
  pub yes : test item ≡ true

pub first_at : {A : Type 0} (test : A → Bool) (xs : List A) (from n : ℕ) (x : A) → slice_get xs n ≡ Some x → test x ≡ true → First test xs from
first_at test [] from n x h t = cc
first_at {A} test (y ∷ ys) from n x h t = by (λ n h. first_at test ys (suc from) n x h t) (test y) refl
  where
    later : ((n : ℕ) → slice_get ys n ≡ Some x → First test ys (suc from)) → (n : ℕ) → slice_get (y ∷ ys) n ≡ Some x → test y ≡ false → First test ys (suc from)
    later on zero h e = let same : y ≡ x = cc in absurd (let a : true ≡ false = sym t ∙ ap test (sym same) ∙ e in cc)
    later on (suc n) h e = on n h

    by : ((n : ℕ) → slice_get ys n ≡ Some x → First test ys (suc from)) → (b : Bool) → test y ≡ b → First test (y ∷ ys) from
    by on true e = record { at = 0; item = y; is = ap (λ b. cond b (Some from) (first_place test ys (suc from))) e ∙ ap Some (let z : from ≡ from + 0 = omega arith in z); got = refl; yes = e }
    by on false e = let l = later on n h e in
        record { at = suc l.at; item = l.item; is = ap (λ b. cond b (Some from) (first_place test ys (suc from))) e ∙ l.is ∙ ap Some (let z : suc from + l.at ≡ from + suc l.at = omega arith in z); got = l.got; yes = l.yes }

-- ---- what is kept and what is chosen ----

pub kept_is : {A : Type 0} (test : A → Bool) (xs : List A) (n : ℕ) (x : A) → slice_get (filter test xs) n ≡ Some x → (test x ≡ true) × Has xs x
kept_is test [] n x h = absurd (let k = h in cc)
kept_is {A} test (y ∷ ys) n x h = by (λ n h. kept_is test ys n x h) (test y) refl n h
  where
    more : (test x ≡ true) × Has ys x → (test x ≡ true) × Has (y ∷ ys) x
    more r = (r.0, (suc r.1.0, r.1.1))

    by : ((n : ℕ) → slice_get (filter test ys) n ≡ Some x → (test x ≡ true) × Has ys x) → (b : Bool) → test y ≡ b → (n : ℕ) → slice_get (cond b (y ∷ filter test ys) (filter test ys)) n ≡ Some x → (test x ≡ true) × Has (y ∷ ys) x
    by on true e zero h = let same : y ≡ x = cc in (subst (λ z. test z ≡ true) same e, (0, ap Some same))
    by on true e (suc n) h = more (on n h)
    by on false e n h = more (on n h)

pub is_kept : {A : Type 0} (test : A → Bool) (xs : List A) (n : ℕ) (x : A) → slice_get xs n ≡ Some x → test x ≡ true → Has (filter test xs) x
is_kept test [] n x h t = cc
is_kept {A} test (y ∷ ys) n x h t = by (λ n h. is_kept test ys n x h t) (test y) refl n h
  where
    by : ((n : ℕ) → slice_get ys n ≡ Some x → Has (filter test ys) x) → (b : Bool) → test y ≡ b → (n : ℕ) → slice_get (y ∷ ys) n ≡ Some x → Has (cond b (y ∷ filter test ys) (filter test ys)) x
    by on true e zero h = (0, h)
    by on true e (suc n) h = let r = on n h in (suc r.0, r.1)
    by on false e zero h = let same : y ≡ x = cc in absurd (let a : true ≡ false = sym t ∙ ap test (sym same) ∙ e in cc)
    by on false e (suc n) h = on n h

-- If a test says of which elements a value is chosen, the elements that are kept and the values
-- chosen of them stand at the same places.
pub chosen_at : {A B : Type 0} (test : A → Bool) (f : A → Option B) (xs : List A) → ((x : A) → is_some (f x) ≡ test x) → (n : ℕ) (x : A) → slice_get (filter test xs) n ≡ Some x → slice_get (filter_map f xs) n ≡ f x
chosen_at test f [] e n x h = cc
chosen_at {A} {B} test f (y ∷ ys) e n x h = by (λ n h. chosen_at test f ys e n x h) (test y) (f y) refl (e y) n h
  where
    some : ((n : ℕ) → slice_get (filter test ys) n ≡ Some x → slice_get (filter_map f ys) n ≡ f x) → (c : B) → f y ≡ Some c → (n : ℕ) → slice_get (y ∷ filter test ys) n ≡ Some x → slice_get (c ∷ filter_map f ys) n ≡ f x
    some on c is zero h = let same : y ≡ x = cc in sym is ∙ ap f same
    some on c is (suc n) h = on n h

    by : ((n : ℕ) → slice_get (filter test ys) n ≡ Some x → slice_get (filter_map f ys) n ≡ f x) → (b : Bool) (o : Option B) → f y ≡ o → is_some o ≡ b → (n : ℕ) → slice_get (cond b (y ∷ filter test ys) (filter test ys)) n ≡ Some x → slice_get (cons_option o (filter_map f ys)) n ≡ f x
    by on b None is k n h = let no : b ≡ false = sym k in on n (subst (λ b. slice_get (cond b (y ∷ filter test ys) (filter test ys)) n ≡ Some x) no h)
    by on b (Some c) is k n h = some on c is n (subst (λ b. slice_get (cond b (y ∷ filter test ys) (filter test ys)) n ≡ Some x) (sym k) h)

pub as_many : {A B : Type 0} (test : A → Bool) (f : A → Option B) (xs : List A) → ((x : A) → is_some (f x) ≡ test x) → length (filter_map f xs) ≡ length (filter test xs)
as_many test f [] e = refl
as_many {A} {B} test f (y ∷ ys) e = by (as_many test f ys e) (f y) (test y) (e y)
  where
    by : length (filter_map f ys) ≡ length (filter test ys) → (o : Option B) (b : Bool) → is_some o ≡ b → length (cons_option o (filter_map f ys)) ≡ length (cond b (y ∷ filter test ys) (filter test ys))
    by on None b k = on ∙ ap (λ b. length (cond b (y ∷ filter test ys) (filter test ys))) k
    by on (Some c) b k = ap suc on ∙ ap (λ b. length (cond b (y ∷ filter test ys) (filter test ys))) k

-- Two choices in a row are one choice by the composed function.
pub chosen_twice : {A B C : Type 0} (f : A → Option B) (g : B → Option C) (xs : List A) → filter_map g (filter_map f xs) ≡ filter_map (λ x. option_and_then g (f x)) xs
chosen_twice f g [] = refl
chosen_twice {A} {B} f g (x ∷ xs) = by (chosen_twice f g xs) (f x)
  where
    by : filter_map g (filter_map f xs) ≡ filter_map (λ x. option_and_then g (f x)) xs → (o : Option B) → filter_map g (cons_option o (filter_map f xs)) ≡ cons_option (option_and_then g o) (filter_map (λ x. option_and_then g (f x)) xs)
    by on None = on
    by on (Some b) = ap (cons_option (g b)) on

-- Each chosen value is chosen of an element of the list.
pub chosen_from : {A B : Type 0} (f : A → Option B) (xs : List A) (n : ℕ) (y : B) → slice_get (filter_map f xs) n ≡ Some y → (x : A) × Has xs x × (f x ≡ Some y)
chosen_from f [] n y h = absurd (let k = h in cc)
chosen_from {A} {B} f (x ∷ xs) n y h = by (λ n h. chosen_from f xs n y h) (f x) refl n h
  where
    more : (z : A) × Has xs z × (f z ≡ Some y) → (z : A) × Has (x ∷ xs) z × (f z ≡ Some y)
    more r = (r.0, (suc r.1.0, r.1.1), r.2)

    by : ((n : ℕ) → slice_get (filter_map f xs) n ≡ Some y → (z : A) × Has xs z × (f z ≡ Some y)) → (o : Option B) → f x ≡ o → (n : ℕ) → slice_get (cons_option o (filter_map f xs)) n ≡ Some y → (z : A) × Has (x ∷ xs) z × (f z ≡ Some y)
    by on None e n h = more (on n h)
    by on (Some z) e zero h = (x, (0, refl), e ∙ h)
    by on (Some z) e (suc n) h = more (on n h)

-- ---- the places whose elements pass a test ----

-- The place at index i is that of an element that passes the test, and the value chosen of this
-- element is the one at index i.
pub place_of : {A B : Type 0} (test : A → Bool) (f : A → Option B) (xs : List A) → ((x : A) → is_some (f x) ≡ test x) → (from i n : ℕ) → slice_get (places test xs from) i ≡ Some n →
    (k : ℕ) × (x : A) × (n ≡ from + k) × (slice_get xs k ≡ Some x) × (test x ≡ true) × (slice_get (filter_map f xs) i ≡ f x)
place_of test f [] e from i n h = absurd (let k = h in cc)
place_of {A} {B} test f (y ∷ ys) e from i n h = by (λ i h. place_of test f ys e (suc from) i n h) (test y) (f y) refl refl (e y) i h
  where
    more_at : (i : ℕ) → (k : ℕ) × (x : A) × (n ≡ suc from + k) × (slice_get ys k ≡ Some x) × (test x ≡ true) × (slice_get (filter_map f ys) i ≡ f x) → (k : ℕ) × (x : A) × (n ≡ from + k) × (slice_get (y ∷ ys) k ≡ Some x) × (test x ≡ true) × (slice_get (filter_map f ys) i ≡ f x)
    more_at i r = let d = r.2 in (suc r.0, r.1, omega (arith, d), r.3, r.4, r.5)

    by : ((i : ℕ) → slice_get (places test ys (suc from)) i ≡ Some n → (k : ℕ) × (x : A) × (n ≡ suc from + k) × (slice_get ys k ≡ Some x) × (test x ≡ true) × (slice_get (filter_map f ys) i ≡ f x)) → (b : Bool) (o : Option B) → test y ≡ b → f y ≡ o → is_some o ≡ test y → (i : ℕ) →
        slice_get (cond b (from ∷ places test ys (suc from)) (places test ys (suc from))) i ≡ Some n →
        (k : ℕ) × (x : A) × (n ≡ from + k) × (slice_get (y ∷ ys) k ≡ Some x) × (test x ≡ true) × (slice_get (cons_option o (filter_map f ys)) i ≡ f x)
    by on true None t is k i h = absurd (let a : false ≡ true = k ∙ t in cc)
    by on true (Some c) t is k zero h = let same : from ≡ n = cc in (0, y, omega (arith, same), refl, t, sym is)
    by on true (Some c) t is k (suc i) h = more_at i (on i h)
    by on false None t is k i h = more_at i (on i h)
    by on false (Some c) t is k i h = absurd (let a : true ≡ false = k ∙ t in cc)

pub places_many : {A B : Type 0} (test : A → Bool) (f : A → Option B) (xs : List A) → ((x : A) → is_some (f x) ≡ test x) → (from : ℕ) → length (places test xs from) ≡ length (filter_map f xs)
places_many test f [] e from = refl
places_many {A} {B} test f (y ∷ ys) e from = by (places_many test f ys e (suc from)) (f y) (test y) (e y)
  where
    by : length (places test ys (suc from)) ≡ length (filter_map f ys) → (o : Option B) (b : Bool) → is_some o ≡ b → length (cond b (from ∷ places test ys (suc from)) (places test ys (suc from))) ≡ length (cons_option o (filter_map f ys))
    by on None b k = ap (λ b. length (cond b (from ∷ places test ys (suc from)) (places test ys (suc from)))) (sym k) ∙ on
    by on (Some c) b k = ap (λ b. length (cond b (from ∷ places test ys (suc from)) (places test ys (suc from)))) (sym k) ∙ ap suc on

pub count_kept : {A : Type 0} (test : A → Bool) (xs : List A) → count_of test xs ≡ length (filter test xs)
count_kept test [] = refl
count_kept {A} test (y ∷ ys) = by (count_kept test ys) (test y)
  where
    by : count_of test ys ≡ length (filter test ys) → (b : Bool) → cond b (suc (count_of test ys)) (count_of test ys) ≡ length (cond b (y ∷ filter test ys) (filter test ys))
    by on true = ap suc on
    by on false = on

pub filter_both : {A : Type 0} (f g : A → Bool) (xs : List A) → filter f (filter g xs) ≡ filter (λ x. g x && f x) xs
filter_both f g [] = refl
filter_both {A} f g (x ∷ xs) = by (filter_both f g xs) (g x)
  where
    inner : filter f (filter g xs) ≡ filter (λ x. g x && f x) xs → (c : Bool) → cond c (x ∷ filter f (filter g xs)) (filter f (filter g xs)) ≡ cond c (x ∷ filter (λ x. g x && f x) xs) (filter (λ x. g x && f x) xs)
    inner on true = ap (λ z. x ∷ z) on
    inner on false = on

    by : filter f (filter g xs) ≡ filter (λ x. g x && f x) xs → (b : Bool) → filter f (cond b (x ∷ filter g xs) (filter g xs)) ≡ cond (b && f x) (x ∷ filter (λ x. g x && f x) xs) (filter (λ x. g x && f x) xs)
    by on true = inner on (f x)
    by on false = on

-- The value chosen of an element stands among all chosen values.
pub has_chosen : {A B : Type 0} (f : A → Option B) (xs : List A) (n : ℕ) (x : A) (y : B) → slice_get xs n ≡ Some x → f x ≡ Some y → Has (filter_map f xs) y
has_chosen f [] n x y h e = cc
has_chosen {A} {B} f (z ∷ xs) n x y h e = by (f z) refl n h (λ n h. has_chosen f xs n x y h e)
  where
    by : (o : Option B) → f z ≡ o → (n : ℕ) → slice_get (z ∷ xs) n ≡ Some x → ((n : ℕ) → slice_get xs n ≡ Some x → Has (filter_map f xs) y) → Has (cons_option o (filter_map f xs)) y
    by None is zero h on = let same : z ≡ x = cc in absurd (let k : None ≡ Some y = sym is ∙ ap f same ∙ e in cc)
    by None is (suc n) h on = on n h
    by (Some w) is zero h on = let same : z ≡ x = cc in (0, sym is ∙ ap f same ∙ e)
    by (Some w) is (suc n) h on = let r = on n h in (suc r.0, r.1)

length_option : {B : Type 0} (y : Option B) (ys : List B) → length (cons_option y ys) ≤ length ys + 1
length_option None ys = omega arith
length_option (Some y) ys = omega arith

pub filter_map_most : {A B : Type 0} (h : A → Option B) (xs : List A) → length (filter_map h xs) ≤ length xs
filter_map_most h [] = omega arith
filter_map_most h (x ∷ xs) = omega (arith, length_option (h x) (filter_map h xs), filter_map_most h xs)

-- The values for the places of the elements that pass a test are those for the elements that are
-- kept.
pub at_places : {A B : Type 0} (test : A → Bool) (g : A → Option B) (ys : List A) (from : ℕ) (f : ℕ → Option B) → ((i : ℕ) (y : A) → slice_get ys i ≡ Some y → f (from + i) ≡ g y) → all_there f (places test ys from) ≡ all_there g (filter test ys)
at_places test g [] from f h = refl
at_places test g (y ∷ ys) from f h = by (test y) (at_places test g ys (suc from) f (λ i z e. ap f (let q : suc from + i ≡ from + suc i = omega arith in q) ∙ h (suc i) z e))
  where
    first : f from ≡ g y
    first = ap f (let e : from ≡ from + 0 = omega arith in e) ∙ h 0 y refl

    by : (b : Bool) → all_there f (places test ys (suc from)) ≡ all_there g (filter test ys) → all_there f (cond b (from ∷ places test ys (suc from)) (places test ys (suc from))) ≡ all_there g (cond b (y ∷ filter test ys) (filter test ys))
    by true r = ap₂ (λ o p. option_and_then (λ y. option_and_then (λ ys. Some (y ∷ ys)) p) o) first r
    by false r = r

-- The values for the chosen elements that pass a test are those for the original elements that pass
-- another test, if the two tests agree.
pub of_chosen : {A B C : Type 0} (f : A → Option B) (test : B → Bool) (kept : A → Bool) (g : B → Option C) (h : A → Option C) (xs : List A) →
    ((n : ℕ) (x : A) → slice_get xs n ≡ Some x → (y : B) × (f x ≡ Some y) × (test y ≡ kept x) × (kept x ≡ true → g y ≡ h x)) → all_there g (filter test (filter_map f xs)) ≡ all_there h (filter kept xs)
of_chosen f test kept g h [] e = refl
of_chosen {A} {B} {C} f test kept g h (x ∷ xs) e =
    let y = e 0 x refl in
    ap (λ o. all_there g (filter test (cons_option o (filter_map f xs)))) y.1
    ∙ ap (λ b. all_there g (cond b (y.0 ∷ filter test (filter_map f xs)) (filter test (filter_map f xs)))) y.2
    ∙ by y.0 (kept x) y.3 (of_chosen f test kept g h xs (λ n. e (suc n)))
  where
    by : (y : B) (b : Bool) → (b ≡ true → g y ≡ h x) → all_there g (filter test (filter_map f xs)) ≡ all_there h (filter kept xs) → all_there g (cond b (y ∷ filter test (filter_map f xs)) (filter test (filter_map f xs))) ≡ all_there h (cond b (x ∷ filter kept xs) (filter kept xs))
    by y true q r = ap₂ (λ o p. option_and_then (λ y. option_and_then (λ ys. Some (y ∷ ys)) p) o) (q refl) r
    by y false q r = r

-- The place at index i is that of an element that passes the test.
pub place_back : {A : Type 0} (test : A → Bool) (xs : List A) (from i n : ℕ) → slice_get (places test xs from) i ≡ Some n → (j : ℕ) × (x : A) × (n ≡ from + j) × (slice_get xs j ≡ Some x) × (test x ≡ true)
place_back test [] from i n h = absurd (let k = h in cc)
place_back {A} test (y ∷ ys) from i n h = by (λ i h. place_back test ys (suc from) i n h) (test y) refl i h
  where
    more : (j : ℕ) × (x : A) × (n ≡ suc from + j) × (slice_get ys j ≡ Some x) × (test x ≡ true) → (j : ℕ) × (x : A) × (n ≡ from + j) × (slice_get (y ∷ ys) j ≡ Some x) × (test x ≡ true)
    more r = let d = r.2 in (suc r.0, r.1, omega (arith, d), r.3, r.4)

    by : ((i : ℕ) → slice_get (places test ys (suc from)) i ≡ Some n → (j : ℕ) × (x : A) × (n ≡ suc from + j) × (slice_get ys j ≡ Some x) × (test x ≡ true)) → (b : Bool) → test y ≡ b → (i : ℕ) → slice_get (cond b (from ∷ places test ys (suc from)) (places test ys (suc from))) i ≡ Some n →
        (j : ℕ) × (x : A) × (n ≡ from + j) × (slice_get (y ∷ ys) j ≡ Some x) × (test x ≡ true)
    by on true t zero h = let same : from ≡ n = cc in (0, y, omega (arith, same), refl, t)
    by on true t (suc i) h = more (on i h)
    by on false t i h = more (on i h)

-- The place of an element that passes the test is among the places.
pub place_there : {A : Type 0} (test : A → Bool) (xs : List A) (from j : ℕ) (x : A) → slice_get xs j ≡ Some x → test x ≡ true → (i : ℕ) × (slice_get (places test xs from) i ≡ Some (from + j))
place_there test [] from j x h t = absurd (let k = h in cc)
place_there {A} test (y ∷ ys) from j x h t = by (λ j h. place_there test ys (suc from) j x h t) (test y) refl j h
  where
    by : ((j : ℕ) → slice_get ys j ≡ Some x → (i : ℕ) × (slice_get (places test ys (suc from)) i ≡ Some (suc from + j))) → (b : Bool) → test y ≡ b → (j : ℕ) → slice_get (y ∷ ys) j ≡ Some x →
        (i : ℕ) × (slice_get (cond b (from ∷ places test ys (suc from)) (places test ys (suc from))) i ≡ Some (from + j))
    by on true q zero h = (0, ap Some (let e : from ≡ from + 0 = omega arith in e))
    by on true q (suc j) h = let r = on j h in (suc r.0, r.1 ∙ ap Some (let e : suc from + j ≡ from + suc j = omega arith in e))
    by on false q zero h = let same : y ≡ x = cc in absurd (let a : true ≡ false = sym t ∙ ap test (sym same) ∙ q in cc)
    by on false q (suc j) h = let r = on j h in (r.0, r.1 ∙ ap Some (let e : suc from + j ≡ from + suc j = omega arith in e))

-- ---- where something is chosen of each ----

pub all_chosen : {A B : Type 0} (h : A → Option B) (xs : List A) → ((n : ℕ) (x : A) → slice_get xs n ≡ Some x → (y : B) × (h x ≡ Some y)) → (n : ℕ) (x : A) → slice_get xs n ≡ Some x → slice_get (filter_map h xs) n ≡ h x
all_chosen h [] e n x at = cc
all_chosen h (z ∷ xs) e zero x at =
    let y = e 0 z refl in
    let same : z ≡ x = cc in
    ap (λ o. slice_get (cons_option o (filter_map h xs)) 0) y.1 ∙ sym y.1 ∙ ap h same
all_chosen h (z ∷ xs) e (suc n) x at = let y = e 0 z refl in ap (λ o. slice_get (cons_option o (filter_map h xs)) (suc n)) y.1 ∙ all_chosen h xs (λ k. e (suc k)) n x at

pub all_counted : {A B : Type 0} (h : A → Option B) (xs : List A) → ((n : ℕ) (x : A) → slice_get xs n ≡ Some x → (y : B) × (h x ≡ Some y)) → length (filter_map h xs) ≡ length xs
all_counted h [] e = refl
all_counted h (z ∷ xs) e = let y = e 0 z refl in ap (λ o. length (cons_option o (filter_map h xs))) y.1 ∙ ap suc (all_counted h xs (λ k. e (suc k)))

-- Each place stands only once among the places.
pub places_apart : {A : Type 0} (test : A → Bool) (xs : List A) (from i j n : ℕ) → slice_get (places test xs from) i ≡ Some n → slice_get (places test xs from) j ≡ Some n → i ≡ j
places_apart test [] from i j n e h = cc
places_apart {A} test (x ∷ xs) from i j n e h = by (test x) (places_apart test xs (suc from)) i j e h
  where
    later : (i : ℕ) → slice_get (places test xs (suc from)) i ≡ Some from → ⊥
    later i e = let r = place_back test xs (suc from) i from e in let z = r.2 in absurd (omega (arith, z))

    by : (b : Bool) → ((i j n : ℕ) → slice_get (places test xs (suc from)) i ≡ Some n → slice_get (places test xs (suc from)) j ≡ Some n → i ≡ j) →
        (i j : ℕ) → slice_get (cond b (from ∷ places test xs (suc from)) (places test xs (suc from))) i ≡ Some n → slice_get (cond b (from ∷ places test xs (suc from)) (places test xs (suc from))) j ≡ Some n → i ≡ j
    by true on zero zero e h = refl
    by true on zero (suc j) e h = let same : from ≡ n = cc in absurd (later j (h ∙ ap Some (sym same)))
    by true on (suc i) zero e h = let same : from ≡ n = cc in absurd (later i (e ∙ ap Some (sym same)))
    by true on (suc i) (suc j) e h = ap suc (on i j n e h)
    by false on i j e h = on i j n e h
