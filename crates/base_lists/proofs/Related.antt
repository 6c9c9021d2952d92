-- Options and lists that are related, and a property of what is there.
use Rattle.std.proofs.Common.{◌≡◌, ℕ, zero, suc, ◌<◌, List, [], ◌∷◌, ◌++◌, map, length, drop, Option, Some, None, Bool, true, false, cond, is_some, option_and_then, slice_get, slice_set, nat_eq, ◌⊎◌, inl, inr, ◌∙◌, sym, refl, ap, subst, arith}
use Rattle.base_lists.specs.Options.{all_there}
use Rattle.base_lists.specs.Parts.{copies, onto, overwrite, split_at}
use Rattle.base_lists.specs.Related.{OptRel, none, some, BothRel, both, ListRel, nil, cons, EachRelated, IfThere, absent, present, PairRel}
use Rattle.std.proofs.lemmas.Bool.Decides.{eqb_tells}
use Rattle.std.proofs.lemmas.Option.{slice_get_within}
use Rattle.base_lists.proofs.Places.{set_at, set_other, slice_get_there}

-- ---- options ----

-- What follows two related options is related if what follows any two related values is.
pub then_rel : {A B C D : Type 0} {P : A → B → Type 0} {Q : C → D → Type 0} {o : Option A} {p : Option B} {f : A → Option C} {g : B → Option D} → OptRel P o p → ((a : A) (b : B) → P a b → OptRel Q (f a) (g b)) → OptRel Q (option_and_then f o) (option_and_then g p)
then_rel none h = none
then_rel (some q) h = h _ _ q

-- A form of the lemma above in which the premise also has that the first option holds the value.
pub then_rel_is : {A B C D : Type 0} {P : A → B → Type 0} {Q : C → D → Type 0} {o : Option A} {p : Option B} {f : A → Option C} {g : B → Option D} → OptRel P o p → ((a : A) (b : B) → o ≡ Some a → P a b → OptRel Q (f a) (g b)) → OptRel Q (option_and_then f o) (option_and_then g p)
then_rel_is none h = none
then_rel_is (some q) h = h _ _ refl q

-- What follows one option in two ways is related if what follows each value is.
pub then_same : {A C D : Type 0} {Q : C → D → Type 0} {f : A → Option C} {g : A → Option D} (o : Option A) → ((a : A) → OptRel Q (f a) (g a)) → OptRel Q (option_and_then f o) (option_and_then g o)
then_same None h = none
then_same (Some a) h = h a

-- A form of the lemma above in which the premise also has that the option holds the value.
pub then_same_is : {A C D : Type 0} {Q : C → D → Type 0} {f : A → Option C} {g : A → Option D} (o : Option A) → ((a : A) → o ≡ Some a → OptRel Q (f a) (g a)) → OptRel Q (option_and_then f o) (option_and_then g o)
then_same_is None h = none
then_same_is (Some a) h = h a refl

-- What follows two related options is equal if what follows any two related values is.
pub then_eq : {A B C : Type 0} {P : A → B → Type 0} {o : Option A} {p : Option B} {f : A → Option C} {g : B → Option C} → OptRel P o p → ((a : A) (b : B) → P a b → f a ≡ g b) → option_and_then f o ≡ option_and_then g p
then_eq r h = grind arith

pub either_rel : {A B : Type 0} {P : A → B → Type 0} (b : Bool) {x y : Option A} {u v : Option B} → OptRel P x u → OptRel P y v → OptRel P (cond b x y) (cond b u v)
either_rel true p q = p
either_rel false p q = q

pub cond_two : {A B : Type 0} (P : A → B → Type 0) (b : Bool) {x y : A} {u v : B} → P x u → P y v → P (cond b x y) (cond b u v)
cond_two P true p q = p
cond_two P false p q = q

module _ {A B : Type 0} {P : A → B → Type 0} where
  pub right_there : {o : Option A} {p : Option B} {a : A} → OptRel P o p → o ≡ Some a → (b : B) × (p ≡ Some b)
  right_there r e = grind arith

  pub left_there : {o : Option A} {p : Option B} {b : B} → OptRel P o p → p ≡ Some b → (a : A) × (o ≡ Some a)
  left_there r e = grind arith

  pub opt_both : {o : Option A} {p : Option B} {a : A} {b : B} → OptRel P o p → o ≡ Some a → p ≡ Some b → P a b
  opt_both r e f = grind arith

  pub opt_at : {o p : Option A} {q r : Option B} → o ≡ p → q ≡ r → OptRel P p r → OptRel P o q
  opt_at e f h = rw (e, f) h

  -- Two options are related if each holds a value where the other does, and the values are related.
  pub both_or_none : (o : Option A) (p : Option B) → ((a : A) (b : B) → o ≡ Some a → p ≡ Some b → P a b) → ((a : A) → o ≡ Some a → (b : B) × (p ≡ Some b)) → ((b : B) → p ≡ Some b → (a : A) × (o ≡ Some a)) → OptRel P o p
  both_or_none None None pair left right = none
  both_or_none (Some a) (Some b) pair left right = some (pair a b refl refl)
  both_or_none (Some a) None pair left right = cc (left a refl).1
  both_or_none None (Some b) pair left right = cc (right b refl).1

-- A form of the lemma above with a test of whether the options hold a value.
pub alike_there : {A B : Type 0} {P : A → B → Type 0} (o : Option A) (p : Option B) → is_some o ≡ is_some p → ((a : A) (b : B) → o ≡ Some a → p ≡ Some b → P a b) → OptRel P o p
alike_there o p e pair = grind (arith, none, some)

pub opt_self : {A : Type 0} {P : A → A → Type 0} {o : Option A} {a : A} → OptRel P o o → o ≡ Some a → P a a
opt_self r e = opt_both r e e

pub there : {A B : Type 0} {P : A → B → Type 0} {o : Option A} {p : Option B} → BothRel P o p → OptRel P o p
there (both r) = some r

pub both_map : {A B : Type 0} {P Q : A → B → Type 0} {o : Option A} {p : Option B} → ((a : A) (b : B) → P a b → Q a b) → BothRel P o p → BothRel Q o p
both_map f (both r) = both (f _ _ r)

pub same_there : {A : Type 0} {o p : Option A} → BothRel (◌≡◌ {A = A}) o p → o ≡ p
same_there (both e) = ap Some e

-- ---- a property of what is there ----

pub then_all : {A C : Type 0} {P : A → Type 0} {Q : C → Type 0} {o : Option A} {f : A → Option C} → IfThere P o → ((a : A) → P a → IfThere Q (f a)) → IfThere Q (option_and_then f o)
then_all absent h = absent
then_all (present p) h = h _ p

pub any_there : {A : Type 0} (o : Option A) → IfThere (λ a. Unit {0}) o
any_there None = absent
any_there (Some a) = present tt

pub if_there_at : {A : Type 0} {P : A → Type 0} {o : Option A} {a : A} → IfThere P o → o ≡ Some a → P a
if_there_at {P = P} h e = go (subst (IfThere P) e h)
  where
    go : {b : _} → IfThere P (Some b) → P b
    go (present p) = p

pub with_there : {A C : Type 0} {Q : C → Type 0} (o : Option A) (f : A → Option C) → ((a : A) → o ≡ Some a → IfThere Q (f a)) → IfThere Q (option_and_then f o)
with_there None f h = absent
with_there (Some a) f h = h a refl

pub either_all : {A : Type 0} {P : A → Type 0} (b : Bool) {x y : Option A} → IfThere P x → IfThere P y → IfThere P (cond b x y)
either_all true p q = p
either_all false p q = q

-- ---- lists ----

pub get_rel : {A B : Type 0} {P : A → B → Type 0} {xs : List A} {ys : List B} → ListRel P xs ys → (n : ℕ) → OptRel P (slice_get xs n) (slice_get ys n)
get_rel nil n = none
get_rel (cons p r) zero = some p
get_rel (cons p r) (suc n) = get_rel r n

pub put_rel : {A B : Type 0} {P : A → B → Type 0} {xs : List A} {ys : List B} {v : A} {w : B} → ListRel P xs ys → (n : ℕ) → P v w → ListRel P (slice_set xs n v) (slice_set ys n w)
put_rel nil n q = nil
put_rel (cons p r) zero q = cons q r
put_rel (cons p r) (suc n) q = cons p (put_rel r n q)

pub append_rel : {A B : Type 0} {P : A → B → Type 0} {xs vs : List A} {ys ws : List B} → ListRel P xs ys → ListRel P vs ws → ListRel P (xs ++ vs) (ys ++ ws)
append_rel nil s = s
append_rel (cons p r) s = cons p (append_rel r s)

pub past_rel : {A B : Type 0} {P : A → B → Type 0} {xs : List A} {ys : List B} → ListRel P xs ys → (n : ℕ) → ListRel P (drop n xs) (drop n ys)
past_rel r zero = r
past_rel nil (suc n) = nil
past_rel (cons p r) (suc n) = past_rel r n

pub length_rel : {A B : Type 0} {P : A → B → Type 0} {xs : List A} {ys : List B} → ListRel P xs ys → length xs ≡ length ys
length_rel nil = refl
length_rel (cons p r) = ap suc (length_rel r)

-- If Q relates all values that P relates, Q relates all lists that P relates item by item.
pub each_rel : {A B : Type 0} {P Q : A → B → Type 0} {xs : List A} {ys : List B} → ((a : A) (b : B) → P a b → Q a b) → ListRel P xs ys → ListRel Q xs ys
each_rel h nil = nil
each_rel h (cons p r) = cons (h _ _ p) (each_rel h r)

-- A list is related to itself if each item is.
pub self_rel : {A : Type 0} {P : A → A → Type 0} (xs : List A) → ((x : A) → P x x) → ListRel P xs xs
self_rel [] h = nil
self_rel (x ∷ xs) h = cons (h x) (self_rel xs h)

-- A list is related to its image under a function if each item is related to its image.
pub placed_rel : {A B : Type 0} {P : A → B → Type 0} (f : A → B) (xs : List A) → ((n : ℕ) (x : A) → slice_get xs n ≡ Some x → P x (f x)) → ListRel P xs (map f xs)
placed_rel f [] h = nil
placed_rel f (x ∷ xs) h = cons (h 0 x refl) (placed_rel f xs (λ n. h (suc n)))

pub all_rel : {A B C D : Type 0} {P : C → D → Type 0} {f : A → Option C} {g : B → Option D} {xs : List A} {ys : List B} → ListRel (λ x y. OptRel P (f x) (g y)) xs ys → OptRel (ListRel P) (all_there f xs) (all_there g ys)
all_rel nil = some nil
all_rel (cons p r) = then_rel p (λ _ _ a. then_rel (all_rel r) (λ _ _ b. some (cons a b)))

pub maps_rel : {A B C D : Type 0} {P : C → D → Type 0} (f : A → C) (g : B → D) {xs : List A} {ys : List B} → ListRel (λ x y. P (f x) (g y)) xs ys → ListRel P (map f xs) (map g ys)
maps_rel f g nil = nil
maps_rel f g (cons p r) = cons p (maps_rel f g r)

module _ {A B : Type 0} {P : A → B → Type 0} where
  pub both_at : (xs : List A) (ys : List B) (n m : ℕ) (x : A) (y : B) → slice_get xs n ≡ Some x → slice_get ys m ≡ Some y → P x y → BothRel P (slice_get xs n) (slice_get ys m)
  both_at xs ys n m x y e f r = rw (e, f) (both r)

  pub both_in : {xs : List A} {ys : List B} → ListRel P xs ys → (n : ℕ) → n < length xs → BothRel P (slice_get xs n) (slice_get ys n)
  both_in {xs = xs} r n h = grind (arith, both, get_rel r n, slice_get_there xs n h)

-- ---- parts of lists ----

pub onto_rel : {A B : Type 0} {P : A → B → Type 0} {xs vs : List A} {ys ws : List B} → ListRel P xs ys → ListRel P vs ws → ListRel P (onto xs vs) (onto ys ws)
onto_rel nil s = s
onto_rel (cons p r) s = onto_rel r (cons p s)

pub copies_rel : {A B : Type 0} {P : A → B → Type 0} (v : A) (w : B) (n : ℕ) → P v w → ListRel P (copies n v) (copies n w)
copies_rel v w zero p = nil
copies_rel v w (suc n) p = cons p (copies_rel v w n p)

pub split_rel : {A B : Type 0} {P : A → B → Type 0} {xs : List A} {ys : List B} (n : ℕ) → ListRel P xs ys → OptRel (PairRel (ListRel P) (ListRel P)) (split_at n xs) (split_at n ys)
split_rel zero r = some (record { first = nil; second = r })
split_rel (suc n) nil = none
split_rel (suc n) (cons p r) = then_rel (split_rel n r) (λ _ _ q. some (record { first = cons p q.first; second = q.second }))

pub overwrite_rel : {A B : Type 0} {P : A → B → Type 0} {xs vs : List A} {ys ws : List B} (place : ℕ) → ListRel P xs ys → ListRel P vs ws → OptRel (ListRel P) (overwrite xs place vs) (overwrite ys place ws)
overwrite_rel {P = P} {vs = vs} {ws = ws} place r s =
    then_rel (split_rel place r) (λ a b p.
    let part = subst (λ n. OptRel (PairRel (ListRel P) (ListRel P)) (split_at (length vs) a.1) (split_at n b.1)) (length_rel s) (split_rel (length vs) p.second) in
    then_rel part (λ _ _ q. some (append_rel p.first (append_rel s q.second))))

-- ---- a place that is written ----

pub at_put_here : {A : Type 0} (xs : List A) (n : ℕ) (v : A) → slice_get (slice_set xs n v) n ≡ option_and_then (λ old. Some v) (slice_get xs n)
at_put_here [] n v = refl
at_put_here (x ∷ xs) zero v = refl
at_put_here (x ∷ xs) (suc n) v = at_put_here xs n v

-- ---- what is related place by place ----

pub each_self : {A : Type 0} (P : A → A → Type 0) (xs : List A) → ((x : A) → P x x) → EachRelated P xs xs
each_self P xs h a x e = (x, e, h x)

pub each_then : {A : Type 0} (P : A → A → Type 0) (xs ys zs : List A) → ((x y z : A) → P x y → P y z → P x z) → EachRelated P xs ys → EachRelated P ys zs → EachRelated P xs zs
each_then P xs ys zs trans h k a x e =
    let y = h a x e in
    let z = k a y.0 y.1 in
    (z.0, z.1, trans x y.0 z.0 y.2 z.2)

-- A list is related to itself after a write if the element written over, if any, is related to the
-- new element.
pub each_set : {A : Type 0} (P : A → A → Type 0) (xs : List A) (n : ℕ) (new : A) → ((x : A) → P x x) → ((old : A) → slice_get xs n ≡ Some old → P old new) → EachRelated P xs (slice_set xs n new)
each_set {A} P xs n new self like a x e = by (eqb_tells n a)
  where
    by : ((nat_eq n a ≡ true) × (n ≡ a)) ⊎ ((nat_eq n a ≡ false) × (n ≡ a → ⊥)) → (y : A) × (slice_get (slice_set xs n new) a ≡ Some y) × P x y
    by (inl h) =
        let old : slice_get xs n ≡ Some x = ap (slice_get xs) h.1 ∙ e in
        (new, ap (slice_get (slice_set xs n new)) (sym h.1) ∙ set_at xs n new (slice_get_within xs n x old), like x old)
    by (inr h) = (x, set_other xs n a new (λ q. h.1 (sym q)) ∙ e, self x)
