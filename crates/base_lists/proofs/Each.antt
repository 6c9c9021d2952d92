-- A test, or a fact, of each element of a list, by its place.
use Rattle.std.proofs.Common.{◌≡◌, subst, refl, ℕ, zero, suc, List, [], ◌∷◌, Some, Bool, true, false, ◌||◌, slice_get, Contains, sym, ap, ◌∙◌, ◌<◌, IsTrue, length, get_or, ◌++◌}
use Rattle.std.proofs.lemmas.Option.{slice_get_within, get_or_from_slice_get, slice_get_read}
use Rattle.std.specs.List.{list_any, list_all}
use Rattle.std.proofs.lemmas.Bool.{and_from}
use Rattle.base_lists.specs.Every.{Every}
use Rattle.base_lists.proofs.Bools.{left_true, right_true, left_either, right_either}
use Rattle.base_lists.proofs.Places.{Has, slice_get_there}
use Rattle.std.proofs.Math.Bool.{or-false, or_assoc}
use Rattle.std.proofs.lemmas.List.Folds.{list_any-append}

pub every_at : {A : Type 0} (P : A → Type 0) (xs : List A) (n : ℕ) (x : A) → Every P xs → slice_get xs n ≡ Some x → P x
every_at P [] n x e h = cc
every_at P (y ∷ ys) zero x e h = let same : y ≡ x = cc in subst P same e.0
every_at P (y ∷ ys) (suc n) x e h = every_at P ys n x e.1 h

pub list_all_each : {A : Type 0} (test : A → Bool) (xs : List A) → list_all test xs ≡ true → (n : ℕ) (x : A) → slice_get xs n ≡ Some x → test x ≡ true
list_all_each test [] h n x e = cc
list_all_each test (y ∷ ys) h zero x e = let same : y ≡ x = cc in subst (λ z. test z ≡ true) same (left_true (test y) (list_all test ys) h)
list_all_each test (y ∷ ys) h (suc n) x e = list_all_each test ys (right_true (test y) (list_all test ys) h) n x e

pub list_all_from : {A : Type 0} (test : A → Bool) (xs : List A) → ((n : ℕ) (x : A) → slice_get xs n ≡ Some x → test x ≡ true) → list_all test xs ≡ true
list_all_from test [] h = refl
list_all_from test (y ∷ ys) h = and_from (test y) (list_all test ys) (h 0 y refl) (list_all_from test ys (λ n. h (suc n)))

pub list_any_there : {A : Type 0} (test : A → Bool) (xs : List A) → list_any test xs ≡ true → (x : A) × Has xs x × (test x ≡ true)
list_any_there test [] h = absurd (let k = h in cc)
list_any_there {A} test (y ∷ ys) h = by (list_any_there test ys) (test y) refl h
  where
    more : (x : A) × Has ys x × (test x ≡ true) → (x : A) × Has (y ∷ ys) x × (test x ≡ true)
    more r = (r.0, (suc r.1.0, r.1.1), r.2)

    by : (list_any test ys ≡ true → (x : A) × Has ys x × (test x ≡ true)) → (b : Bool) → test y ≡ b → (b || list_any test ys) ≡ true → (x : A) × Has (y ∷ ys) x × (test x ≡ true)
    by on true e k = (y, (0, refl), e)
    by on false e k = more (on k)

pub any_from_place : {A : Type 0} (test : A → Bool) (xs : List A) (n : ℕ) (x : A) → slice_get xs n ≡ Some x → test x ≡ true → list_any test xs ≡ true
any_from_place test [] n x at h = cc
any_from_place test (y ∷ ys) zero x at h = let same : y ≡ x = cc in left_either (test y) (list_any test ys) (ap test same ∙ h)
any_from_place test (y ∷ ys) (suc n) x at h = right_either (test y) (list_any test ys) (any_from_place test ys n x at h)

-- ---- members by place ----

pub contains_there : {A : Type 0} (xs : List A) (x : A) → Contains xs x → (p : ℕ) × (slice_get xs p ≡ Some x)
contains_there xs x (k, lt, e) =
    let y = slice_get_there xs k lt in
    (k, y.1 ∙ ap Some (sym (get_or_from_slice_get xs k y.0 x y.1) ∙ e))

pub there_contains : {A : Type 0} (xs : List A) (p : ℕ) (x : A) → slice_get xs p ≡ Some x → Contains xs x
there_contains xs p x at = (p, slice_get_within xs p x at, get_or_from_slice_get xs p x x at)

-- If `after` says whether `before` is true or an item passes the test, then `after`, joined with
-- the test of x, says so of the items with x behind them.
pub any_more : {A : Type 0} (test : A → Bool) (before after last : Bool) (items : List A) (x : A) → after ≡ (before || list_any test items) → last ≡ (after || test x) → last ≡ (before || list_any test (items ++ x ∷ []))
any_more test before after last items x h g =
    g ∙ ap (λ b. b || test x) h ∙ or_assoc before (list_any test items) (test x)
    ∙ ap (λ b. before || b) (sym (list_any-append test items (x ∷ []) ∙ ap (λ b. list_any test items || b) (or-false (test x))))

pub all_at_place : {A : Type 0} (test : A → Bool) (xs : List A) (i : ℕ) (x : A) → IsTrue (list_all test xs) → i < length xs → x ≡ get_or xs i x → IsTrue (test x)
all_at_place test xs i x h lt is = list_all_each test xs h i x (slice_get_read xs _ i x refl lt is)
