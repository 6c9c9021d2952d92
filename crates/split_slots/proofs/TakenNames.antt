-- The loop that collects the names of exports, one at a time, and the search for the first added
-- name that is among them.
use Rattle.base_lists.proofs.Common.{◌≡◌, ℕ, ◌+◌, ◌<◌, Bool, true, false, ◌||◌, cond, List, [], ◌∷◌, ◌++◌, drop, find, map, take, length, get_or, is_some, Option, Some, refl, sym, ap, ◌∙◌, list_any, drop_more, take_more, list_any-append}

last_first : (a b : Bool) → (a || (b || false)) ≡ cond b true a
last_first true true = refl
last_first true false = refl
last_first false true = refl
last_first false false = refl

-- A step over one element: it passes the test, or one before it does.
pub any_more : {A : Type 0} (test : A → Bool) (xs : List A) (k : ℕ) (x : A) → k < length xs → x ≡ get_or xs k x →
    list_any test (take (k + 1) xs) ≡ cond (test x) true (list_any test (take k xs))
any_more test xs k x lt is =
    ap (list_any test) (take_more xs k x lt ∙ ap (λ y. take k xs ++ y ∷ []) (sym is)) ∙ list_any-append test (take k xs) (x ∷ []) ∙ last_first (list_any test (take k xs)) (test x)

pub noted_there : {A : Type 0} (b : Bool) (x : A) (o : Option A) → is_some (cond b (Some x) o) ≡ cond b true (is_some o)
noted_there true x o = refl
noted_there false x o = refl

-- The search from a place on finds the element at the place if it passes the test, and else what is
-- found after it.
pub find_more : {A B : Type 0} (test : B → Bool) (f : A → B) (xs : List A) (k : ℕ) (x : A) (b : Bool) → k < length xs → x ≡ get_or xs k x → test (f x) ≡ b →
    find test (map f (drop k xs)) ≡ cond b (Some (f x)) (find test (map f (drop (k + 1) xs)))
find_more test f xs k x b lt is e =
    let rest = find test (map f (drop (k + 1) xs)) in
    ap (λ ys. find test (map f ys)) (drop_more xs k x lt ∙ ap (λ y. y ∷ drop (k + 1) xs) (sym is)) ∙ ap (λ c. cond c (Some (f x)) rest) e
