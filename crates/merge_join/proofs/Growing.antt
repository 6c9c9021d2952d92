-- Lists that are built entry by entry.
use Rattle.std.proofs.Common.{◌≡◌, ◌∙◌, sym, ap, refl, ℕ, zero, suc, ◌+◌, ◌<◌, List, [], ◌∷◌, ◌++◌, map, take, length, arith, slice_get, get_or, Some, Bool, true, false, cond, append-nil}
use Rattle.wasm_meaning.specs.Linking.{places}

pub item_there : {A : Type 0} (xs : List A) (i : ℕ) (x : A) → i < length xs → x ≡ get_or xs i x → slice_get xs i ≡ Some x
item_there [] i x lt is = absurd (omega (arith, lt))
item_there (y ∷ ys) zero x lt is = ap Some (sym is)
item_there (y ∷ ys) (suc i) x lt is = item_there ys i x (omega (arith, lt)) is

places_push : {A : Type 0} (test : A → Bool) (xs : List A) (n : ℕ) (x : A) (from : ℕ) → slice_get xs n ≡ Some x → places test (take (suc n) xs) from ≡ places test (take n xs) from ++ cond (test x) ((from + n) ∷ []) []
places_push test [] n x from h = cc
places_push test (y ∷ ys) zero x from h =
    let same : y ≡ x = cc in
    let z : from ≡ from + 0 = omega arith in
    ap (λ x. cond (test x) (from ∷ []) []) same ∙ ap (λ k. cond (test x) (k ∷ []) []) z
places_push {A} test (y ∷ ys) (suc n) x from h =
    let z : suc from + n ≡ from + suc n = omega arith in
    ap (λ rest. cond (test y) (from ∷ rest) rest) (places_push test ys n x (suc from) h ∙ ap (λ k. places test (take n ys) (suc from) ++ cond (test x) (k ∷ []) []) z)
    ∙ split (test y) (places test (take n ys) (suc from)) (cond (test x) ((from + suc n) ∷ []) [])
  where
    split : (b : Bool) (l r : List ℕ) → cond b (from ∷ l ++ r) (l ++ r) ≡ cond b (from ∷ l) l ++ r
    split true l r = refl
    split false l r = refl

map_join : {A B : Type 0} (f : A → B) (xs ys : List A) → map f (xs ++ ys) ≡ map f xs ++ map f ys
map_join f [] ys = refl
map_join f (x ∷ xs) ys = ap (λ rest. f x ∷ rest) (map_join f xs ys)

places_next : {A : Type 0} (test : A → Bool) (xs : List A) (n : ℕ) (x : A) → slice_get xs n ≡ Some x → places test (take (n + 1) xs) 0 ≡ places test (take n xs) 0 ++ cond (test x) (n ∷ []) []
places_next test xs n x h =
    let next : n + 1 ≡ suc n = omega arith in
    let z : 0 + n ≡ n = omega arith in
    ap (λ k. places test (take k xs) 0) next ∙ places_push test xs n x 0 h ∙ ap (λ k. places test (take n xs) 0 ++ cond (test x) (k ∷ []) []) z

-- The list of places grows by a place whose element passes the test.
pub place_kept : {A B : Type 0} (test : A → Bool) (f : ℕ → B) (xs : List A) (n : ℕ) (x : A) (old new : List B) → slice_get xs n ≡ Some x → test x ≡ true → old ≡ map f (places test (take n xs) 0) → new ≡ old ++ f n ∷ [] →
    new ≡ map f (places test (take (n + 1) xs) 0)
place_kept test f xs n x old new at kept was is =
    is ∙ ap (λ l. l ++ f n ∷ []) was ∙ sym (ap (map f) (places_next test xs n x at ∙ ap (λ b. places test (take n xs) 0 ++ cond b (n ∷ []) []) kept) ∙ map_join f (places test (take n xs) 0) (n ∷ []))

-- The list of places does not grow at a place whose element does not pass the test.
pub place_left : {A B : Type 0} (test : A → Bool) (f : ℕ → B) (xs : List A) (n : ℕ) (x : A) (old : List B) → slice_get xs n ≡ Some x → test x ≡ false → old ≡ map f (places test (take n xs) 0) → old ≡ map f (places test (take (n + 1) xs) 0)
place_left test f xs n x old at left was =
    was ∙ sym (append-nil (map f (places test (take n xs) 0))) ∙ sym (ap (map f) (places_next test xs n x at ∙ ap (λ b. places test (take n xs) 0 ++ cond b (n ∷ []) []) left) ∙ map_join f (places test (take n xs) 0) [])
