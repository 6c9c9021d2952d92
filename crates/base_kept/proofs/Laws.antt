-- The elements of a list that are kept by marks: their places, and those of lists that are joined,
-- mapped or chosen from others.
use Rattle.base_lists.proofs.Common.{◌≡◌, ◌∙◌, ap, sym, subst, refl, ℕ, zero, suc, ◌+◌, ◌<◌, ◌≤◌, List, [], ◌∷◌, ◌++◌, map, take, drop, length, replicate, Option, Some, None, is_some, Bool, true, false, cond, arith, slice_get, slice_index, true≢false, reverse, append_assoc, Contains, cons_option}
use Rattle.base_lists.proofs.Common.{reverse-append, map-append, slice_get_within, slice_get-get_or, get_or_from_slice_get, map_numbers_index, numbers_more}
use Rattle.std.proofs.Common.{filter_map}
use Rattle.std.proofs.lemmas.List.{append-nil}
use Rattle.base_lists.specs.Places.{numbers, places}
use Rattle.base_kept.specs.Kept.{kept, is_marked, kept_before, new_places}

-- ---- places ----

pub kept_at : {A : Type 0} (bs : List Bool) (xs : List A) (n : ℕ) (x : A) → is_marked bs n ≡ true → slice_get xs n ≡ Some x → slice_get (kept bs xs) (kept_before bs n) ≡ Some x
kept_at [] xs n x h e = absurd (true≢false (sym h))
kept_at (b ∷ bs) [] n x h e = cc
kept_at (b ∷ bs) (y ∷ ys) zero x h e = ap (λ c. slice_get (cond c (y ∷ kept bs ys) (kept bs ys)) 0) h ∙ e
kept_at (b ∷ bs) (y ∷ ys) (suc n) x h e = by b (kept_at bs ys n x h e)
  where
    by : (c : Bool) → slice_get (kept bs ys) (kept_before bs n) ≡ Some x → slice_get (cond c (y ∷ kept bs ys) (kept bs ys)) (cond c (suc (kept_before bs n)) (kept_before bs n)) ≡ Some x
    by true on = on
    by false on = on

-- An element that is kept, with the place that it had.
pub record Kept {A : Type 0} (bs : List Bool) (xs : List A) (at : ℕ) (x : A) : Type 0 where
  pub place : ℕ
  pub yes : is_marked bs place ≡ true
  pub is : slice_get xs place ≡ Some x
  pub goes : kept_before bs place ≡ at

pub kept_from : {A : Type 0} (bs : List Bool) (xs : List A) (at : ℕ) (x : A) → slice_get (kept bs xs) at ≡ Some x → Kept bs xs at x
kept_from [] xs at x h = absurd (let k = h in cc)
kept_from (b ∷ bs) [] at x h = absurd (let k = h in cc)
kept_from {A} (true ∷ bs) (y ∷ ys) zero x h = record { place = 0; yes = refl; is = h; goes = refl }
kept_from {A} (true ∷ bs) (y ∷ ys) (suc at) x h = let r = kept_from bs ys at x h in record { place = suc r.place; yes = r.yes; is = r.is; goes = ap suc r.goes }
kept_from {A} (false ∷ bs) (y ∷ ys) at x h = let r = kept_from bs ys at x h in record { place = suc r.place; yes = r.yes; is = r.is; goes = r.goes }

pub new_place : (bs : List Bool) (n : ℕ) → n < length bs → slice_index (new_places bs) n ≡ kept_before bs n
new_place bs n lt = map_numbers_index (kept_before bs) 0 (length bs) n lt ∙ ap (kept_before bs) (let z : 0 + n ≡ n = omega arith in z)

-- An element that is kept stands at its new place.
pub moved : {A : Type 0} (bs : List Bool) (xs : List A) (n : ℕ) (x : A) → length xs ≤ length bs → is_marked bs n ≡ true → slice_get xs n ≡ Some x → slice_get (kept bs xs) (slice_index (new_places bs) n) ≡ Some x
moved bs xs n x many h e = let lt = slice_get_within xs n x e in ap (slice_get (kept bs xs)) (new_place bs n (omega (arith, lt, many))) ∙ kept_at bs xs n x h e

-- The marks from a place on are those of the list without the marks before it.
pub marked_drop : (bs : List Bool) (n z : ℕ) → is_marked (drop n bs) z ≡ is_marked bs (n + z)
marked_drop bs zero z = ap (is_marked bs) (let e : z ≡ 0 + z = omega arith in e)
marked_drop [] (suc n) z = refl
marked_drop (b ∷ bs) (suc n) z = marked_drop bs n z ∙ ap (is_marked (b ∷ bs)) (let e : suc (n + z) ≡ suc n + z = omega arith in e)

-- ---- how many ----

pub kept_most : {A : Type 0} (bs : List Bool) (xs : List A) → length (kept bs xs) ≤ length xs
kept_most [] xs = omega arith
kept_most (b ∷ bs) [] = omega arith
kept_most (true ∷ bs) (x ∷ xs) = let l = kept_most bs xs in omega (arith, l)
kept_most (false ∷ bs) (x ∷ xs) = let l = kept_most bs xs in omega (arith, l)

-- ---- lists that are mapped, joined or cut ----

pub kept_map : {A B : Type 0} (f : A → B) (bs : List Bool) (xs : List A) → kept bs (map f xs) ≡ map f (kept bs xs)
kept_map f [] xs = refl
kept_map f (b ∷ bs) [] = refl
kept_map f (true ∷ bs) (x ∷ xs) = ap (λ ys. f x ∷ ys) (kept_map f bs xs)
kept_map f (false ∷ bs) (x ∷ xs) = kept_map f bs xs

pub kept_none : {A : Type 0} (bs : List Bool) → kept {A = A} bs [] ≡ []
kept_none [] = refl
kept_none (b ∷ bs) = refl

pub kept_append : {A : Type 0} (bs : List Bool) (xs ys : List A) → kept bs (xs ++ ys) ≡ kept bs xs ++ kept (drop (length xs) bs) ys
kept_append bs [] ys = ap (λ zs. zs ++ kept bs ys) (sym (kept_none bs))
kept_append [] (x ∷ xs) ys = refl
kept_append (true ∷ bs) (x ∷ xs) ys = ap (λ zs. x ∷ zs) (kept_append bs xs ys)
kept_append (false ∷ bs) (x ∷ xs) ys = kept_append bs xs ys

pub kept_all : {A : Type 0} (n : ℕ) (xs : List A) → length xs ≤ n → kept (replicate n true) xs ≡ xs
kept_all zero [] l = refl
kept_all zero (x ∷ xs) l = absurd (omega arith)
kept_all (suc n) [] l = refl
kept_all (suc n) (x ∷ xs) l = ap (λ ys. x ∷ ys) (kept_all n xs (omega arith))

pub kept_take : {A : Type 0} (bs : List Bool) (xs : List A) (n : ℕ) → take (kept_before bs n) (kept bs xs) ≡ kept (take n bs) (take n xs)
kept_take [] xs zero = refl
kept_take [] xs (suc n) = refl
kept_take (b ∷ bs) [] zero = refl
kept_take (b ∷ bs) [] (suc n) = none (kept_before (b ∷ bs) (suc n))
  where
    none : {A : Type 0} (m : ℕ) → take {A = A} m [] ≡ []
    none zero = refl
    none (suc m) = refl
kept_take (b ∷ bs) (x ∷ xs) zero = refl
kept_take (true ∷ bs) (x ∷ xs) (suc n) = ap (λ ys. x ∷ ys) (kept_take bs xs n)
kept_take (false ∷ bs) (x ∷ xs) (suc n) = kept_take bs xs n

-- Each element that is kept is an element of the list.
pub kept_contained : {A : Type 0} (bs : List Bool) (xs : List A) (x : A) → Contains (kept bs xs) x → Contains xs x
kept_contained bs xs x (k, lt, e) =
    let r = kept_from bs xs k x (slice_get-get_or (kept bs xs) k x lt ∙ ap Some e) in
    (r.place, slice_get_within xs r.place x r.is, get_or_from_slice_get xs r.place x x r.is)

-- ---- one more ----

-- A further element is kept if its place is marked.
kept_last : {A : Type 0} (bs : List Bool) (n : ℕ) (x : A) → kept (drop n bs) (x ∷ []) ≡ cond (is_marked bs n) (x ∷ []) []
kept_last [] zero x = refl
kept_last [] (suc n) x = refl
kept_last (true ∷ bs) zero x = ap (λ ys. x ∷ ys) (kept_none bs)
kept_last (false ∷ bs) zero x = kept_none bs
kept_last (b ∷ bs) (suc n) x = kept_last bs n x

kept_more : {A : Type 0} (bs : List Bool) (xs : List A) (x : A) → kept bs (xs ++ x ∷ []) ≡ kept bs xs ++ cond (is_marked bs (length xs)) (x ∷ []) []
kept_more bs xs x = kept_append bs xs (x ∷ []) ∙ ap (λ ys. kept bs xs ++ ys) (kept_last bs (length xs) x)

-- One step of a loop from the end, with the elements kept of those passed in reverse order.
pub one_taken : {A : Type 0} (bs : List Bool) (all xs ys back : List A) (x : A) → xs ≡ ys ++ x ∷ [] → is_marked bs (length ys) ≡ true → kept bs xs ++ reverse back ≡ kept bs all → kept bs ys ++ reverse (back ++ x ∷ []) ≡ kept bs all
one_taken bs all xs ys back x e h is =
    ap (λ zs. kept bs ys ++ zs) (reverse-append back (x ∷ [])) ∙ sym (append_assoc (kept bs ys) (x ∷ []) (reverse back))
    ∙ ap (λ b. (kept bs ys ++ cond b (x ∷ []) []) ++ reverse back) (sym h) ∙ ap (λ zs. zs ++ reverse back) (sym (ap (kept bs) e ∙ kept_more bs ys x)) ∙ is

pub one_left : {A : Type 0} (bs : List Bool) (all xs ys back : List A) (x : A) → xs ≡ ys ++ x ∷ [] → is_marked bs (length ys) ≡ false → kept bs xs ++ reverse back ≡ kept bs all → kept bs ys ++ reverse back ≡ kept bs all
one_left bs all xs ys back x e h is =
    ap (λ zs. zs ++ reverse back) (sym (append-nil (kept bs ys)) ∙ ap (λ b. kept bs ys ++ cond b (x ∷ []) []) (sym h) ∙ sym (ap (kept bs) e ∙ kept_more bs ys x)) ∙ is

before_more : (bs : List Bool) (n : ℕ) → kept_before bs (suc n) ≡ cond (is_marked bs n) (suc (kept_before bs n)) (kept_before bs n)
before_more [] zero = refl
before_more [] (suc n) = refl
before_more (true ∷ bs) zero = refl
before_more (false ∷ bs) zero = refl
before_more (true ∷ bs) (suc n) = ap suc (before_more bs n) ∙ by (is_marked bs n)
  where
    by : (c : Bool) → suc (cond c (suc (kept_before bs n)) (kept_before bs n)) ≡ cond c (suc (suc (kept_before bs n))) (suc (kept_before bs n))
    by true = refl
    by false = refl
before_more (false ∷ bs) (suc n) = before_more bs n

pub one_marked : (bs : List Bool) (n : ℕ) → is_marked bs n ≡ true → kept_before bs (n + 1) ≡ kept_before bs n + 1
one_marked bs n h =
    ap (kept_before bs) (let z : n + 1 ≡ suc n = omega arith in z) ∙ before_more bs n ∙ ap (λ b. cond b (suc (kept_before bs n)) (kept_before bs n)) h ∙ (let z : suc (kept_before bs n) ≡ kept_before bs n + 1 = omega arith in z)

pub none_marked : (bs : List Bool) (n : ℕ) → is_marked bs n ≡ false → kept_before bs (n + 1) ≡ kept_before bs n
none_marked bs n h = ap (kept_before bs) (let z : n + 1 ≡ suc n = omega arith in z) ∙ before_more bs n ∙ ap (λ b. cond b (suc (kept_before bs n)) (kept_before bs n)) h

pub places_more : (bs : List Bool) (n : ℕ) → map (kept_before bs) (numbers 0 (n + 1)) ≡ map (kept_before bs) (numbers 0 n) ++ kept_before bs n ∷ []
places_more bs n =
    ap (map (kept_before bs)) (numbers_more 0 n) ∙ map-append (kept_before bs) (numbers 0 n) ((0 + n) ∷ []) ∙ ap (λ i. map (kept_before bs) (numbers 0 n) ++ kept_before bs i ∷ []) (let z : 0 + n ≡ n = omega arith in z)

pub before_most : (bs : List Bool) (n : ℕ) → kept_before bs n ≤ n
before_most [] zero = omega arith
before_most [] (suc n) = omega arith
before_most (b ∷ bs) zero = omega arith
before_most (true ∷ bs) (suc n) = let l = before_most bs n in omega (arith, l)
before_most (false ∷ bs) (suc n) = let l = before_most bs n in omega (arith, l)

-- ---- lists that are chosen from others ----

-- Each element of which a value is chosen is kept exactly if the value is kept.
abbrev pub AreKeptAlike : {A : Type 0} → (A → Bool) → List Bool → List Bool → List A → ℕ → Type 0
AreKeptAlike test bs cs xs from = (i n : ℕ) → slice_get (places test xs from) i ≡ Some (from + n) → is_marked bs n ≡ is_marked cs i

-- The values chosen of the kept elements are the kept ones of the chosen values.
pub kept_chosen : {A B : Type 0} (test : A → Bool) (f : A → Option B) → ((x : A) → is_some (f x) ≡ test x) → (bs cs : List Bool) (xs : List A) (from : ℕ) → length bs ≡ length xs → length (filter_map f xs) ≤ length cs →
    AreKeptAlike test bs cs xs from → filter_map f (kept bs xs) ≡ kept cs (filter_map f xs)
kept_chosen test f is [] cs [] from l m h = sym (kept_none cs)
kept_chosen test f is (b ∷ bs) cs [] from l m h = absurd (omega (arith, l))
kept_chosen test f is [] cs (x ∷ xs) from l m h = absurd (omega (arith, l))
kept_chosen {A} {B} test f is (b ∷ bs) cs (x ∷ xs) from l m h = by (λ cs. kept_chosen test f is bs cs xs (suc from) (omega (arith, l))) (f x) (test x) refl refl (is x) cs m h
  where
    next : (n : ℕ) → suc from + n ≡ from + suc n
    next n = omega arith

    skipped : (c : Bool) → f x ≡ None → filter_map f (cond c (x ∷ kept bs xs) (kept bs xs)) ≡ filter_map f (kept bs xs)
    skipped true e = ap (λ o. cons_option o (filter_map f (kept bs xs))) e
    skipped false e = refl

    chosen : (c d : Bool) (y : B) (ys : List B) (cs : List Bool) → c ≡ d → f x ≡ Some y → filter_map f (kept bs xs) ≡ kept cs ys → filter_map f (cond c (x ∷ kept bs xs) (kept bs xs)) ≡ cond d (y ∷ kept cs ys) (kept cs ys)
    chosen true true y ys cs s e on = ap (λ o. cons_option o (filter_map f (kept bs xs))) e ∙ ap (λ zs. y ∷ zs) on
    chosen false false y ys cs s e on = on
    chosen true false y ys cs s e on = absurd (true≢false s)
    chosen false true y ys cs s e on = absurd (true≢false (sym s))

    by : ((cs : List Bool) → length (filter_map f xs) ≤ length cs → AreKeptAlike test bs cs xs (suc from) → filter_map f (kept bs xs) ≡ kept cs (filter_map f xs)) → (o : Option B) (t : Bool) → f x ≡ o → test x ≡ t → is_some (f x) ≡ test x → (cs : List Bool) →
        length (cons_option (f x) (filter_map f xs)) ≤ length cs → ((i n : ℕ) → slice_get (cond (test x) (from ∷ places test xs (suc from)) (places test xs (suc from))) i ≡ Some (from + n) → is_marked (b ∷ bs) n ≡ is_marked cs i) → filter_map f (cond b (x ∷ kept bs xs) (kept bs xs)) ≡
        kept cs (cons_option (f x) (filter_map f xs))
    by on None true e g s cs m h = absurd (true≢false (sym g ∙ sym s ∙ ap is_some e))
    by on (Some y) false e g s cs m h = absurd (true≢false (sym (ap is_some e) ∙ s ∙ g))
    by on None false e g s cs m h =
        let told = subst (λ t. (i n : ℕ) → slice_get (cond t (from ∷ places test xs (suc from)) (places test xs (suc from))) i ≡ Some (from + n) → is_marked (b ∷ bs) n ≡ is_marked cs i) g h in
        skipped b e ∙ on cs (subst (λ o. length (cons_option o (filter_map f xs)) ≤ length cs) e m) (λ i n k. told i (suc n) (k ∙ ap Some (next n))) ∙ ap (λ o. kept cs (cons_option o (filter_map f xs))) (sym e)
    by on (Some y) true e g s [] m h = absurd (let z = subst (λ o. length (cons_option o (filter_map f xs)) ≤ 0) e m in omega (arith, z))
    by on (Some y) true e g s (c ∷ cs) m h =
        let told = subst (λ t. (i n : ℕ) → slice_get (cond t (from ∷ places test xs (suc from)) (places test xs (suc from))) i ≡ Some (from + n) → is_marked (b ∷ bs) n ≡ is_marked (c ∷ cs) i) g h in
        let few = subst (λ o. length (cons_option o (filter_map f xs)) ≤ suc (length cs)) e m in
        let rest = on cs (omega (arith, few)) (λ i n k. told (suc i) (suc n) (k ∙ ap Some (next n))) in
        chosen b c y (filter_map f xs) cs (told 0 0 (ap Some (let z : from ≡ from + 0 = omega arith in z))) e rest ∙ ap (λ o. kept (c ∷ cs) (cons_option o (filter_map f xs))) (sym e)

-- Two different places that are marked have different new places.
pub marked_apart : (bs : List Bool) (x y : ℕ) → is_marked bs x ≡ true → is_marked bs y ≡ true → kept_before bs x ≡ kept_before bs y → x ≡ y
marked_apart [] x y h k e = absurd (true≢false (sym h))
marked_apart (b ∷ bs) zero zero h k e = refl
marked_apart (true ∷ bs) zero (suc y) h k e = absurd (omega (arith, e))
marked_apart (false ∷ bs) zero (suc y) h k e = absurd (true≢false (sym h))
marked_apart (true ∷ bs) (suc x) zero h k e = absurd (omega (arith, e))
marked_apart (false ∷ bs) (suc x) zero h k e = absurd (true≢false (sym k))
marked_apart (true ∷ bs) (suc x) (suc y) h k e = ap suc (marked_apart bs x y h k (omega (arith, e)))
marked_apart (false ∷ bs) (suc x) (suc y) h k e = ap suc (marked_apart bs x y h k e)
