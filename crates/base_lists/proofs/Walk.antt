-- Steps of a loop that goes over a list and makes, or writes, one item at a time.
use Rattle.std.proofs.Common.{◌≡◌, ℕ, zero, suc, ◌+◌, ◌-◌, ◌<◌, ◌≤◌, arith, List, [], ◌∷◌, ◌++◌, map, take, drop, set, get_or, slice_get, Some, None, refl, sym, ap, ◌∙◌, add-one, length, Result, Ok, Err, OnErr}
use Rattle.std.proofs.lemmas.List.{drop_more, take_more, map_push}
use denote.Param.Weighed.{most}

-- The image of the item at i goes behind the images of those before it.
pub mapped_more : {A B : Type 0} (f : A → B) (xs : List A) (i : ℕ) (x : A) → i < length xs → x ≡ get_or xs i x →
    map f (take (i + 1) xs) ≡ map f (take i xs) ++ f x ∷ []
mapped_more f xs i x lt is = ap (map f) (take_more xs i x lt) ∙ map_push f (take i xs) (get_or xs i x) ∙ ap (λ y. map f (take i xs) ++ f y ∷ []) (sym is)

-- The list xs with f applied to each item before i.
abbrev pub part : {A : Type 0} → (A → A) → List A → ℕ → List A
part f xs i = map f (take i xs) ++ drop i xs

pub part_at : {A : Type 0} (f : A → A) (xs : List A) (i : ℕ) → slice_get (part f xs i) i ≡ slice_get xs i
part_at f [] zero = refl
part_at f [] (suc i) = refl
part_at f (x ∷ xs) zero = refl
part_at f (x ∷ xs) (suc i) = part_at f xs i

part_suc : {A : Type 0} (f : A → A) (xs : List A) (i : ℕ) (x : A) → Some x ≡ slice_get xs i → set (part f xs i) i (f x) ≡ part f xs (suc i)
part_suc f [] i x e = cc
part_suc f (y ∷ ys) zero x e = let same : x ≡ y = cc in ap (λ z. f z ∷ ys) same
part_suc f (y ∷ ys) (suc i) x e = ap (λ zs. f y ∷ zs) (part_suc f ys i x e)

-- A write of the image of the item at i gives the list with f applied to each item before i + 1.
pub part_more : {A : Type 0} (f : A → A) (xs : List A) (i : ℕ) (x : A) → Some x ≡ slice_get xs i → set (part f xs i) i (f x) ≡ part f xs (i + 1)
part_more f xs i x e = rw add-one (part_suc f xs i x e)

-- No item weighs more than the heaviest item.
pub most_at : {A : Type 0} (weight : A → ℕ) (xs : List A) (i : ℕ) (x : A) → Some x ≡ slice_get xs i → weight x ≤ most weight xs
most_at weight [] i x e = cc
most_at weight (y ∷ ys) zero x e = let same : x ≡ y = cc in rw same (omega arith)
most_at weight (y ∷ ys) (suc i) x e = omega (arith, most_at weight ys i x e)

-- A place at which no item is found is past the end of the list.
pub none_past : {A : Type 0} (xs : List A) (i : ℕ) → None ≡ slice_get xs i → length xs ≤ i
none_past [] i e = omega arith
none_past (x ∷ xs) zero e = cc
none_past (x ∷ xs) (suc i) e = omega (arith, none_past xs i e)

-- A fact that holds in any case holds where the result is an error.
pub on_err : {T E : Type 0} (r : Result T E) (P : Type 0) → P → OnErr r P
on_err (Ok x) P p = tt
on_err (Err e) P p = p

-- The rest of a list from i - 1 on is the item at i - 1 with the rest from i on behind it.
pub left_back : {A : Type 0} (xs : List A) (i : ℕ) (x : A) → 0 < i → i ≤ length xs → x ≡ get_or xs (i - 1) x → drop (i - 1) xs ≡ x ∷ drop i xs
left_back xs i x above within is =
    let e : i - 1 + 1 ≡ i = omega arith in
    drop_more xs (i - 1) x (omega arith) ∙ ap (λ y. y ∷ drop (i - 1 + 1) xs) (sym is) ∙ ap (λ n. x ∷ drop n xs) e
