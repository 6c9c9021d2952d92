-- Names that are looked up one by one.
use Rattle.base_lists.proofs.Common.{◌≡◌, ◌∙◌, ◌⊎◌, inl, inr, refl, sym, ap, ap₂, subst, zero, suc, arith, slice_get, Some, Contains, Bool, true, false, not, ◌&&◌, ◌||◌, ℕ, ◌+◌, ◌<◌, List, [], ◌∷◌, ◌++◌, map, take, drop, get_or, length, list_any, bytes_eq, map-append, take-append-drop}
use Rattle.base_lists.proofs.Common.{get_or_default, list_any-append, mapped_more, bytes_eq-Decides}
use Rattle.std.proofs.Common.{Bor}
use Rattle.std.proofs.Math.Seq.{drop-cons}
use Rattle.base_lists.proofs.Texts.{same_texts}
use Rattle.merge_names.specs.Names.{AreDistinct}
use Rattle.merge_spec.specs.Prelude.{named_module, named_modules}
use Rattle.merge_spec.specs.Parts.{HaveDistinctNames}
use Rattle.wasm_meaning.specs.Prelude.{Part}
use Rattle.wasm_tree_spec.specs.Prelude.{Module}
use Rattle.tools_cli_spec.specs.Prelude.{Text, Source, are_apart, parts_of}
use Rattle.merge_spec.specs.declared.parts.Part as code

-- A borrowed word as a default that no proof reads.
unfoldable pub no_word : Bor Text
no_word = record { ref_ptr = (0, 0); now = [] }

pub both_of : (a b : Bool) → (not a && b) ≡ true → (a ≡ false) × (b ≡ true)
both_of false true e = (refl, refl)
both_of false false e = cc
both_of true true e = cc
both_of true false e = cc

pub neither : (a b : Bool) → (a || b) ≡ false → (a ≡ false) × (b ≡ false)
neither false false e = (refl, refl)
neither false true e = cc
neither true false e = cc
neither true true e = cc

and_false : (a b : Bool) → b ≡ false → (not a && b) ≡ false
and_false true b e = refl
and_false false b e = e

any_one_more : (x y : Text) (ys rest : List Text) → list_any (bytes_eq y) (ys ++ x ∷ rest) ≡ (list_any (bytes_eq y) ys || (bytes_eq x y || list_any (bytes_eq y) rest))
any_one_more x y ys rest = list_any-append (bytes_eq y) ys (x ∷ rest) ∙ ap (λ b. list_any (bytes_eq y) ys || (b || list_any (bytes_eq y) rest)) (same_texts.symm y x)

-- Distinct names stay distinct with one more name that differs from all of them.
apart_one_more : (xs : List Text) (x : Text) → are_apart xs ≡ true → list_any (bytes_eq x) xs ≡ false → are_apart (xs ++ x ∷ []) ≡ true
apart_one_more [] x a n = refl
apart_one_more (y ∷ ys) x a n =
    let before = both_of (list_any (bytes_eq y) ys) (are_apart ys) a in
    let unlike = neither (bytes_eq x y) (list_any (bytes_eq x) ys) n in
    let alone : list_any (bytes_eq y) (ys ++ x ∷ []) ≡ false = any_one_more x y ys [] ∙ ap₂ (λ a b. a || (b || false)) before.0 unlike.0 in
    ap₂ (λ a b. not a && b) alone (apart_one_more ys x before.1 unlike.1)

or_true : (a b c : Bool) → b ≡ true → (a || (b || c)) ≡ true
or_true true b c e = refl
or_true false b c e = rw e refl

found_or_not : (x y : Text) (ys rest : List Text) (b : Bool) → bytes_eq x y ≡ b → (list_any (bytes_eq x) ys ≡ true → are_apart (ys ++ x ∷ rest) ≡ false) → (b || list_any (bytes_eq x) ys) ≡ true
    → are_apart (y ∷ (ys ++ x ∷ rest)) ≡ false
found_or_not x y ys rest true e later h =
    let found : list_any (bytes_eq y) (ys ++ x ∷ rest) ≡ true = any_one_more x y ys rest ∙ or_true (list_any (bytes_eq y) ys) (bytes_eq x y) (list_any (bytes_eq y) rest) e in
    ap (λ b. not b && are_apart (ys ++ x ∷ rest)) found
found_or_not x y ys rest false e later h = and_false (list_any (bytes_eq y) (ys ++ x ∷ rest)) (are_apart (ys ++ x ∷ rest)) (later h)

-- Names are not distinct if one occurs before.
not_apart : (xs : List Text) (x : Text) (rest : List Text) → list_any (bytes_eq x) xs ≡ true → are_apart (xs ++ x ∷ rest) ≡ false
not_apart [] x rest h = cc
not_apart (y ∷ ys) x rest h = found_or_not x y ys rest (bytes_eq x y) refl (not_apart ys x rest) h

-- ---- at a place of a list ----

pub one_more_name : {A : Type 0} (f : A → Text) (xs : List A) (i : ℕ) (d : A) → i < length xs → map f (take (i + 1) xs) ≡ map f (take i xs) ++ f (get_or xs i d) ∷ []
one_more_name f xs i d lt = mapped_more f xs i (get_or xs i d) lt (get_or_default xs i d (get_or xs i d) lt)

pub apart_so_far : {A : Type 0} (f : A → Text) (xs : List A) (i : ℕ) (d : A) → i < length xs → are_apart (map f (take i xs)) ≡ true → list_any (bytes_eq (f (get_or xs i d))) (map f (take i xs)) ≡ false
    → are_apart (map f (take (i + 1) xs)) ≡ true
apart_so_far f xs i d lt a n = ap are_apart (one_more_name f xs i d lt) ∙ apart_one_more (map f (take i xs)) (f (get_or xs i d)) a n

pub came_before : {A : Type 0} (f : A → Text) (xs : List A) (i : ℕ) (d : A) → i < length xs → list_any (bytes_eq (f (get_or xs i d))) (map f (take i xs)) ≡ true → are_apart (map f xs) ≡ false
came_before f xs i d lt h =
    ap are_apart (ap (map f) (sym (take-append-drop i xs)) ∙ map-append f (take i xs) (drop i xs) ∙ ap (λ l. map f (take i xs) ++ map f l) (drop-cons xs i d lt))
    ∙ not_apart (map f (take i xs)) (f (get_or xs i d)) (map f (drop (suc i) xs)) h

-- ---- names that differ

differ : (x y : Text) → bytes_eq x y ≡ false → x ≡ y → ⊥
differ x y e same = let is : bytes_eq x y ≡ true = (bytes_eq-Decides x y).1 same in cc

unlike_at : (x : Text) (xs : List Text) (i : ℕ) (y : Text) → list_any (bytes_eq x) xs ≡ false → slice_get xs i ≡ Some y → x ≡ y → ⊥
unlike_at x [] i y e at same = cc
unlike_at x (z ∷ zs) zero y e at same = let here : z ≡ y = cc in differ x z (neither (bytes_eq x z) (list_any (bytes_eq x) zs) e).0 (same ∙ sym here)
unlike_at x (z ∷ zs) (suc i) y e at same = unlike_at x zs i y (neither (bytes_eq x z) (list_any (bytes_eq x) zs) e).1 at same

pub first_or_later : (x : Text) (xs : List Text) (y : Text) → Contains (x ∷ xs) y → (x ≡ y) ⊎ Contains xs y
first_or_later x xs y (zero, lt, is) = inl is
first_or_later x xs y (suc k, lt, is) = inr (k, omega arith, is)

neither_way : {A B : Type 0} → (A → ⊥) → (B → ⊥) → A ⊎ B → ⊥
neither_way f g (inl a) = f a
neither_way f g (inr b) = g b

pub apart_distinct : (names : List Text) → are_apart names ≡ true → AreDistinct names
apart_distinct [] a i name at before = cc
apart_distinct (x ∷ xs) a zero name at (k, lt, is) = omega arith
apart_distinct (x ∷ xs) a (suc i) name at before =
    let both = both_of (list_any (bytes_eq x) xs) (are_apart xs) a in
    neither_way (unlike_at x xs i name both.0 at) (apart_distinct xs both.1 i name at) (first_or_later x (take i xs) name before)

names_from : (parts : List code.Part) (sources : List Source) (trees : List Module) → length trees ≡ length sources → named_modules parts ≡ parts_of sources trees → map (λ (p : code.Part). p.name) parts ≡ map (λ (s : Source). s.name) sources
names_from [] [] trees n e = refl
names_from [] (s ∷ sources) [] n e = absurd (omega arith)
names_from [] (s ∷ sources) (t ∷ trees) n e = absurd (cc)
names_from (p ∷ parts) [] trees n e = absurd (cc)
names_from (p ∷ parts) (s ∷ sources) [] n e = absurd (cc)
names_from (p ∷ parts) (s ∷ sources) (t ∷ trees) n e =
    let rest : named_modules parts ≡ parts_of sources trees = cc in
    let head : named_module p ≡ record { name = Some s.name; «module» = t } = cc in
    let some : Some p.name ≡ Some s.name = ap (λ (q : Part). q.name) head in
    let same : p.name ≡ s.name = cc in
    ap₂ (λ (x : Text) (xs : List Text). x ∷ xs) same (names_from parts sources trees (omega arith) rest)

pub parts_apart : (parts : List code.Part) (sources : List Source) (trees : List Module) → length trees ≡ length sources → named_modules parts ≡ parts_of sources trees → are_apart (map (λ (s : Source). s.name) sources) ≡ true → HaveDistinctNames parts
parts_apart parts sources trees n e a = let P : List Text → Type 0 = AreDistinct in subst P (sym (names_from parts sources trees n e)) (apart_distinct (map (λ (s : Source). s.name) sources) a)
