-- The marks of the numbers in a list: how they are set, and the mark at a place.
use Rattle.base_lists.proofs.Common.{◌≡◌, ℕ, zero, suc, ◌+◌, ◌<◌, ◌≢◌, Bool, true, false, ◌||◌, nat_eq, List, [], ◌∷◌, ◌++◌, length, drop, get_or, Some, refl, sym, ap, ◌∙◌, arith, append_assoc, append-nil, zero-add, add-zero, slice_get, slice_set, replicate, flat_map, list_any, at_drop_more}
use Rattle.base_lists.proofs.Common.{list_any-append, nat_tests, eq-eqb, or-true, or-false}
use Rattle.base_lists.specs.Members.{is_among}
use Rattle.base_kept.specs.Marks.{named_from, marked_all}

-- ---- marks that are set ----

pub marked_append : (marks : List Bool) (rs qs : List ℕ) → marked_all marks (rs ++ qs) ≡ marked_all (marked_all marks rs) qs
marked_append marks [] qs = refl
marked_append marks (r ∷ rs) qs = marked_append (slice_set marks r true) rs qs

-- One step of a loop over elements that name numbers marks the numbers of the element passed.
pub segment_step : {X : Type 0} (f : X → List ℕ) (xs : List X) (i : ℕ) (x : X) (marks new : List Bool) → i < length xs → x ≡ get_or xs i x → new ≡ marked_all marks (f x) →
    marked_all new (flat_map f (drop (i + 1) xs)) ≡ marked_all marks (flat_map f (drop i xs))
segment_step f xs i x marks new lt is e =
    ap (λ z. marked_all z (flat_map f (drop (i + 1) xs))) e
    ∙ sym (marked_append marks (f x) (flat_map f (drop (i + 1) xs)))
    ∙ ap (λ z. marked_all marks (f z ++ flat_map f (drop (i + 1) xs))) is
    ∙ sym (at_drop_more (λ zs. marked_all marks (flat_map f zs)) xs i x lt)

pub no_marks : (a n : ℕ) → named_from [] a n ≡ replicate n false
no_marks a zero = refl
no_marks a (suc n) = ap (λ z. false ∷ z) (no_marks (suc a) n)

other : (refs : List ℕ) (a r : ℕ) → a ≢ r → list_any (nat_eq a) (refs ++ r ∷ []) ≡ list_any (nat_eq a) refs
other refs a r ne =
    let no : nat_eq a r ≡ false = grind (arith, nat_tests) in
    list_any-append (nat_eq a) refs (r ∷ []) ∙ ap (λ b. list_any (nat_eq a) refs || (b || false)) no ∙ or-false (list_any (nat_eq a) refs)

itself : (refs : List ℕ) (a : ℕ) → list_any (nat_eq a) (refs ++ a ∷ []) ≡ true
itself refs a =
    let yes : nat_eq a a ≡ true = eq-eqb a a refl in
    list_any-append (nat_eq a) refs (a ∷ []) ∙ ap (λ b. list_any (nat_eq a) refs || (b || false)) yes ∙ or-true (list_any (nat_eq a) refs)

above : (refs : List ℕ) (r a n : ℕ) → r < a → named_from (refs ++ r ∷ []) a n ≡ named_from refs a n
above refs r a zero lt = refl
above refs r a (suc n) lt =
    let ne : a ≢ r = omega arith in
    ap (λ b. b ∷ named_from (refs ++ r ∷ []) (suc a) n) (other refs a r ne) ∙ ap (λ z. list_any (nat_eq a) refs ∷ z) (above refs r (suc a) n (omega arith))

one_mark : (refs : List ℕ) (a n k r : ℕ) → r ≡ a + k → slice_set (named_from refs a n) k true ≡ named_from (refs ++ r ∷ []) a n
one_mark refs a zero k r e = refl
one_mark refs a (suc n) zero r e =
    let same : a ≡ r = omega arith in
    ap (λ z. true ∷ z) (sym (above refs r (suc a) n (omega arith))) ∙ ap (λ b. b ∷ named_from (refs ++ r ∷ []) (suc a) n) (sym (itself refs a) ∙ ap (λ z. list_any (nat_eq a) (refs ++ z ∷ [])) same)
one_mark refs a (suc n) (suc k) r e =
    let ne : a ≢ r = omega arith in
    ap (λ z. list_any (nat_eq a) refs ∷ z) (one_mark refs (suc a) n k r (omega arith)) ∙ ap (λ b. b ∷ named_from (refs ++ r ∷ []) (suc a) n) (sym (other refs a r ne))

pub all_marks : (refs rs : List ℕ) (n : ℕ) → marked_all (named_from refs 0 n) rs ≡ named_from (refs ++ rs) 0 n
all_marks refs [] n = ap (λ z. named_from z 0 n) (sym (append-nil refs))
all_marks refs (r ∷ rs) n =
    ap (λ z. marked_all z rs) (one_mark refs 0 n r r (sym (zero-add r))) ∙ all_marks (refs ++ r ∷ []) rs n ∙ ap (λ z. named_from z 0 n) (append_assoc refs (r ∷ []) rs)

-- Marks set on a list without marks are those of the numbers in the list.
pub marks_of : (n : ℕ) (rs : List ℕ) → marked_all (replicate n false) rs ≡ named_from rs 0 n
marks_of n rs = ap (λ z. marked_all z rs) (sym (no_marks 0 n)) ∙ all_marks [] rs n

-- ---- how many, and which ----

pub marks_length : (rs : List ℕ) (a n : ℕ) → length (named_from rs a n) ≡ n
marks_length rs a zero = refl
marks_length rs a (suc n) = ap suc (marks_length rs (suc a) n)

pub named_get : (refs : List ℕ) (a n i : ℕ) → i < n → slice_get (named_from refs a n) i ≡ Some (is_among refs (a + i))
named_get refs a zero i lt = absurd (omega arith)
named_get refs a (suc n) zero lt = ap (λ z. Some (is_among refs z)) (sym (add-zero a))
named_get refs a (suc n) (suc i) lt = let e : suc a + i ≡ a + suc i = omega arith in named_get refs (suc a) n i (omega arith) ∙ ap (λ z. Some (is_among refs z)) e

pub named_within : (refs : List ℕ) (a n i : ℕ) (b : Bool) → slice_get (named_from refs a n) i ≡ Some b → i < n
named_within refs a zero i b e = cc
named_within refs a (suc n) zero b e = omega arith
named_within refs a (suc n) (suc i) b e = let lt = named_within refs (suc a) n i b e in omega arith

pub among_is_marked : (refs : List ℕ) (n x : ℕ) → x < n → is_among refs x ≡ true → slice_get (named_from refs 0 n) x ≡ Some true
among_is_marked refs n x lt h = let e : 0 + x ≡ x = omega arith in named_get refs 0 n x lt ∙ ap (λ z. Some (is_among refs z)) e ∙ ap Some h

pub marked_is_among : (refs : List ℕ) (n x : ℕ) → slice_get (named_from refs 0 n) x ≡ Some true → is_among refs x ≡ true
marked_is_among refs n x h =
    let lt = named_within refs 0 n x true h in
    let e : 0 + x ≡ x = omega arith in
    let k = sym (named_get refs 0 n x lt ∙ ap (λ z. Some (is_among refs z)) e) ∙ h in
    cc
