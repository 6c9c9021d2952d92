-- The names of the exports that the primary module has for a secondary one differ from one another.
use Rattle.base_lists.proofs.Common.{◌≡◌, ◌∙◌, ap, sym, ℕ, zero, suc, ◌^◌, ◌<◌, ◌≤◌, List, [], ◌∷◌, ◌++◌, map, length, Bool, true, false, Some, ⊎_elim, slice_get, arith, decimal, decimal_injective, append_cancel_left, slice_get_within, append_from, map_from, place_back}
use Rattle.base_lists.specs.Places.{places}

-- No two elements are equal.
abbrev pub Distinct : {A : Type 0} → List A → Type 0
Distinct {A} xs = (i j : ℕ) (x : A) → i < j → slice_get xs i ≡ Some x → slice_get xs j ≡ Some x → ⊥

pub distinct_append : {A : Type 0} (xs ys : List A) → Distinct xs → Distinct ys → ((i j : ℕ) (x : A) → slice_get xs i ≡ Some x → slice_get ys j ≡ Some x → ⊥) → Distinct (xs ++ ys)
distinct_append xs ys dx dy apart i j x lt a b =
    ⊎_elim
    (λ h. ⊎_elim (λ g. dx i j x lt h g) (λ g. apart i g.0 x h g.2) (append_from xs ys j x b))
    (λ h. ⊎_elim
    (λ g. let within = slice_get_within xs j x g in let e = h.1 in omega (arith, within, e, lt))
    (λ g. let e = h.1 in let f = g.1 in dy h.0 g.0 x (omega (arith, e, f, lt)) h.2 g.2)
    (append_from xs ys j x b))
    (append_from xs ys i x a)

distinct_map : {A B : Type 0} (f : A → B) (xs : List A) → ((i j : ℕ) (x y : A) → slice_get xs i ≡ Some x → slice_get xs j ≡ Some y → f x ≡ f y → x ≡ y) → Distinct xs → Distinct (map f xs)
distinct_map f xs one d i j y lt a b =
    let x = map_from f xs i y a in
    let z = map_from f xs j y b in
    let same : z.0 ≡ x.0 = one j i z.0 x.0 z.1 x.1 (z.2 ∙ sym x.2) in
    d i j x.0 lt x.1 (z.1 ∙ ap Some same)

-- The places of marked elements are at least the number from which places are counted.
places_from : (bs : List Bool) (n i p : ℕ) → slice_get (places (λ b. b) bs n) i ≡ Some p → n ≤ p
places_from bs n i p h = let r = place_back (λ b. b) bs n i p h in let e = r.2 in omega (arith, e)

places_distinct : (bs : List Bool) (n : ℕ) → Distinct (places (λ b. b) bs n)
places_distinct [] n i j x lt a b = cc
places_distinct (false ∷ bs) n i j x lt a b = places_distinct bs (suc n) i j x lt a b
places_distinct (true ∷ bs) n i zero x lt a b = omega (arith, lt)
places_distinct (true ∷ bs) n zero (suc j) x lt a b =
    let same : n ≡ x = cc in
    let from = places_from bs (suc n) j x b in
    omega (arith, same, from)
places_distinct (true ∷ bs) n (suc i) (suc j) x lt a b = places_distinct bs (suc n) i j x (omega (arith, lt)) a b

-- The name has this letter after the prefix.
abbrev pub HasLetter : List ℕ → ℕ → List ℕ → Type 0
HasLetter prefix letter name = (rest : List ℕ) × (name ≡ prefix ++ (letter ∷ rest))

pub letters_apart : (prefix name : List ℕ) (a b : ℕ) → HasLetter prefix a name → HasLetter prefix b name → a ≡ b
letters_apart prefix name a b h k =
    let same : a ∷ h.0 ≡ b ∷ k.0 = append_cancel_left prefix (a ∷ h.0) (b ∷ k.0) (sym h.1 ∙ k.1) in
    cc

module _ (prefix : List ℕ) (letter : ℕ) (bs : List Bool) (few : length bs < 2 ^ 64) where
  abbrev pub named : List (List ℕ)
  named = map (λ i. prefix ++ (letter ∷ decimal i)) (places (λ b. b) bs 0)

  below : (i p : ℕ) → slice_get (places (λ b. b) bs 0) i ≡ Some p → p < 2 ^ 64
  below i p h =
      let r = place_back (λ b. b) bs 0 i p h in
      let e = r.2 in
      let lt = slice_get_within bs r.0 r.1 r.3 in
      omega (arith, e, lt, few)

  pub named_distinct : Distinct named
  named_distinct = distinct_map (λ i. prefix ++ (letter ∷ decimal i)) (places (λ b. b) bs 0) (λ i j x y a b e.
      let tails : letter ∷ decimal x ≡ letter ∷ decimal y = append_cancel_left prefix (letter ∷ decimal x) (letter ∷ decimal y) e in
      let same : decimal x ≡ decimal y = cc in
      decimal_injective x y (below i x a) (below j y b) same) (places_distinct bs 0)

  pub named_letter : (i : ℕ) (name : List ℕ) → slice_get named i ≡ Some name → HasLetter prefix letter name
  named_letter i name h = let x = map_from (λ i. prefix ++ (letter ∷ decimal i)) (places (λ b. b) bs 0) i name h in (decimal x.0, sym x.2)
