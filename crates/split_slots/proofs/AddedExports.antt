-- The loop that adds exports, one marked place at a time.
use Rattle.base_lists.proofs.Common.{◌≡◌, ℕ, zero, suc, ◌+◌, ◌<◌, arith, Bool, true, false, cond, List, [], ◌∷◌, ◌++◌, append_assoc, map, take, length, Some, refl, sym, ap, ◌∙◌, slice_get, get_or, map-append}
use Rattle.base_lists.specs.Places.{places}
use Rattle.wasm_tree_spec.specs.Prelude.{Space, Export}
use Rattle.split_spec.specs.Prelude.{exports_for_secondary}
use Rattle.split_slots.specs.ExportList.{desc_of, exported}

places_push : (xs : List Bool) (b : Bool) (n : ℕ) → places (λ named. named) (xs ++ b ∷ []) n ≡ places (λ named. named) xs n ++ cond b ((n + length xs) ∷ []) []
places_push [] b n = let e : n ≡ n + 0 = omega arith in ap (λ k. cond b (k ∷ []) []) e
places_push (true ∷ xs) b n = let e : suc n + length xs ≡ n + suc (length xs) = omega arith in ap (λ ys. n ∷ ys) (places_push xs b (suc n)) ∙ ap (λ k. n ∷ (places (λ named. named) xs (suc n) ++ cond b (k ∷ []) [])) e
places_push (false ∷ xs) b n = let e : suc n + length xs ≡ n + suc (length xs) = omega arith in places_push xs b (suc n) ∙ ap (λ k. places (λ named. named) xs (suc n) ++ cond b (k ∷ []) []) e

take_suc : (xs : List Bool) (k : ℕ) (b : Bool) → slice_get xs k ≡ Some b → take (suc k) xs ≡ take k xs ++ b ∷ []
take_suc [] k b e = cc
take_suc (y ∷ ys) zero b e = let same : y ≡ b = cc in ap (λ z. z ∷ []) same
take_suc (y ∷ ys) (suc k) b e = ap (λ zs. y ∷ zs) (take_suc ys k b e)

take_bool : (xs : List Bool) (k : ℕ) (b : Bool) → slice_get xs k ≡ Some b → take (k + 1) xs ≡ take k xs ++ b ∷ []
take_bool xs k b e = let one : k + 1 ≡ suc k = omega arith in ap (λ n. take n xs) one ∙ take_suc xs k b e

pub mark_there : (xs : List Bool) (k : ℕ) → k < length xs → slice_get xs k ≡ Some (get_or xs k false)
mark_there [] k lt = absurd (omega (arith, lt))
mark_there (x ∷ xs) zero lt = refl
mark_there (x ∷ xs) (suc k) lt = mark_there xs k (omega (arith, lt))

taken_many : (xs : List Bool) (k : ℕ) (b : Bool) → slice_get xs k ≡ Some b → length (take k xs) ≡ k
taken_many [] k b e = cc
taken_many (y ∷ ys) zero b e = refl
taken_many (y ∷ ys) (suc k) b e = ap suc (taken_many ys k b e)

-- A step over one place: its index is added where the place is marked.
pub places_more : (marks : List Bool) (k : ℕ) (b : Bool) → slice_get marks k ≡ Some b → places (λ named. named) (take (k + 1) marks) 0 ≡ places (λ named. named) (take k marks) 0 ++ cond b (k ∷ []) []
places_more marks k b e =
    let many = taken_many marks k b e in
    let at : 0 + length (take k marks) ≡ k = omega (arith, many) in
    ap (λ ms. places (λ named. named) ms 0) (take_bool marks k b e) ∙ places_push (take k marks) b 0 ∙ ap (λ j. places (λ named. named) (take k marks) 0 ++ cond b (j ∷ []) []) at

chosen : (prefix : List ℕ) (space : Space) (k : ℕ) (b : Bool) → exports_for_secondary prefix space (desc_of space) (cond b (k ∷ []) []) ≡ cond b (exported prefix space k ∷ []) []
chosen prefix space k true = refl
chosen prefix space k false = refl

-- A step over one place: its export is added where the place is marked.
pub one_more : (prefix : List ℕ) (space : Space) (marks : List Bool) (k : ℕ) (b : Bool) → slice_get marks k ≡ Some b → (old now new : List Export) →
    new ≡ now ++ cond b (exported prefix space k ∷ []) [] → now ≡ old ++ exports_for_secondary prefix space (desc_of space) (places (λ named. named) (take k marks) 0) →
    new ≡ old ++ exports_for_secondary prefix space (desc_of space) (places (λ named. named) (take (k + 1) marks) 0)
one_more prefix space marks k b e old now new put is =
    let f = λ (i : ℕ). exported prefix space i in
    let before = places (λ named. named) (take k marks) 0 in
    put ∙ ap (λ xs. xs ++ cond b (exported prefix space k ∷ []) []) is ∙ append_assoc old (map f before) (cond b (exported prefix space k ∷ []) [])
    ∙ ap (λ ys. old ++ ys) (ap (λ ys. map f before ++ ys) (sym (chosen prefix space k b)) ∙ sym (map-append f before (cond b (k ∷ []) []))
    ∙ ap (map f) (sym (places_more marks k b e)))
