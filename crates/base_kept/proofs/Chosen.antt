-- The values chosen of the elements that are kept, and the number of marked places before a place.
use Rattle.base_lists.proofs.Common.{◌≡◌, ◌∙◌, ap, ap₂, sym, refl, ℕ, zero, suc, ◌+◌, ◌<◌, List, [], ◌∷◌, drop, map, length, true≢false, Bool, true, false, Option, Some, None, option_and_then, slice_get, arith, cons_option}
use Rattle.std.proofs.Common.{filter_map}
use Rattle.base_lists.specs.Places.{places}
use Rattle.base_kept.specs.Kept.{is_marked, kept, kept_before}
use Rattle.base_kept.proofs.Laws.{kept_map}

pub chosen_kept : {A B : Type 0} (h : A → Option B) (get : ℕ → Option A) (bs : List Bool) (xs : List A) (n : ℕ) → length bs ≡ length xs → ((i : ℕ) → get (n + i) ≡ slice_get xs i) →
    filter_map (λ i. option_and_then h (get i)) (places (λ b. b) bs n) ≡ filter_map h (kept bs xs)
chosen_kept h get [] xs n many at = refl
chosen_kept h get (b ∷ bs) [] n many at = absurd (omega (arith, many))
chosen_kept h get (true ∷ bs) (x ∷ xs) n many at =
    let same : n + 0 ≡ n = omega arith in
    let here : get n ≡ Some x = ap get (sym same) ∙ at 0 in
    ap₂ cons_option (ap (option_and_then h) here) (chosen_kept h get bs xs (suc n) (omega (arith, many)) (λ i. let e : suc n + i ≡ n + suc i = omega arith in ap get e ∙ at (suc i)))
chosen_kept h get (false ∷ bs) (x ∷ xs) n many at = chosen_kept h get bs xs (suc n) (omega (arith, many)) (λ i. let e : suc n + i ≡ n + suc i = omega arith in ap get e ∙ at (suc i))

pub kept_counted : {A : Type 0} (bs : List Bool) (xs : List A) (n : ℕ) → length bs ≡ length xs → length (places (λ b. b) bs n) ≡ length (kept bs xs)
kept_counted [] xs n many = refl
kept_counted (b ∷ bs) [] n many = absurd (omega (arith, many))
kept_counted (true ∷ bs) (x ∷ xs) n many = ap suc (kept_counted bs xs (suc n) (omega (arith, many)))
kept_counted (false ∷ bs) (x ∷ xs) n many = kept_counted bs xs (suc n) (omega (arith, many))

all_given : {A B C : Type 0} (h : B → Option C) (c : A → B) (g : A → C) → ((x : A) → h (c x) ≡ Some (g x)) → (xs : List A) → filter_map h (map c xs) ≡ map g xs
all_given h c g e [] = refl
all_given h c g e (x ∷ xs) = ap₂ cons_option (e x) (all_given h c g e xs)

all_themselves : {A B : Type 0} (h : B → Option A) (c : A → B) → ((x : A) → h (c x) ≡ Some x) → (xs : List A) → filter_map h (map c xs) ≡ xs
all_themselves h c e [] = refl
all_themselves h c e (x ∷ xs) = ap₂ cons_option (e x) (all_themselves h c e xs)

none_given : {A B C : Type 0} (h : B → Option C) (c : A → B) → ((x : A) → h (c x) ≡ None) → (xs : List A) → filter_map h (map c xs) ≡ []
none_given h c e [] = refl
none_given h c e (x ∷ xs) = ap₂ cons_option (e x) (none_given h c e xs)

pub kept_given : {A B C : Type 0} (h : B → Option C) (c : A → B) (g : A → C) (bs : List Bool) (xs : List A) → ((x : A) → h (c x) ≡ Some (g x)) → filter_map h (kept bs (map c xs)) ≡ map g (kept bs xs)
kept_given h c g bs xs e = ap (filter_map h) (kept_map c bs xs) ∙ all_given h c g e (kept bs xs)

pub kept_themselves : {A B : Type 0} (h : B → Option A) (c : A → B) (bs : List Bool) (xs : List A) → ((x : A) → h (c x) ≡ Some x) → filter_map h (kept bs (map c xs)) ≡ kept bs xs
kept_themselves h c bs xs e = ap (filter_map h) (kept_map c bs xs) ∙ all_themselves h c e (kept bs xs)

pub kept_none : {A B C : Type 0} (h : B → Option C) (c : A → B) (bs : List Bool) (xs : List A) → ((x : A) → h (c x) ≡ None) → filter_map h (kept bs (map c xs)) ≡ []
kept_none h c bs xs e = ap (filter_map h) (kept_map c bs xs) ∙ none_given h c e (kept bs xs)

-- ---- marks of which the first are all set ----

pub before_drop : (bs : List Bool) (k j : ℕ) → ((i : ℕ) → i < k → is_marked bs i ≡ true) → kept_before bs (k + j) ≡ k + kept_before (drop k bs) j
before_drop bs zero j h =
    let e : 0 + j ≡ j = omega arith in
    let z : kept_before bs j ≡ 0 + kept_before bs j = omega arith in
    ap (kept_before bs) e ∙ z
before_drop [] (suc k) j h = absurd (true≢false (sym (h 0 (omega arith))))
before_drop (true ∷ bs) (suc k) j h =
    let e : suc k + j ≡ suc (k + j) = omega arith in
    let z : suc (k + kept_before (drop k bs) j) ≡ suc k + kept_before (drop k bs) j = omega arith in
    ap (kept_before (true ∷ bs)) e ∙ ap suc (before_drop bs k j (λ i lt. h (suc i) (omega (arith, lt)))) ∙ z
before_drop (false ∷ bs) (suc k) j h = absurd (true≢false (sym (h 0 (omega arith))))
