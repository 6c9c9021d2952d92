-- The loop that adds imports, one marked place at a time.
use Rattle.base_lists.proofs.Common.{◌≡◌, ℕ, ◌+◌, Bool, true, false, cond, List, [], ◌∷◌, ◌++◌, append_assoc, take, Option, Some, refl, sym, ap, ◌∙◌, slice_get, cons_option, filter_map, filter_map-append}
use Rattle.base_lists.specs.Places.{places}
use Rattle.split_slots.proofs.AddedExports.{places_more}

chosen : {A : Type 0} (f : ℕ → Option A) (k : ℕ) (b : Bool) → filter_map f (cond b (k ∷ []) []) ≡ cond b (cons_option (f k) []) []
chosen f k true = refl
chosen f k false = refl

-- A step over one place: the value for it, if any, is added where the place is marked.
pub one_chosen : {A : Type 0} (f : ℕ → Option A) (marks : List Bool) (k : ℕ) (b : Bool) → slice_get marks k ≡ Some b → (old now new : List A) →
    new ≡ now ++ cond b (cons_option (f k) []) [] → now ≡ old ++ filter_map f (places (λ named. named) (take k marks) 0) →
    new ≡ old ++ filter_map f (places (λ named. named) (take (k + 1) marks) 0)
one_chosen f marks k b e old now new put is =
    let before = places (λ named. named) (take k marks) 0 in
    put ∙ ap (λ xs. xs ++ cond b (cons_option (f k) []) []) is ∙ append_assoc old (filter_map f before) (cond b (cons_option (f k) []) [])
    ∙ ap (λ ys. old ++ ys) (ap (λ ys. filter_map f before ++ ys) (sym (chosen f k b)) ∙ sym (filter_map-append f before (cond b (k ∷ []) []))
    ∙ ap (filter_map f) (sym (places_more marks k b e)))
