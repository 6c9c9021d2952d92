-- The loop that counts the marked places, one place at a time.
use Rattle.base_lists.proofs.Common.{◌≡◌, ℕ, ◌+◌, ◌<◌, Bool, true, false, cond, List, [], ◌∷◌, take, length, get_or, Some, refl, ap, ◌∙◌, length-append}
use Rattle.base_lists.specs.Places.{places}
use Rattle.split_slots.proofs.AddedExports.{mark_there, places_more}

how_many : (k : ℕ) (b : Bool) → length (cond b (k ∷ []) []) ≡ cond b 1 0
how_many k true = refl
how_many k false = refl

-- A step over one place: the count grows by one where the place is marked.
pub count_more : (marks : List Bool) (k : ℕ) (b : Bool) → k < length marks → get_or marks k false ≡ b →
    length (places (λ named. named) (take (k + 1) marks) 0) ≡ length (places (λ named. named) (take k marks) 0) + cond b 1 0
count_more marks k b lt is =
    let before = places (λ named. named) (take k marks) 0 in
    ap length (places_more marks k b (mark_there marks k lt ∙ ap Some is)) ∙ length-append before (cond b (k ∷ []) []) ∙ ap (λ n. length before + n) (how_many k b)
