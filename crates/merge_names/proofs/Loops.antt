-- The iterations of loops over names.
use Rattle.base_lists.proofs.Common.{◌≡◌, ◌∙◌, sym, ap, refl, ℕ, ◌<◌, ◌≤◌, ◌+◌, List, [], ◌∷◌, ◌++◌, length, map, arith, get_or, slice_get, take, drop, Some, None, cond, take_more, drop_more, drop_all, length-take-le, map_push, slice_get_within, get_or_from_slice_get, slice_get-map, slice_get_read}
use denote.Ref.{Bor}
use Rattle.std.specs.Option.{option_map}
use Rattle.merge_names.specs.Names.{among, kept_behind, conflict_behind}
use Rattle.merge_names.specs.Given.{texts}

-- The item of an iteration is the text of the name at this position.
pub text_at : (names : List (Bor (List ℕ))) (i : ℕ) (item : Bor (List ℕ)) → i < length names → item ≡ get_or names i item → slice_get (texts names) i ≡ Some item.now
text_at names i item within is =
    slice_get-map (λ (n : Bor (List ℕ)). n.now) names i ∙ ap (option_map (λ (n : Bor (List ℕ)). n.now)) (slice_get_read names (length names) i item refl within is)

taken_more : (names : List (List ℕ)) (i : ℕ) (name : List ℕ) → slice_get names i ≡ Some name → take (i + 1) names ≡ take i names ++ name ∷ []
taken_more names i name at = take_more names i name (slice_get_within names i name at) ∙ ap (λ (x : List ℕ). take i names ++ x ∷ []) (get_or_from_slice_get names i name name at)

left_more : (names : List (List ℕ)) (i : ℕ) (name : List ℕ) → slice_get names i ≡ Some name → drop i names ≡ name ∷ drop (i + 1) names
left_more names i name at = drop_more names i name (slice_get_within names i name at) ∙ ap (λ (x : List ℕ). x ∷ drop (i + 1) names) (get_or_from_slice_get names i name name at)

-- The names that are kept from position `i` on: the name at `i`, unless it is repeated, and those
-- after it.
pub kept_next : (names : List (List ℕ)) (i : ℕ) (name : List ℕ) → slice_get names i ≡ Some name →
    kept_behind (take i names) (drop i names) ≡ cond (among (take i names) name) None (Some name) ∷ kept_behind (take (i + 1) names) (drop (i + 1) names)
unfolding kept_behind
kept_next names i name at =
    ap (kept_behind (take i names)) (left_more names i name at)
    ∙ ap (λ (x : List (List ℕ)). cond (among (take i names) name) None (Some name) ∷ kept_behind x (drop (i + 1) names)) (sym (taken_more names i name at))

pub kept_last : (names : List (List ℕ)) (i : ℕ) → length names ≤ i → kept_behind (take i names) (drop i names) ≡ []
unfolding kept_behind
kept_last names i end = ap (kept_behind (take i names)) (drop_all i names end)

-- The first conflict from position `i` on is at `i` if the name repeats an earlier one.
pub conflict_next : (names : List (List ℕ)) (i : ℕ) (name : List ℕ) → slice_get names i ≡ Some name →
    conflict_behind (take i names) (drop i names) ≡ cond (among (take i names) name) (Some i) (conflict_behind (take (i + 1) names) (drop (i + 1) names))
unfolding conflict_behind
conflict_next names i name at =
    let within = slice_get_within names i name at in
    ap (conflict_behind (take i names)) (left_more names i name at)
    ∙ ap (λ (x : List (List ℕ)). cond (among (take i names) name) (Some (length (take i names))) (conflict_behind x (drop (i + 1) names))) (sym (taken_more names i name at))
    ∙ ap (λ (n : ℕ). cond (among (take i names) name) (Some n) (conflict_behind (take (i + 1) names) (drop (i + 1) names))) (length-take-le i names (omega arith))

pub conflict_last : (names : List (List ℕ)) (i : ℕ) → length names ≤ i → conflict_behind (take i names) (drop i names) ≡ None
unfolding conflict_behind
conflict_last names i end = ap (conflict_behind (take i names)) (drop_all i names end)

-- An iteration adds one more name to those that are kept.
pub made_more : (names : List (List ℕ)) (i : ℕ) (name : List ℕ) → slice_get names i ≡ Some name → map Some (take (i + 1) names) ≡ map Some (take i names) ++ Some name ∷ []
made_more names i name at = ap (map Some) (taken_more names i name at) ∙ map_push Some (take i names) name
