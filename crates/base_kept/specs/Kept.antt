-- Which elements of a list are kept, by one mark for each place, and their new places.
use Rattle.std.specs.Prelude.{ℕ, Bool, cond, false, List, [], ◌∷◌, length, map, take, get_or}
use Rattle.base_lists.specs.Places.{count_of, numbers}

-- The elements at the places that are marked, in order.
abbrev pub kept : {A : Type 0} → List Bool → List A → List A
kept [] xs = []
kept (b ∷ bs) [] = []
kept (b ∷ bs) (x ∷ xs) = cond b (x ∷ kept bs xs) (kept bs xs)

-- Whether a place is marked.
abbrev pub is_marked : List Bool → ℕ → Bool
is_marked marks n = get_or marks n false

-- How many places before `n` are marked: the new place of its element, if it is kept.
abbrev pub kept_before : List Bool → ℕ → ℕ
kept_before marks n = count_of (λ b. b) (take n marks)

-- For each place, the new place of its element, if it is kept.
abbrev pub new_places : List Bool → List ℕ
new_places marks = map (kept_before marks) (numbers 0 (length marks))
