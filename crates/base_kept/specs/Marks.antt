-- Marks of the numbers that a list names, one mark for each of some numbers in a row.
use Rattle.std.specs.Prelude.{ℕ, zero, suc, Bool, true, slice_set, List, [], ◌∷◌, nat_eq}
use Rattle.std.specs.List.{list_any}

-- For each of `n` numbers from `first` on, whether it is in `refs`.
abbrev pub named_from : List ℕ → ℕ → ℕ → List Bool
named_from refs first zero = []
named_from refs first (suc n) = list_any (nat_eq first) refs ∷ named_from refs (suc first) n

-- The marks with those at these positions set.
abbrev pub marked_all : List Bool → List ℕ → List Bool
marked_all marks [] = marks
marked_all marks (r ∷ rs) = marked_all (slice_set marks r true) rs
