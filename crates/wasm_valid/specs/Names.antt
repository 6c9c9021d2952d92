-- Repeated names.
use Rattle.std.specs.Prelude.{ℕ, Bool, List, [], ◌∷◌, ◌++◌}
use Rattle.std.specs.List.{list_any}
use Rattle.std.specs.Str.{bytes_eq}

-- For each name, whether it is in `before` or among the names before it.
abbrev pub repeats_after : List (List ℕ) → List (List ℕ) → List Bool
repeats_after before [] = []
repeats_after before (n ∷ ns) = list_any (bytes_eq n) before ∷ repeats_after (before ++ n ∷ []) ns
