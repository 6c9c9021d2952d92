-- A list cut into pieces of given lengths.
use Rattle.std.specs.Prelude.{ℕ, List, [], ◌∷◌, map, take, drop, length}
use Rattle.merge_spec.specs.declared.parts.Part.{Part}

abbrev pub cut_by : {A : Type 0} → List ℕ → List A → List (List A)
cut_by [] xs = []
cut_by (n ∷ ns) xs = take n xs ∷ cut_by ns (drop n xs)

abbrev pub import_count : Part → ℕ
import_count p = length p.«module».imports

-- how many imports each part has
abbrev pub import_counts : List Part → List ℕ
import_counts parts = map import_count parts
