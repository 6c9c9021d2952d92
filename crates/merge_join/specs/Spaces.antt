-- A merged index space, as `MergedSpace` stores it.
use Rattle.std.specs.Prelude.{◌≡◌, ℕ, ◌+◌, List, ◌++◌, filter, length, Option, Bool, take, ◌&&◌}
use Rattle.wasm_tree_spec.specs.Prelude.{Space, Module}
use Rattle.wasm_meaning.specs.Prelude.{defined_before, Part, Site, first_place, same_site, sites_in, sites_from}
use Rattle.merge_spec.specs.Prelude.{stays, by_import, staying_of, imports_kind, imported_count}
use Rattle.merge_join.specs.LinkedParts.{each_part}

-- the place of an import in the merged index space `k`, if it stays and is of that kind
abbrev pub staying_place : List Part → Space → Site → Option ℕ
staying_place ps k s = first_place (same_site s) (staying_of ps k) 0

abbrev pub first_of : List Part → Space → ℕ → Module → ℕ
first_of ps k p m = length (staying_of ps k) + defined_before k ps p

abbrev pub imported_in : List Part → Space → ℕ → Module → ℕ
imported_in ps k p m = imported_count ps p k

-- `staying` has the place of each import, `firsts` for each part the place of the first entry that
-- it defines, `imported` how many it imports, and `count` is the number of entries
pub record IsJoinedSpace (ps : List Part) (k : Space) (staying : List (List (Option ℕ))) (firsts imported : List ℕ) (count : ℕ) : Type 0 where
  pub staying_are : staying ≡ by_import (staying_place ps k) ps
  pub firsts_are : firsts ≡ each_part (first_of ps k) ps
  pub imported_are : imported ≡ each_part (imported_in ps k) ps
  pub count_is : count ≡ length (staying_of ps k) + defined_before k ps (length ps)

-- whether an import stays and is of the kind `k`
abbrev pub picked : List Part → Space → Site → Bool
picked ps k s = stays ps s && imports_kind ps k s

-- all imports before import `n` of part `p`
abbrev pub sites_before : List Part → (part import : ℕ) → List Site
sites_before ps p n = sites_from 0 (take p ps) ++ sites_in p n 0

-- how many of them stay and are of the kind `k`
unfoldable pub count_before : List Part → Space → (part import : ℕ) → ℕ
count_before ps k p n = length (filter (picked ps k) (sites_before ps p n))
