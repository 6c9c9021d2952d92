-- Types and their places, found by text.
use Rattle.std.specs.Prelude.{◌≡◌, ℕ, List, String}
use Rattle.std.specs.BTreeMap.{BTreeMap, get_by_text}
use Rattle.std.specs.Str.{bytes_eq}
use Rattle.wasm_tree_spec.specs.Prelude.{FuncType}
use Rattle.wasm_meaning.specs.Prelude.{first_place}
use Rattle.merge_join.specs.Texts.{text_of_type}

-- `places` has the place of each type in the list, found by its text
abbrev pub ArePlaces : {Y : Type 0} → List FuncType → BTreeMap (String Y) ℕ → Type 0
ArePlaces types places = (q : List ℕ) → get_by_text places q ≡ first_place (λ t. bytes_eq q (text_of_type t)) types 0
