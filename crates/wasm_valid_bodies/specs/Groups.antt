-- The locals of a function: its parameters, and then its declared locals, group by group
-- (WebAssembly Core 2.0, sections 3.4.1 and 5.5.13).
use Rattle.std.specs.Prelude.{ℕ, ◌+◌, ◌<◌, ◌≤◌, List, [], ◌∷◌, ◌++◌, length, replicate, slice_index}
use Rattle.std.specs.List.{flat_map}
use Rattle.wasm_tree_spec.specs.Prelude.{ValType, LocalGroup}

-- The types of the declared locals, one for each local.
abbrev pub declared_types : List LocalGroup → List ValType
declared_types = flat_map (λ g. replicate g.count g.ty)

abbrev pub locals_of : List ValType → List LocalGroup → List ValType
locals_of params groups = params ++ declared_types groups

-- For each group, the number of locals up to its end, with `n` locals before the first.
abbrev pub ends_of : ℕ → List LocalGroup → List ℕ
ends_of n [] = []
ends_of n (g ∷ gs) = (n + g.count) ∷ ends_of (n + g.count) gs

abbrev pub IsAscending : List ℕ → Type 0
IsAscending xs = (i j : ℕ) → i ≤ j → j < length xs → slice_index xs i ≤ slice_index xs j

-- The numbers before `place` are at most `bound`, and those from it on are above it.
pub record IsFirstAbove (xs : List ℕ) (bound place : ℕ) : Type 0 where
  pub within : place ≤ length xs
  pub before : (k : ℕ) → k < place → slice_index xs k ≤ bound
  pub after : (k : ℕ) → place ≤ k → k < length xs → bound < slice_index xs k
