-- What is needed of a list of functions that are to move.
use Rattle.std.specs.Prelude.{◌≡◌, ℕ, List, true, false}
use Rattle.base_lists.specs.Every.{Every}
use Rattle.wasm_tree_spec.specs.Prelude.{Module}
use Rattle.split_plan.specs.NamedFunctions.{is_defined}
use Rattle.split_plan.specs.PlannedMoves.{body_uses_segment}

-- the module defines each of the functions, and no body of them names a segment
abbrev pub CanMove : Module → List ℕ → Type 0
CanMove m funcs = Every (λ func. (is_defined m func ≡ true) × (body_uses_segment m func ≡ false)) funcs
