-- A state that has what a quiet evaluation leaves.
use Rattle.std.specs.Prelude.{◌≡◌, ℕ, List, None}
use Rattle.wasm_tree_spec.specs.Prelude.{Module}
use Rattle.wasm_meaning.specs.Prelude.{Text}
use Rattle.eval_spec.specs.Prelude.{State, Finished, value_of_global, memory_bytes, is_dropped, evaluated}
use Rattle.eval_snapshot_spec.specs.Evaluated.{first_missing, funcs_named}

-- The two states have the same known values of globals, the same bytes in the memory that the
-- module defines, and the same dropped data segments.
pub record TellsTheSame (m : Module) (s t : State) : Type 0 where
  pub globals : (n : ℕ) → value_of_global m s n ≡ value_of_global m t n
  pub bytes : memory_bytes m s ≡ memory_bytes m t
  pub dropped : (n : ℕ) → is_dropped s n ≡ is_dropped t n

-- The names are those of exported functions; nothing stops the instantiation, the start and the
-- calls of these functions in order; and `s` has what they leave.
pub record IsAfter (m : Module) (names : List Text) (s : State) : Type 0 where
  pub named : first_missing m names ≡ None
  pub end : State
  pub quiet : evaluated m (funcs_named m names) ≡ Finished end
  pub told : TellsTheSame m s end
