-- What a state must have so that a module can begin in it.
use Rattle.std.specs.Prelude.{◌≡◌, ℕ, ◌+◌, List, [], ◌∷◌, length, true, Some, slice_get}
use Rattle.wasm_tree_spec.specs.Prelude.{FuncType, ConstExpr, GlobalDef, Module, imported_globals}
use Rattle.wasm_valid.specs.Prelude.{const_type}
use Rattle.wasm_meaning.specs.Prelude.{Text}
use Rattle.eval_spec.specs.Prelude.{State, takes_and_gives_nothing, value_of_global, memory_bytes}

-- The module `m` can begin in the state `s`.
pub record Suits (m : Module) (s : State) : Type 0 where
  -- The constant of a defined global has the global's type, so that a function that it names
  -- exists.
  pub globals : (n : ℕ) (g : GlobalDef) (e : ConstExpr) → slice_get m.globals n ≡ Some g → value_of_global m s (length (imported_globals m.imports) + n) ≡ Some e → const_type m e ≡ Some g.ty.ty
  -- If no memory is defined, there are no bytes.
  pub memory : m.mems ≡ [] → memory_bytes m s ≡ []

-- The module has a type without parameters and results.
abbrev pub HasEmptyType : Module → Type 0
HasEmptyType m = (n : ℕ) × (t : FuncType) × (slice_get m.types n ≡ Some t) × (takes_and_gives_nothing t ≡ true)

-- The same, required only if a constructor was evaluated.
abbrev pub HasEmptyTypeFor : Module → (evaluated : List Text) → Type 0
HasEmptyTypeFor m [] = Unit {0}
HasEmptyTypeFor m (name ∷ names) = HasEmptyType m
