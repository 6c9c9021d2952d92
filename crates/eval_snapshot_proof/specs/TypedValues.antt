-- What holds of a module and of the values of its globals after constructors were evaluated.
use Rattle.std.specs.Prelude.{◌≡◌, ℕ, ◌+◌, List, length, Some, slice_get}
use Rattle.wasm_tree_spec.specs.Prelude.{ConstExpr, GlobalDef, Module, imported_globals}
use Rattle.wasm_valid.specs.Prelude.{const_type, IsValid}
use Rattle.wasm_meaning.specs.Prelude.{Text}
use Rattle.eval_spec.specs.Prelude.{State, value_of_global}
use Rattle.eval_snapshot_spec.specs.After.{IsAfter}
use Rattle.eval_snapshot_proof.specs.SuitableStates.{HasEmptyTypeFor}

-- The constant that is the value of a defined global has the type of the global.
abbrev pub ValuesAreTyped : Type 0
ValuesAreTyped =
    (m : Module) (names : List Text) (s : State) → IsValid m → IsAfter m names s → (n : ℕ) (g : GlobalDef) (e : ConstExpr) →
    slice_get m.globals n ≡ Some g → value_of_global m s (length (imported_globals m.imports) + n) ≡ Some e → const_type m e ≡ Some g.ty.ty

-- A module with an evaluated constructor has a type without parameters and results. (A function of
-- any other type is not called.)
abbrev pub EmptyTypesAreThere : Type 0
EmptyTypesAreThere = (m : Module) (names : List Text) (s : State) → IsAfter m names s → HasEmptyTypeFor m names
