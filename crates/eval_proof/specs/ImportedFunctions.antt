-- The functions that a valid module imports.
use Rattle.std.specs.Prelude.{◌≡◌, ℕ, ◌<◌, List, length, Some, slice_get}
use Rattle.std.specs.List.{filter_map}
use Rattle.wasm_tree_spec.specs.Prelude.{Import, Module, func_of, imported_funcs}
use Rattle.wasm_valid.specs.Prelude.{IsValid}
use Rattle.eval_spec.specs.Prelude.{imported_func}

-- The types of imported functions are there.
abbrev pub ImportsTyped : Module → List Import → Type 0
ImportsTyped m is = (n : ℕ) (i : Import) → slice_get is n ≡ Some i → (ty : ℕ) → func_of i.desc ≡ Some ty → ty < length m.types

-- The types of the functions that the module imports are there, so that the store has a function
-- for each.
pub record ImportsAreTyped (m : Module) : Type 0 where
  pub typed : ImportsTyped m m.imports
  pub many : length (filter_map (imported_func m) m.imports) ≡ length (imported_funcs m.imports)

-- This is so for each valid module.
abbrev pub ImportedFunctionsAreTyped : Type 0
ImportedFunctionsAreTyped = (m : Module) → IsValid m → ImportsAreTyped m
