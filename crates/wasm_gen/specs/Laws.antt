-- The law of both modules of a sample.
use Rattle.std.specs.Prelude.{ℕ, ◌≤◌}
use Rattle.wasm_tree_spec.specs.Prelude.{Module, IsBounded}
use Rattle.wasm_valid.specs.Prelude.{IsValid}
use Rattle.wasm_gen.specs.Modules.{first_module, second_module}

-- the module is valid and bounded
abbrev pub IsValidAndBounded : Module → Type 0
IsValidAndBounded m = IsValid m × IsBounded m

-- both modules are sound, for each seed and for 1 to 100,000 functions
abbrev pub SampleModulesAreValid : Type 0
SampleModulesAreValid = (seed count : ℕ) → 1 ≤ count → count ≤ 100000 → IsValidAndBounded (first_module seed count) × IsValidAndBounded (second_module seed count)
