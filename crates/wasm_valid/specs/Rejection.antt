-- Why a module is rejected.
use Rattle.std.specs.Prelude.{◌≡◌, false}
use Rattle.wasm_tree_spec.specs.Prelude.{Module}
use Rattle.wasm_valid.specs.declared.validation.Rejected.{Rejected}
use Rattle.wasm_valid.specs.declared.validation.Rejected.TheVariants.{Invalid, NoMemory}
use Rattle.wasm_valid.specs.First.{IsFirstInvalid}

-- The same module is handed back: with its first invalid item, or because memory ran out.
abbrev pub IsRejected : Module → Rejected → Type 0
IsRejected m (Invalid same e) = (same ≡ m) × IsFirstInvalid m false e
IsRejected m (NoMemory same) = same ≡ m

-- The module was rejected because memory ran out.
abbrev pub IsWantOfMemory : Rejected → Type 0
IsWantOfMemory (Invalid same e) = ⊥
IsWantOfMemory (NoMemory same) = Unit {0}
