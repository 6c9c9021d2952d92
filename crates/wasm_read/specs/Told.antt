-- When a call returns a fault.
use Rattle.std.specs.Prelude.{◌≡◌, ◌⊎◌, Result, Err}
use Rattle.wasm_tree_spec.specs.Prelude.{Module}
use Rattle.wasm_read_spec.specs.declared.fault.ReadFault.{ReadFault}
use Rattle.wasm_read_spec.specs.declared.fault.ReadFault.TheVariants.{NoMemory}

-- The error is this fault exactly if its cause holds, unless memory runs out.
abbrev pub Told : Result Module ReadFault → ReadFault → Type 0 → Type 0
Told result fault cause = (result ≡ Err fault → cause) × (cause → (result ≡ Err fault) ⊎ (result ≡ Err NoMemory))
