use Rattle.std.proofs.Common.{◌≡◌, ℕ, Some, slice_get, IsUtf8, ◌<◌}
use Rattle.wasm_tree.specs.declared.module.Export.{Export as Exported}
use Rattle.wasm_valid.proofs.written.exports_are_text.Given as goal

abbrev pub invariant-loop-export : goal.invariant-loop-export
invariant-loop-export l = (i : ℕ) (x : Exported) → i < l.export-index → slice_get l.exports i ≡ Some x → IsUtf8 x.name
