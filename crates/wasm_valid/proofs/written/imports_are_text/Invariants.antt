use Rattle.std.proofs.Common.{◌≡◌, ℕ, Some, slice_get, IsUtf8, ◌<◌}
use Rattle.wasm_tree.specs.declared.module.Import.{Import as Imported}
use Rattle.wasm_valid.proofs.written.imports_are_text.Given as goal

abbrev pub invariant-loop-import : goal.invariant-loop-import
invariant-loop-import l = (i : ℕ) (x : Imported) → i < l.import-index → slice_get l.imports i ≡ Some x → IsUtf8 x.«module» × IsUtf8 x.field
