use Rattle.base_lists.proofs.Common.{length, Some, slice_get, ℕ, ◌≡◌}
use Rattle.wasm_tree_spec.specs.Prelude.{Globals, Module}
use Rattle.wasm_meaning.specs.Linking as linking
use Rattle.wasm_meaning.specs.Prelude.{defined_before}
use Rattle.merge_spec.specs.Prelude.{named_modules}
use Rattle.merge_link.specs.declared.tables.Table.{Table}
use Rattle.merge_link.specs.Prelude.{IsTableOf, imports_before}
use Rattle.merge_link.proofs.tables.all_tables.Given as goal

abbrev pub invariant-loop-part : goal.invariant-loop-part
invariant-loop-part l = record {
  one_each : length l.tables.items ≡ l.part-index;
  first_import : l.first_import ≡ imports_before (named_modules l.parts) l.part-index;
  first_global : l.first_global ≡ defined_before Globals (named_modules l.parts) l.part-index;
  right : (p : ℕ) (m : Module) (t : Table) → linking.module_at (named_modules l.parts) p ≡ Some m → slice_get l.tables.items p ≡ Some t
      → IsTableOf (imports_before (named_modules l.parts) p) (defined_before Globals (named_modules l.parts) p) m t;
}
