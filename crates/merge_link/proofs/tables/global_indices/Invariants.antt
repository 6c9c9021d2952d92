use Rattle.base_lists.proofs.Common.{length, Some, slice_get, ℕ, ◌<◌, ◌≤◌, ◌≡◌}
use Rattle.wasm_tree_spec.specs.Prelude.{Globals}
use Rattle.wasm_meaning.specs.Linking as linking
use Rattle.merge_link.proofs.tables.global_indices.Given as goal

abbrev pub invariant-loop-import : goal.invariant-loop-import
invariant-loop-import l = record {
  one_each : length l.indices.items ≡ l.import-index;
  most : l.count ≤ l.import-index;
  count : l.count ≡ linking.space_index l.imports l.import-index Globals;
  right : (n : ℕ) → n < l.import-index → slice_get l.indices.items n ≡ Some (linking.space_index l.imports n Globals);
}
