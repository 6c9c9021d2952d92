use Rattle.base_lists.proofs.Common.{◌≡◌, ◌++◌, drop}
use Rattle.base_lists.specs.Places.{places}
use Rattle.wasm_tree_spec.specs.Prelude.{Functions, Globals, same_space, space_of_import}
use Rattle.dce_graph.specs.Prelude.{imports_into}
use Rattle.dce_graph.proofs.lookups.imported_places.Given as goal

abbrev pub invariant-loop-place : goal.invariant-loop-place
invariant-loop-place l = record {
  funcs : l.funcs.items ++ places (λ i. same_space Functions (space_of_import i.desc)) (drop l.place l.imports) l.place ≡ imports_into Functions l.imports;
  globals : l.globals.items ++ places (λ i. same_space Globals (space_of_import i.desc)) (drop l.place l.imports) l.place ≡ imports_into Globals l.imports;
}
