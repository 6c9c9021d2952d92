-- The labels as a list, the innermost first.
use Rattle.std.specs.Prelude.{List, map, reverse}
use Rattle.wasm_tree_spec.specs.Prelude.{ValType}
use Rattle.wasm_valid_bodies.specs.declared.labels.Labels.{Labels}

abbrev pub label_list : Labels → List (List ValType)
label_list labels = map (λ ts. ts.now) (reverse labels.open.items)
