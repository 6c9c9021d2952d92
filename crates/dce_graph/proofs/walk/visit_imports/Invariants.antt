use Rattle.base_lists.proofs.Common.{take, map}
use Rattle.base_lists.specs.Places.{places}
use Rattle.wasm_tree_spec.specs.Prelude.{space_of_import}
use Rattle.dce_graph.specs.declared.point.Point.TheVariants.{Import}
use Rattle.dce_graph.specs.Prelude.{Spread, stays_imported}
use Rattle.dce_graph.proofs.walk.visit_imports.Given as goal

abbrev pub invariant-loop-place : goal.invariant-loop-place
invariant-loop-place l = Spread l.initial.search (map Import (places (λ i. stays_imported (space_of_import i.desc)) (take l.place l.imports) 0)) l.search
