use Rattle.base_lists.proofs.Common.{get_or, get_or_default}
use Rattle.wasm_tree_spec.specs.Prelude.{space_of_import}
use Rattle.dce_graph.specs.declared.point.Point.TheVariants.{Import}
use Rattle.dce_graph.specs.Prelude.{stays_imported}
use Rattle.dce_graph.proofs.Walking.{then, place_more}
use Rattle.dce_graph.proofs.walk.visit_imports.Goals as goal

pub loop-place-preserved : goal.loop-place-preserved
loop-place-preserved c =
    let xs = c.args.imports.now in
    let i = c.loop-place.place in
    let x = get_or xs i c.index-imports-place.result in
    then _ _ _ _ _ _ (place_more Import (λ d. stays_imported (space_of_import d.desc)) xs i x c.loop-place-test.true (get_or_default xs i c.index-imports-place.result x c.loop-place-test.true)) c.loop-place.invariant (rw c.stays-stays.ensures at c.in_ok-visit_if.ensures)
