use Rattle.base_lists.proofs.Common.{get_or, get_or_default, mapped_more}
use Rattle.dce_graph.specs.declared.point.Point.TheVariants.{Node}
use Rattle.dce_graph.proofs.Walking.{then}
use Rattle.dce_graph.proofs.walk.visit_nodes.Goals as goal

pub loop-place-preserved : goal.loop-place-preserved
loop-place-preserved c =
    let xs = c.args.places.now in
    let i = c.loop-place.place-index in
    let x = get_or xs i 0 in
    then _ _ _ _ _ _ (mapped_more Node xs i x c.loop-place-test.true (get_or_default xs i 0 x c.loop-place-test.true)) c.loop-place.invariant c.in_ok-visit.ensures
