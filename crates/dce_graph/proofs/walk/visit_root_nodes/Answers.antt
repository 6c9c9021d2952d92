use Rattle.base_lists.proofs.Common.{get_or, get_or_default}
use Rattle.dce_graph.specs.declared.point.Point.TheVariants.{Node}
use Rattle.dce_graph.proofs.Walking.{then, place_more}
use Rattle.dce_graph.proofs.walk.visit_root_nodes.Goals as goal

pub loop-place-preserved : goal.loop-place-preserved
loop-place-preserved c =
    let xs = c.args.nodes.now in
    let i = c.loop-place.place in
    let x = get_or xs i c.index-nodes-place.result in
    then _ _ _ _ _ _ (place_more Node (λ n. n.root) xs i x c.loop-place-test.true (get_or_default xs i c.index-nodes-place.result x c.loop-place-test.true)) c.loop-place.invariant c.in_ok-visit_if.ensures
