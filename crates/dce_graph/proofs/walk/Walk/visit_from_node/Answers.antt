use Rattle.std.proofs.Common.{map, refl}
use Rattle.dce_graph.specs.declared.point.Point.TheVariants.{Node}
use Rattle.dce_graph.specs.Reach.{export_of_node, from_node}
use Rattle.dce_graph.proofs.Walking.{then_ok}
use Rattle.dce_graph.proofs.walk.Walk.visit_from_node.Goals as goal

pub returns : goal.returns
returns c =
    let exports = c.args.self.now.module.now.exports in
    let node = c.args.node.now in
    then_ok c.visit_named_export.result c.args.search.now c.visit_nodes.new.search c.visit_named_export.new.search (map Node node.reaches) (export_of_node exports node.export) (from_node exports node) refl
    (rw c.as_slice.ensures at c.in_ok-visit_nodes.ensures) c.visit_named_export.ensures
