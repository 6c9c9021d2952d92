use Rattle.std.proofs.Common.{take, map}
use Rattle.base_lists.specs.Places.{places}
use Rattle.dce_graph.specs.declared.point.Point.TheVariants.{Node}
use Rattle.dce_graph.specs.Marks.{Spread}
use Rattle.dce_graph.proofs.walk.visit_root_nodes.Given as goal

abbrev pub invariant-loop-place : goal.invariant-loop-place
invariant-loop-place l = Spread l.initial.search (map Node (places (λ n. n.root) (take l.place l.nodes) 0)) l.search
