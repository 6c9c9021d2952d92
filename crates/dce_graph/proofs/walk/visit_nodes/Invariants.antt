use Rattle.std.proofs.Common.{take, map}
use Rattle.dce_graph.specs.declared.point.Point.TheVariants.{Node}
use Rattle.dce_graph.specs.Marks.{Spread}
use Rattle.dce_graph.proofs.walk.visit_nodes.Given as goal

abbrev pub invariant-loop-place : goal.invariant-loop-place
invariant-loop-place l = Spread l.initial.search (map Node (take l.place-index l.places)) l.search
