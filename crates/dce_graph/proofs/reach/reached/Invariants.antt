use Rattle.base_lists.proofs.Common.{length, ◌+◌}
use Rattle.dce_graph.specs.Prelude.{unmarked, routes, AreFollowed}
use Rattle.dce_graph.proofs.Searching.{Good}
use Rattle.dce_graph.proofs.reach.reached.Given as goal

abbrev pub invariant-loop-point : goal.invariant-loop-point
invariant-loop-point l = record {
  good : Good (routes l.graph l.input) l.search;
  followed : AreFollowed l.graph.nodes l.followed l.search.marks;
}

abbrev pub decreases-loop-point : goal.decreases-loop-point
decreases-loop-point l = unmarked l.search.marks + length l.search.stack
