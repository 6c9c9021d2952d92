use Rattle.std.proofs.Common.{◌≡◌, length, take}
use Rattle.dce_graph.specs.Walks.{AreNodeChains}
use Rattle.dce_graph.proofs.lookups.node_chains.Given as goal

abbrev pub invariant-loop-place : goal.invariant-loop-place
invariant-loop-place l = record {
  one_each : length l.before.items ≡ l.place;
  are : AreNodeChains (take l.place l.nodes) l.last l.before.items;
}
