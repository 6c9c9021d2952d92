use Rattle.base_lists.proofs.Common.{◌≡◌, ◌++◌, drop, map}
use Rattle.dce_graph.specs.Prelude.{first_unknown, reached_names, node_of, place_in_map, entries_now}
use Rattle.dce_graph.proofs.names.all_nodes.Given as goal

abbrev pub invariant-loop-entry : goal.invariant-loop-entry
invariant-loop-entry l = record {
  ahead : first_unknown (place_in_map l.names) (reached_names (entries_now (drop l.entry-index l.entries))) ≡ first_unknown (place_in_map l.names) (reached_names (entries_now l.entries));
  made : l.nodes ++ map (node_of (place_in_map l.names)) (entries_now (drop l.entry-index l.entries)) ≡ map (node_of (place_in_map l.names)) (entries_now l.entries);
}
