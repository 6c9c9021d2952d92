use Rattle.std.proofs.Common.{◌≡◌, ℕ, List, take, drop}
use Rattle.dce_graph.specs.GraphFile.{names_of, place_of_name, first_repeated, repeated_after}
use Rattle.dce_graph.specs.Entries.{entries_now, place_in_map}
use Rattle.dce_graph.proofs.names.all_names.Given as goal

abbrev pub invariant-loop-place : goal.invariant-loop-place
invariant-loop-place l = record {
  ahead : repeated_after (take l.place (names_of (entries_now l.entries))) (drop l.place (names_of (entries_now l.entries))) ≡ first_repeated (names_of (entries_now l.entries));
  places : (q : List ℕ) → place_in_map l.names q ≡ place_of_name (take l.place (names_of (entries_now l.entries))) q;
}
