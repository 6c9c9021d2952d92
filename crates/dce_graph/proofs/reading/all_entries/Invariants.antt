use Rattle.base_lists.proofs.Common.{◌≡◌, ◌++◌, drop, map, length, filter_map, is_none}
use Rattle.base_lists.specs.Places.{first_place}
use Rattle.serde_json.specs.View.{view}
use Rattle.dce_graph.specs.Prelude.{entry_of, misshapen, entries_now}
use Rattle.dce_graph.proofs.reading.all_entries.Given as goal

abbrev pub invariant-loop-place : goal.invariant-loop-place
invariant-loop-place l = record {
  ahead : first_place (λ d. is_none (entry_of d)) (map view (drop l.place l.values)) l.place ≡ misshapen (map view l.values);
  made : entries_now l.entries.items ++ filter_map entry_of (map view (drop l.place l.values)) ≡ filter_map entry_of (map view l.values);
  one_each : length l.entries.items ≡ l.place;
}
