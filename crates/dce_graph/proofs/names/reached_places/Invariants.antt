use Rattle.base_lists.proofs.Common.{◌≡◌, ◌++◌, drop, filter_map}
use Rattle.dce_graph.specs.Prelude.{first_unknown, place_in_map, texts_in}
use Rattle.dce_graph.proofs.names.reached_places.Given as goal

abbrev pub invariant-loop-value : goal.invariant-loop-value
invariant-loop-value l = record {
  ahead : first_unknown (place_in_map l.names) (texts_in (drop l.value-index l.reaches)) ≡ first_unknown (place_in_map l.names) (texts_in l.reaches);
  made : l.places ++ filter_map (place_in_map l.names) (texts_in (drop l.value-index l.reaches)) ≡ filter_map (place_in_map l.names) (texts_in l.reaches);
}
