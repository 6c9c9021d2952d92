-- The meaning of the program's entries, which are parts of a JSON value.
use Rattle.std.specs.Prelude.{ℕ, List, map, Option, option_map}
use Rattle.std.specs.List.{filter_map}
use Rattle.std.specs.BTreeMap.{BTreeMap, get_by}
use Rattle.std.specs.Ordering.{nat_cmp}
use Rattle.std.specs.Cmp.Lexicographic.{slice_cmp}
use denote.Ref.{Bor}
use Rattle.serde_json.specs.declared.value.Value.{Value}
use Rattle.serde_json.specs.Find.{as_str}
use Rattle.serde_json.specs.View.{view}
use Rattle.dce_graph.specs.declared.graph.ImportPair.{ImportPair}
use Rattle.dce_graph.specs.declared.entry.Entry.{Entry as Read}
use Rattle.dce_graph.specs.GraphFile.{GraphEntry, Text}

-- the strings among these values
abbrev pub texts_in : List Value → List Text
texts_in vs = filter_map as_str (map view vs)

abbrev pub pair_now : Bor Text × Bor Text → ImportPair
pair_now p = record { «module» = p.0.now; base = p.1.now }

abbrev pub entry_now : Read → GraphEntry
entry_now e = record {
  name = e.name.now;
  root = e.root;
  reaches = texts_in e.reaches.now;
  export = option_map (λ t. t.now) e.export;
  import = option_map pair_now e.import;
}

abbrev pub entries_now : List Read → List GraphEntry
entries_now = map entry_now

-- the place that the program's map has for a name
abbrev pub place_in_map : BTreeMap (Bor Text) ℕ → Text → Option ℕ
place_in_map names name = get_by (λ k. slice_cmp nat_cmp name k.now) names
