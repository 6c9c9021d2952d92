-- What a graph file says: a JSON array of objects, each of which is a node. `name` is a string and
-- is required; `reaches` is an array of strings, the names of nodes; `root` is a boolean; `export`
-- is a string; `import` is an array of two strings. Each but `name` may be absent, and an entry
-- does not have both `export` and `import`. Other keys have no meaning. Of a key that is given
-- twice the last counts, as the JSON reader has it.
use Rattle.std.specs.Prelude.{◌≡◌, ℕ, Bool, false, ◌&&◌, cond, List, [], ◌∷◌, ◌++◌, map, Option, Some, None, is_some, is_none, option_map, Result, Ok, Err, codes}
use Rattle.std.specs.List.{filter_map, flat_map}
use Rattle.std.specs.Str.{bytes_eq, is_utf8}
use Rattle.serde_json.specs.Data.{Data, Items, no_items, item}
use Rattle.serde_json.specs.Find.{get, as_array, as_bool, as_str}
use Rattle.serde_json.specs.Read.{read}
use Rattle.base_lists.specs.Options.{◌>>=◌, all_there}
use Rattle.base_lists.specs.Places.{first_place}
use Rattle.dce_graph.specs.declared.fault.GraphFault.{GraphFault}
use Rattle.dce_graph.specs.declared.fault.GraphFault.TheVariants.{GraphText, GraphShape, NodeTwice, UnknownNode}
use Rattle.dce_graph.specs.declared.graph.Graph.{Graph}
use Rattle.dce_graph.specs.declared.graph.ImportPair.{ImportPair}
use Rattle.dce_graph.specs.declared.graph.Node.{Node}

-- a string, as its bytes
abbrev pub Text : Type 0
Text = List ℕ

-- the value that the bytes encode, if they are UTF-8 and JSON that is not nested too deep
abbrev pub value_of : List ℕ → Option Data
value_of bytes = cond (is_utf8 bytes) (read bytes) None

-- ---- one entry ----

-- what an entry says about its node, with the names of the nodes that it reaches
pub record GraphEntry : Type 0 where
  pub name : Text
  pub root : Bool
  pub reaches : List Text
  pub export : Option Text
  pub import : Option ImportPair

abbrev pub listed : Items → List Data
listed no_items = []
listed (item d ds) = d ∷ listed ds

-- what is read of the value of a key, or `absent` if there is no such key; `null` is a value like
-- others
abbrev pub optional : {A : Type 0} → (Data → Option A) → A → Option Data → Option A
optional read_as absent None = Some absent
optional read_as absent (Some d) = read_as d

-- an array of strings
abbrev pub texts_of : Data → Option (List Text)
texts_of d = as_array d >>= λ ds. all_there as_str (listed ds)

abbrev pub text_of : Data → Option (Option Text)
text_of d = option_map Some (as_str d)

-- two strings: a module and a field
abbrev pub import_pair_of_two : List Text → Option (Option ImportPair)
import_pair_of_two [] = None
import_pair_of_two (a ∷ []) = None
import_pair_of_two (a ∷ b ∷ []) = Some (Some (record { «module» = a; base = b }))
import_pair_of_two (a ∷ b ∷ c ∷ more) = None

abbrev pub import_pair_of : Data → Option (Option ImportPair)
import_pair_of d = texts_of d >>= import_pair_of_two

-- the entry, unless it has both an export and an import
abbrev pub unless_both : GraphEntry → Option GraphEntry
unless_both e = cond (is_some e.export && is_some e.import) None (Some e)

-- what the value of each key says
abbrev pub name_in : Data → Option Text
name_in d = get (codes "name") d >>= as_str

abbrev pub root_in : Data → Option Bool
root_in d = optional as_bool false (get (codes "root") d)

abbrev pub reaches_in : Data → Option (List Text)
reaches_in d = optional texts_of [] (get (codes "reaches") d)

abbrev pub export_in : Data → Option (Option Text)
export_in d = optional text_of None (get (codes "export") d)

abbrev pub import_in : Data → Option (Option ImportPair)
import_in d = optional import_pair_of None (get (codes "import") d)

-- what a value says, if it has the shape of an entry
abbrev pub entry_of : Data → Option GraphEntry
entry_of d =
    name_in d >>= λ name.
    root_in d >>= λ root.
    reaches_in d >>= λ reaches.
    export_in d >>= λ export.
    import_in d >>= λ import.
    unless_both (record { name = name; root = root; reaches = reaches; export = export; import = import })

-- ---- names ----

abbrev pub names_of : List GraphEntry → List Text
names_of = map (λ e. e.name)

-- the place of a text among these names, the first if there are several
abbrev pub place_of_name : List Text → Text → Option ℕ
place_of_name names text = first_place (bytes_eq text) names 0

-- the first name that repeats an earlier one or one of `before`
abbrev pub repeated_after : List Text → List Text → Option Text
repeated_after before [] = None
repeated_after before (name ∷ names) = cond (is_some (place_of_name before name)) (Some name) (repeated_after (before ++ name ∷ []) names)

abbrev pub first_repeated : List Text → Option Text
first_repeated = repeated_after []

-- the first of these texts that has no place
abbrev pub first_unknown : (Text → Option ℕ) → List Text → Option Text
first_unknown place [] = None
first_unknown place (text ∷ texts) = cond (is_some (place text)) (first_unknown place texts) (Some text)

-- all names that entries reach, entry by entry
abbrev pub reached_names : List GraphEntry → List Text
reached_names = flat_map (λ e. e.reaches)

-- ---- the graph ----

-- the node of an entry, if names have these places
abbrev pub node_of : (Text → Option ℕ) → GraphEntry → Node
node_of place e = record { name = e.name; root = e.root; reaches = filter_map place e.reaches; export = e.export; import = e.import }

abbrev pub graph_of : List GraphEntry → Graph
graph_of entries = record { nodes = map (node_of (place_of_name (names_of entries))) entries }

-- ---- the graph, or why there is none ----

-- the graph, if each name that is reached is an entry's
abbrev pub if_known : Option Text → Graph → Result Graph GraphFault
if_known (Some name) graph = Err (UnknownNode name)
if_known None graph = Ok graph

-- the graph, if no name is repeated
abbrev pub if_distinct : Option Text → List GraphEntry → Result Graph GraphFault
if_distinct (Some name) entries = Err (NodeTwice name)
if_distinct None entries = if_known (first_unknown (place_of_name (names_of entries)) (reached_names entries)) (graph_of entries)

-- the place of the first value that is no entry
abbrev pub misshapen : List Data → Option ℕ
misshapen ds = first_place (λ d. is_none (entry_of d)) ds 0

-- the graph, if each value is an entry
abbrev pub if_shaped : Option ℕ → List GraphEntry → Result Graph GraphFault
if_shaped (Some n) entries = Err (GraphShape n)
if_shaped None entries = if_distinct (first_repeated (names_of entries)) entries

abbrev pub graph_of_values : List Data → Result Graph GraphFault
graph_of_values ds = if_shaped (misshapen ds) (filter_map entry_of ds)

-- the graph, if the value is an array
abbrev pub if_array : Option Items → Result Graph GraphFault
if_array None = Err (GraphShape 0)
if_array (Some items) = graph_of_values (listed items)

-- the graph, if the bytes are JSON
abbrev pub if_text : Option Data → Result Graph GraphFault
if_text None = Err GraphText
if_text (Some d) = if_array (as_array d)

-- the graph of a file with these bytes, or why there is none
abbrev pub graph_result : List ℕ → Result Graph GraphFault
graph_result bytes = if_text (value_of bytes)

-- ---- faults ----

-- the fault is the one that is reported, or says that memory ran out
abbrev pub IsFault : GraphFault → Option GraphFault → Type 0
IsFault GraphFault.NoMemory fault = Unit {0}
IsFault GraphText fault = fault ≡ Some GraphText
IsFault (GraphShape entry) fault = fault ≡ Some (GraphShape entry)
IsFault (NodeTwice name) fault = fault ≡ Some (NodeTwice name)
IsFault (UnknownNode name) fault = fault ≡ Some (UnknownNode name)

abbrev pub fault_of : Result Graph GraphFault → Option GraphFault
fault_of (Ok graph) = None
fault_of (Err fault) = Some fault
