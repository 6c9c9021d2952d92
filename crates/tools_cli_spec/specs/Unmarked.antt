-- The names of the nodes of a graph that have no mark, as a function of the nodes and the marks.
use Rattle.std.specs.Prelude.{Bool, List, [], ◌∷◌, cond}
use Rattle.std.specs.BTreeSet.{insert_key}
use Rattle.std.specs.Ordering.{nat_cmp}
use Rattle.std.specs.Cmp.Lexicographic.{slice_cmp}
use Rattle.dce_graph.specs.declared.graph.Node.{Node}
use Rattle.tools_cli_words.specs.Arguments.{Text}

-- An ascending list of names, with this name in its place.
abbrev pub with_name : List Text → Text → List Text
with_name = insert_key (slice_cmp nat_cmp)

-- `names` and the names of the nodes that have no mark, each once.
abbrev pub unmarked_from : List Text → List Node → List Bool → List Text
unmarked_from names [] marks = names
unmarked_from names (node ∷ nodes) [] = unmarked_from (with_name names node.name) nodes []
unmarked_from names (node ∷ nodes) (mark ∷ marks) = unmarked_from (cond mark names (with_name names node.name)) nodes marks

abbrev pub unmarked_names : List Node → List Bool → List Text
unmarked_names = unmarked_from []
