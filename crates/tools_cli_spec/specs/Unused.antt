-- The lines that report nodes of a graph that are not reached.
use Rattle.std.specs.Prelude.{◌≡◌, ◌↔◌, ℕ, List, ◌++◌, flat_map, Contains, Some, slice_get, codes}
use Rattle.std.specs.Ordering.{nat_cmp}
use Rattle.std.specs.Cmp.Lexicographic.{slice_cmp}
use Rattle.std.specs.List.Sorted.{IsStrictlySortedBy}
use Rattle.wasm_tree_spec.specs.Prelude.{Module}
use Rattle.dce_graph.specs.declared.graph.Graph.{Graph}
use Rattle.dce_graph.specs.declared.graph.Node.{Node}
use Rattle.dce_graph.specs.Prelude.{IsReached}
use Rattle.tools_cli_words.specs.Arguments.{Text}
use Rattle.dce_graph.specs.declared.point.Point.TheVariants as point

-- The graph has a node of this name that no path from a root reaches.
abbrev pub IsUnused : Graph → Module → Text → Type 0
IsUnused graph tree name = (place : ℕ) × (node : Node) × (slice_get graph.nodes place ≡ Some node) × (node.name ≡ name) × (IsReached graph tree (point.Node place) → ⊥)

-- The names of exactly the nodes that are not reached, in ascending order of their bytes.
pub record AreUnused (graph : Graph) (tree : Module) (names : List Text) : Type 0 where
  pub exactly : (name : Text) → Contains names name ↔ IsUnused graph tree name
  pub ascending : IsStrictlySortedBy (slice_cmp nat_cmp) names

-- The line that reports a name, and then the lines of several.
abbrev pub unused_line : Text → Text
unused_line name = codes "unused: " ++ (name ++ codes "\n")

abbrev pub unused_lines : List Text → Text
unused_lines names = flat_map unused_line names
