-- What is looked up in a graph and a module during a search.
use Rattle.std.specs.Prelude.{◌≡◌, ◌≤◌, ℕ, suc, List, [], ◌∷◌, length, map, take, drop, Bool, true, false, cond, get_or, Contains, Option, Some, None, option_and_then, slice_get}
use Rattle.std.specs.Option.{option_or}
use Rattle.std.specs.BTreeMap.{BTreeMap, get_by}
use Rattle.std.specs.Ordering.{nat_cmp, ordering_then}
use Rattle.std.specs.Cmp.Lexicographic.{slice_cmp}
use denote.Ref.{Bor}
use Rattle.base_lists.specs.Places.{places}
use Rattle.wasm_tree_spec.specs.Prelude.{Functions, Globals}
use Rattle.dce_graph.specs.declared.graph.ImportPair.{ImportPair}
use Rattle.dce_graph.specs.declared.graph.Node.{Node}
use Rattle.dce_graph.specs.declared.marks.Reached.{Reached}
use Rattle.dce_graph.specs.declared.point.Point.{Point}
use Rattle.dce_graph.specs.declared.point.Point.TheVariants.{Node as node_point}
use Rattle.dce_graph.specs.declared.search.Search.{Search}
use Rattle.dce_graph.specs.declared.walk.Walk.{Walk}
use Rattle.dce_graph.specs.Marks.{HasMark, Spread, marked}
use Rattle.dce_graph.specs.Reach.{pair_is, export_place, imports_into}
use Rattle.dce_graph.specs.GraphFile.{Text}
use Rattle.dce_graph.specs.Entries.{place_in_map}

-- the last place, counted from n, whose element passes the test
abbrev pub last_place : {A : Type 0} → (A → Bool) → List A → ℕ → Option ℕ
last_place is [] n = None
last_place is (x ∷ xs) n = option_or (last_place is xs (suc n)) (cond (is x) (Some n) None)

-- the place that the program's map has for a module and a field
abbrev pub found_pair : BTreeMap (Bor Text × Bor Text) ℕ → Text → Text → Option ℕ
found_pair pairs module_name field = get_by (λ k. ordering_then (slice_cmp nat_cmp module_name k.0.now) (slice_cmp nat_cmp field k.1.now)) pairs

-- whether a node denotes this module and field
abbrev pub is_of_pair : Text → Text → Node → Bool
is_of_pair module_name field n = pair_is module_name field n.import

abbrev pub last_of_pair : List Node → ImportPair → Option ℕ
last_of_pair nodes pair = last_place (is_of_pair pair.«module» pair.base) nodes 0

-- for each module and field the last node that denotes them, and for each node the one before it
-- that denotes the same
pub record AreNodeChains (nodes : List Node) (last : BTreeMap (Bor Text × Bor Text) ℕ) (before : List (Option ℕ)) : Type 0 where
  pub last_one : (a b : Text) → found_pair last a b ≡ last_place (is_of_pair a b) nodes 0
  pub before_it : (n : ℕ) (node : Node) → slice_get nodes n ≡ Some node → slice_get before n ≡ Some (option_and_then (last_of_pair (take n nodes)) node.import)

-- the look-up tables are right: the places of export names, the nodes that denote modules and
-- fields, and the places of the imports of functions and of globals
pub record AreLookups (w : Walk) : Type 0 where
  pub exports : (q : Text) → place_in_map w.exports q ≡ export_place w.«module».now.exports q
  pub chains : AreNodeChains w.graph.now.nodes w.last w.before.items
  pub funcs : w.funcs.items ≡ imports_into Functions w.«module».now.imports
  pub globals : w.globals.items ≡ imports_into Globals w.«module».now.imports

-- The nodes that denote one module and field, which pass the test, are being visited from the last
-- to the first: those from place `from` on were visited, and `next` is the last of them before it.
pub record IsMeeting (nodes : List Node) (test : Node → Bool) (next : Option ℕ) (old new : Search) : Type 0 where
  pub from : ℕ
  pub there : from ≤ length nodes
  pub next_is : next ≡ last_place test (take from nodes) 0
  pub spread : Spread old (map node_point (places test (drop from nodes) from)) new

-- how many places are left to go
abbrev pub ahead : Option ℕ → ℕ
ahead None = 0
ahead (Some n) = suc n

-- those of the points that have a mark are marked
abbrev pub AreMet : Reached → List Point → Type 0
AreMet r ps = (q : Point) → Contains ps q → HasMark r q → marked r q ≡ true

-- if the flag of the last node that denotes a module and field is set, each node that denotes them
-- and has a mark is marked
abbrev pub AreFollowed : List Node → List Bool → Reached → Type 0
AreFollowed nodes followed r = (a b : Text) (n : ℕ) → last_place (is_of_pair a b) nodes 0 ≡ Some n → get_or followed n false ≡ true → AreMet r (map node_point (places (is_of_pair a b) nodes 0))
