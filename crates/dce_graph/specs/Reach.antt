-- What is reached: what a path meets that begins at a root and goes along edges, over the nodes of
-- a graph and the exports, imports, functions and globals of a module (WebAssembly Core 2.0,
-- sections 2.5 and 2.5.1).
use Rattle.std.specs.Prelude.{ℕ, ◌<◌, Bool, true, false, ◌&&◌, List, [], ◌∷◌, ◌++◌, map, length, Contains, Option, Some, None, option_map, slice_get, bytes_eq}
use Rattle.std.specs.List.{cons_option, filter_map, flat_map}
use Rattle.base_lists.specs.Places.{first_place, places}
use Rattle.wasm_tree_spec.specs.Prelude.{Space, Types, Functions, Tables, Memories, Globals, ElementSegments, DataSegments, Operand, Instr, fold-Instr, ConstExpr, DataMode, ElemMode, ExportDesc}
use Rattle.wasm_tree_spec.specs.Prelude.{Module, same_space, operands, held, space_of_import, funcs_of, globals_of}
use Rattle.wasm_tree.specs.declared.instr.Instr.TheOpen.{Instr-F}
use Rattle.wasm_tree.specs.declared.module.ConstExpr.TheVariants as const
use Rattle.wasm_tree.specs.declared.module.DataMode.TheVariants as «data»
use Rattle.wasm_tree.specs.declared.module.ElemMode.TheVariants as elem
use Rattle.wasm_tree.specs.declared.module.Export.{Export as ModuleExport}
use Rattle.wasm_tree.specs.declared.module.ExportDesc.TheVariants as export
use Rattle.wasm_tree.specs.declared.module.Import.{Import as ModuleImport}
use Rattle.dce_graph.specs.declared.graph.Graph.{Graph}
use Rattle.dce_graph.specs.declared.graph.ImportPair.{ImportPair}
use Rattle.dce_graph.specs.declared.graph.Node.{Node as GraphNode}
use Rattle.dce_graph.specs.declared.point.Point.{Point}
use Rattle.dce_graph.specs.declared.point.Point.TheVariants.{Node, Export, Import, Func, Global}

-- ---- paths ----

-- the place of a point among those of its kind
abbrev pub place_in_kind : Point → ℕ
place_in_kind (Node i) = i
place_in_kind (Export i) = i
place_in_kind (Import i) = i
place_in_kind (Func i) = i
place_in_kind (Global i) = i

-- what paths go over: how many points there are of each kind, where a path may begin, and where it
-- may go on from a point
pub record Routes : Type 0 where
  pub count : Point → ℕ
  pub roots : List Point
  pub edges : Point → List Point

-- the point exists
abbrev pub PointExists : Routes → Point → Type 0
PointExists r p = place_in_kind p < r.count p

-- a path leads to the point: it begins at a root that exists, and goes along edges to points that
-- exist
pub data IsReachedBy (r : Routes) : Point → Type 0 where
  root : {p : Point} → PointExists r p → Contains r.roots p → IsReachedBy r p
  along : {p q : Point} → IsReachedBy r p → PointExists r q → Contains (r.edges p) q → IsReachedBy r q

-- ---- what code names ----

-- the function or global that an operand names
abbrev pub point_of : Space → ℕ → Option Point
point_of Functions i = Some (Func i)
point_of Globals i = Some (Global i)
point_of Types i = None
point_of Tables i = None
point_of Memories i = None
point_of ElementSegments i = None
point_of DataSegments i = None

abbrev pub operand_point : Operand → Option Point
operand_point o = point_of o.space o.index

-- the operands of a layer, given those of each instruction inside it
abbrev pub operands_step : Instr-F (List Operand) → List Operand
operands_step layer = operands layer ++ flat_map (λ os. os) (held layer)

-- the operands of an instruction and of those inside it
abbrev pub all_operands : Instr → List Operand
all_operands = fold-Instr (List Operand) operands_step

abbrev pub body_operands : List Instr → List Operand
body_operands is = flat_map (λ os. os) (map all_operands is)

-- the functions and globals that an instruction and those inside it name
abbrev pub named_points : Instr → List Point
named_points i = filter_map operand_point (all_operands i)

-- those that a body names
abbrev pub body_points : List Instr → List Point
body_points is = filter_map operand_point (body_operands is)

-- the function or global that a constant expression names
abbrev pub const_point : ConstExpr → Option Point
const_point (const.I32 value) = None
const_point (const.I64 value) = None
const_point (const.Null ty) = None
const_point (const.Func func) = Some (Func func)
const_point (const.Global global) = Some (Global global)

abbrev pub const_points : ConstExpr → List Point
const_points e = cons_option (const_point e) []

-- ---- edges ----

-- the places of the imports into an index space, in order
abbrev pub imports_into : Space → List ModuleImport → List ℕ
imports_into space imports = places (λ i. same_space space (space_of_import i.desc)) imports 0

-- the place of the first export of this name; a valid module has at most one
abbrev pub export_place : List ModuleExport → List ℕ → Option ℕ
export_place exports name = first_place (λ e. bytes_eq name e.name) exports 0

-- whether a node denotes the import of this module and field
abbrev pub pair_is : List ℕ → List ℕ → Option ImportPair → Bool
pair_is module_name field None = false
pair_is module_name field (Some pair) = bytes_eq pair.«module» module_name && bytes_eq pair.base field

abbrev pub denotes_import : ModuleImport → GraphNode → Bool
denotes_import i n = pair_is i.«module» i.field n.import

-- the export that a node denotes, if there is one
abbrev pub export_of_node : List ModuleExport → Option (List ℕ) → List Point
export_of_node exports None = []
export_of_node exports (Some name) = cons_option (option_map Export (export_place exports name)) []

-- from a node to the nodes that it reaches, and to the export that it denotes, if there is one
abbrev pub from_node : List ModuleExport → GraphNode → List Point
from_node exports n = map Node n.reaches ++ export_of_node exports n.export

-- from an export to its function or global
abbrev pub from_export : ExportDesc → List Point
from_export (export.Func i) = Func i ∷ []
from_export (export.Table i) = []
from_export (export.Memory i) = []
from_export (export.Global i) = Global i ∷ []

-- from an import to each node that denotes its module and field; no edge leads from such a node to
-- the import
abbrev pub from_import : List GraphNode → ModuleImport → List Point
from_import nodes i = map Node (places (denotes_import i) nodes 0)

-- for each function, in the order of the index space: from an imported one to its import, from a
-- defined one to what its body names
abbrev pub from_funcs : Module → List (List Point)
from_funcs m = map (λ place. Import place ∷ []) (imports_into Functions m.imports) ++ map (λ f. body_points f.body) m.funcs

-- for each global, in the order of the index space: from an imported one to its import, from a
-- defined one to what its initialiser names
abbrev pub from_globals : Module → List (List Point)
from_globals m = map (λ place. Import place ∷ []) (imports_into Globals m.imports) ++ map (λ g. const_points g.init) m.globals

-- no edges from a point that does not exist
abbrev pub edges_of : Option (List Point) → List Point
edges_of None = []
edges_of (Some points) = points

-- the points to which edges lead from a point
abbrev pub edges : Graph → Module → Point → List Point
edges g m (Node i) = edges_of (option_map (from_node m.exports) (slice_get g.nodes i))
edges g m (Export i) = edges_of (option_map (λ e. from_export e.desc) (slice_get m.exports i))
edges g m (Import i) = edges_of (option_map (from_import g.nodes) (slice_get m.imports i))
edges g m (Func i) = edges_of (slice_get (from_funcs m) i)
edges g m (Global i) = edges_of (slice_get (from_globals m) i)

-- ---- roots ----

-- whether all imports into an index space are roots, named or not: those of tables and memories are
abbrev pub stays_imported : Space → Bool
stays_imported Tables = true
stays_imported Memories = true
stays_imported Types = false
stays_imported Functions = false
stays_imported Globals = false
stays_imported ElementSegments = false
stays_imported DataSegments = false

-- what an element segment names in its offset and its items; nothing if it is declarative, because
-- it is copied nowhere
abbrev pub elem_points : ElemMode → List ConstExpr → List Point
elem_points (elem.Active table offset) items = const_points offset ++ filter_map const_point items
elem_points elem.Passive items = filter_map const_point items
elem_points elem.Declarative items = []

-- what a data segment names in its offset
abbrev pub data_points : DataMode → List Point
data_points («data».Active memory offset) = const_points offset
data_points «data».Passive = []

-- the nodes that are roots
abbrev pub root_nodes : List GraphNode → List Point
root_nodes nodes = map Node (places (λ n. n.root) nodes 0)

-- the start function, if there is one
abbrev pub start_points : Option ℕ → List Point
start_points start = cons_option (option_map Func start) []

-- the imports of tables and memories
abbrev pub import_points : List ModuleImport → List Point
import_points imports = map Import (places (λ i. stays_imported (space_of_import i.desc)) imports 0)

-- what is reached of a module in every graph: the start function, the imports of tables and
-- memories, and the functions and globals that the offsets and items of active and passive segments
-- name
abbrev pub module_roots : Module → List Point
module_roots m = start_points m.start ++ (import_points m.imports ++ (flat_map (λ s. elem_points s.mode s.items) m.elems ++ flat_map (λ s. data_points s.mode) m.datas))

-- the points at which a path may begin
abbrev pub roots : Graph → Module → List Point
roots g m = root_nodes g.nodes ++ module_roots m

-- ---- reached ----

-- how many points there are of the kind of this one
abbrev pub point_count : Graph → Module → Point → ℕ
point_count g m (Node i) = length g.nodes
point_count g m (Export i) = length m.exports
point_count g m (Import i) = length m.imports
point_count g m (Func i) = length (funcs_of m)
point_count g m (Global i) = length (globals_of m)

abbrev pub routes : Graph → Module → Routes
routes g m = record { count = point_count g m; roots = roots g m; edges = edges g m }

-- a path from a root meets the point
abbrev pub IsReached : Graph → Module → Point → Type 0
IsReached g m = IsReachedBy (routes g m)
