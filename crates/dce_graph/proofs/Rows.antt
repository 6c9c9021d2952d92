-- Small graph files, and a small graph with a small module, computed: what is read, where edges
-- lead, and what is reached.
use Rattle.base_lists.proofs.Common.{◌≡◌, refl, ℕ, List, [], ◌∷◌, map, Option, Some, None, Bool, true, false, Result, Ok, Err, codes, sym, subst, rules, arith, Contains}
use Rattle.serde_json.proofs.OnLiterals.{serde_json_on_literals}
use Rattle.wasm_tree_spec.specs.Prelude.{Functions, Tables, Memories, Globals, I32, Instr, the_lemmas, Module}
use Rattle.wasm_tree.specs.declared.instr.Instr.TheVariants as i
use Rattle.wasm_tree.specs.declared.module.ConstExpr.TheVariants as const
use Rattle.wasm_tree.specs.declared.module.DataMode.TheVariants as «data»
use Rattle.wasm_tree.specs.declared.module.ExportDesc.TheVariants as ex
use Rattle.wasm_tree.specs.declared.module.Func.{Func as ModuleFunc}
use Rattle.wasm_tree.specs.declared.module.ImportDesc.TheVariants as im
use Rattle.serde_json.specs.Read.{read}
use Rattle.dce_graph.specs.declared.fault.GraphFault.{GraphFault}
use Rattle.dce_graph.specs.declared.fault.GraphFault.TheVariants.{GraphText, GraphShape, NodeTwice, UnknownNode}
use Rattle.dce_graph.specs.declared.graph.Graph.{Graph}
use Rattle.dce_graph.specs.declared.graph.Node.{Node as GraphNode}
use Rattle.dce_graph.specs.declared.point.Point.{Point}
use Rattle.dce_graph.specs.declared.point.Point.TheVariants.{Node, Export, Import, Func, Global}
use Rattle.dce_graph.specs.Prelude.{if_text, IsReached, edges, imports_into, roots, root, along, stays_imported}

-- ---- files ----

-- The result of reading bytes that are UTF-8.
abbrev comes_to : List ℕ → Result Graph GraphFault
comes_to bytes = if_text (read bytes)

no_json : comes_to (codes "{") ≡ Err GraphText
unfolding serde_json_on_literals
no_json = refl

no_array : comes_to (codes "{}") ≡ Err (GraphShape 0)
unfolding serde_json_on_literals
no_array = refl

a_number_as_name : comes_to (codes "[{\"name\":1}]") ≡ Err (GraphShape 0)
unfolding serde_json_on_literals
a_number_as_name = refl

null_is_not_absent : comes_to (codes "[{\"name\":\"a\"},{\"name\":\"b\",\"root\":null}]") ≡ Err (GraphShape 1)
unfolding serde_json_on_literals
null_is_not_absent = refl

one_name_twice : comes_to (codes "[{\"name\":\"a\"},{\"name\":\"a\"}]") ≡ Err (NodeTwice (codes "a"))
unfolding serde_json_on_literals
one_name_twice = refl

no_such_node : comes_to (codes "[{\"name\":\"a\",\"reaches\":[\"b\"]}]") ≡ Err (UnknownNode (codes "b"))
unfolding serde_json_on_literals
no_such_node = refl

-- Where a rule is broken more than once, the first entry that breaks it is told, and of an entry the
-- first name.
the_first_repeated_name : comes_to (codes "[{\"name\":\"a\"},{\"name\":\"b\"},{\"name\":\"b\"},{\"name\":\"a\"}]") ≡ Err (NodeTwice (codes "b"))
unfolding serde_json_on_literals
the_first_repeated_name = refl

the_first_misshapen_entry : comes_to (codes "[{\"name\":\"a\"},7,{}]") ≡ Err (GraphShape 1)
unfolding serde_json_on_literals
the_first_misshapen_entry = refl

the_first_unknown_name : comes_to (codes "[{\"name\":\"a\",\"reaches\":[\"a\",\"c\",\"b\"]}]") ≡ Err (UnknownNode (codes "c"))
unfolding serde_json_on_literals
the_first_unknown_name = refl

-- The last value of a repeated key counts.
the_last_counts : comes_to (codes "[{\"name\":\"b\",\"name\":\"a\",\"reaches\":[\"a\"]}]") ≡ Ok (record { nodes = record { name = codes "a"; root = false; reaches = 0 ∷ []; export = None; import = None } ∷ [] })
unfolding serde_json_on_literals
the_last_counts = refl

-- ---- a module of an imported and three defined functions, and a graph that denotes the import
-- ----

abbrev func : List Instr → ModuleFunc
func body = record { ty = 0; locals = []; body = body }

abbrev calling : Module
calling = record {
  types = record { params = []; results = [] } ∷ [];
  imports = record { «module» = codes "env"; field = codes "cb"; desc = im.Func 0 } ∷ [];
  funcs = func (i.Call 0 ∷ i.RefFunc 3 ∷ i.Drop ∷ []) ∷ func [] ∷ func [] ∷ [];
  tables = [];
  mems = [];
  globals = [];
  exports = record { name = codes "a"; desc = ex.Func 1 } ∷ record { name = codes "b"; desc = ex.Func 2 } ∷ record { name = codes "c"; desc = ex.Func 3 } ∷ [];
  start = None;
  elems = [];
  datas = [];
}

abbrev node : List ℕ → Bool → List ℕ → Option (List ℕ) → GraphNode
node name is_root reaches export = record { name = name; root = is_root; reaches = reaches; export = export; import = None }

abbrev page : Graph
page = record {
  nodes =
      node (codes "out") true (1 ∷ []) None ∷ node (codes "A") false [] (Some (codes "a"))
      ∷ record { name = codes "cb"; root = false; reaches = 3 ∷ []; export = None; import = Some (record { «module» = codes "env"; base = codes "cb" }) } ∷ node (codes "B") false [] (Some (codes "b"))
      ∷ node (codes "C") false [] (Some (codes "c")) ∷ [];
}

the_root_is_the_page : roots page calling ≡ Node 0 ∷ []
the_root_is_the_page = refl

a_node_leads_to_its_export : edges page calling (Node 1) ≡ Export 0 ∷ []
a_node_leads_to_its_export = refl

a_node_does_not_lead_to_its_import : edges page calling (Node 2) ≡ Node 3 ∷ []
a_node_does_not_lead_to_its_import = refl

an_imported_function_leads_to_its_import : edges page calling (Func 0) ≡ Import 0 ∷ []
an_imported_function_leads_to_its_import = refl

an_import_leads_to_its_nodes : edges page calling (Import 0) ≡ Node 2 ∷ []
an_import_leads_to_its_nodes = refl

-- A node denotes the import of its module and field, and no other import of that field.
abbrev importing : List ℕ → GraphNode
importing from = record { name = from; root = false; reaches = []; export = None; import = Some (record { «module» = from; base = codes "cb" }) }

an_import_is_found_by_module_and_field : edges (record { nodes = importing (codes "other") ∷ importing (codes "env") ∷ [] }) calling (Import 0) ≡ Node 1 ∷ []
an_import_is_found_by_module_and_field = refl

no_import_is_found_by_its_field_alone : edges (record { nodes = importing (codes "other") ∷ [] }) calling (Import 0) ≡ []
no_import_is_found_by_its_field_alone = refl

a_function_leads_to_what_it_names : edges page calling (Func 1) ≡ Func 0 ∷ Func 3 ∷ []
a_function_leads_to_what_it_names = search (rules, the_lemmas)

first : (p : Point) (ps : List Point) → Contains (p ∷ ps) p
first p ps = (0, omega arith, refl)

func_cb_is_reached : IsReached page calling (Func 0)
func_cb_is_reached =
    let out = root {p = Node 0} (omega arith) (first (Node 0) []) in
    let a = along {q = Node 1} out (omega arith) (first (Node 1) []) in
    let export_a = along {q = Export 0} a (omega arith) (first (Export 0) []) in
    let func_a = along {q = Func 1} export_a (omega arith) (first (Func 1) []) in
    along {q = Func 0} func_a (omega arith) (subst (λ ps. Contains ps (Func 0)) (sym a_function_leads_to_what_it_names) (first (Func 0) (Func 3 ∷ [])))

-- The import is reached together with its function, which is the first imported one.
the_first_imported_function : imports_into Functions calling.imports ≡ 0 ∷ []
the_first_imported_function = refl

import_cb_is_reached : IsReached page calling (Import 0)
import_cb_is_reached = along {q = Import 0} func_cb_is_reached (omega arith) (first (Import 0) [])

-- The second export is reached through the import.
export_b_is_reached : IsReached page calling (Export 1)
export_b_is_reached =
    let cb = along {q = Node 2} import_cb_is_reached (omega arith) (first (Node 2) []) in
    let b = along {q = Node 3} cb (omega arith) (first (Node 3) []) in
    along {q = Export 1} b (omega arith) (first (Export 1) [])

-- ---- the roots of a module ----

abbrev rooted : Module
rooted = record {
  types = record { params = []; results = [] } ∷ [];
  imports =
      record { «module» = codes "m"; field = codes "p"; desc = im.Memory (record { min = 1; max = None }) } ∷ record { «module» = codes "m"; field = codes "g"; desc = im.Global (record { ty = I32; mutable = false }) } ∷ [];
  funcs = func [] ∷ func [] ∷ func [] ∷ func [] ∷ [];
  tables = [];
  mems = [];
  globals = record { ty = record { ty = I32; mutable = false }; init = const.Func 2 } ∷ [];
  exports = [];
  start = Some 0;
  elems = [];
  datas = record { mode = «data».Active 0 (const.Global 0); bytes = [] } ∷ record { mode = «data».Passive; bytes = [] } ∷ [];
}

the_start_memories_and_offsets_are_roots : roots (record { nodes = [] }) rooted ≡ Func 0 ∷ Import 0 ∷ Global 0 ∷ []
the_start_memories_and_offsets_are_roots = refl

-- An imported memory stays, and is reached in the empty graph; an imported function does not stay.
an_imported_memory_is_reached : IsReached (record { nodes = [] }) rooted (Import 0)
an_imported_memory_is_reached = root (omega arith) (1, omega arith, refl)

tables_and_memories_stay : map stays_imported (Functions ∷ Tables ∷ Memories ∷ Globals ∷ []) ≡ false ∷ true ∷ true ∷ false ∷ []
tables_and_memories_stay = refl

an_imported_global_leads_to_its_import : edges (record { nodes = [] }) rooted (Global 0) ≡ Import 1 ∷ []
an_imported_global_leads_to_its_import = refl

a_global_leads_to_what_its_initialiser_names : edges (record { nodes = [] }) rooted (Global 1) ≡ Func 2 ∷ []
a_global_leads_to_what_its_initialiser_names = refl
