-- Marks on exactly what is reached are closed.
use Rattle.base_lists.proofs.Common.{◌≡◌, ◌∙◌, ap, ap₂, sym, subst, refl, ℕ, zero, suc, ◌+◌, ◌<◌, List, [], ◌∷◌, map, length, Option, Some, None, Bool, true, false, ◌&&◌, ⊎_elim, nat_lt, arith, slice_get, true≢false, Contains, option_map, cons_option, flat_map, list_all, ltb-true, lt-ltb}
use Rattle.base_lists.proofs.Common.{length-map, list_all-append, Contains-append_left, Contains-append_right, Contains-append_cases, slice_get_within, same_tests, list_all_each, list_all_from, kept_is, place_back, place_there, places_many, length-numbers, map_at, map_from, append_at_left}
use Rattle.base_lists.proofs.Common.{append_right, append_from, there_contains}
use Rattle.base_lists.proofs.Filtered.{places_apart}
use Rattle.std.proofs.Common.{filter_map}
use Rattle.base_lists.specs.Places.{numbers, places}
use Rattle.wasm_tree_spec.specs.Prelude.{Space, Types, Functions, Tables, Memories, Globals, ElementSegments, DataSegments, Instr, ConstExpr, DataMode, ElemMode, ElemSeg, ExportDesc, GlobalDef, ImportDesc, Module, same_space, PassesInside, PassesLayerByLayer, ListLayers, func_of, global_of}
use Rattle.wasm_tree_spec.specs.Prelude.{space_of_import, imported_funcs, imported_globals, funcs_of, tables_of, memories_of, globals_of}
use Rattle.wasm_tree.specs.declared.module.ConstExpr.TheVariants as const
use Rattle.wasm_tree.specs.declared.module.DataMode.TheVariants as «data»
use Rattle.wasm_tree.specs.declared.module.ElemMode.TheVariants as elem
use Rattle.wasm_tree.specs.declared.module.Export.{Export as ModuleExport}
use Rattle.wasm_tree.specs.declared.module.ExportDesc.TheVariants as ex
use Rattle.wasm_tree.specs.declared.module.Func.{Func as Function}
use Rattle.wasm_tree.specs.declared.module.Import.{Import as ModuleImport}
use Rattle.wasm_tree.specs.declared.module.ImportDesc.TheVariants as im
use Rattle.wasm_meaning.specs.Prelude.{has_kind, imports_of}
use Rattle.index_remap.specs.declared.remap.Remap.{Remap}
use Rattle.index_remap.proofs.UnreplacedCode.{operands_follow}
use Rattle.index_remap_proof.specs.Indices.{ConstNamesOnly, DataModeNamesOnly, ElemModeNamesOnly, ExportNamesOnly, ImportNamesOnly, LayerNamesOnly, TreeNamesOnly, with_entry}
use Rattle.index_remap_proof.specs.Trees.{Covers}
use Rattle.base_kept.specs.Kept.{is_marked}
use Rattle.base_kept.proofs.Laws.{kept_from, marked_drop}
use Rattle.dce_spec.specs.Marks.{Marks, stays}
use Rattle.dce_spec.specs.Swept.{defined_funcs, defined_globals, is_kept_ref, kept_elem, kept_items, kept_tree}
use Rattle.dce_spec.specs.Closed.{AreClosed}
use Rattle.dce_graph.specs.declared.graph.Graph.{Graph}
use Rattle.dce_graph.specs.declared.graph.Node.{Node as GraphNode}
use Rattle.dce_graph.specs.declared.marks.Reached.{Reached}
use Rattle.dce_graph.specs.declared.point.Point.{Point}
use Rattle.dce_graph.specs.declared.point.Point.TheVariants.{Node, Export, Import, Func, Global}
use Rattle.dce_graph.specs.Prelude.{AreExact, marked, IsReached, root, along, routes, roots, edges, place_in_kind, point_count, body_points, const_point, const_points, imports_into, from_node, from_import, export_of_node, elem_points, data_points, root_nodes, start_points, import_points}
use Rattle.dce_graph.specs.Prelude.{stays_imported, denotes_import, export_place}
use Rattle.dce_graph.specs.Reach.{PointExists, edges_of, point_of, from_export, from_funcs, from_globals, module_roots}
use Rattle.dce_spec.specs.Reached.{marks_of}
use Rattle.dce_proof.proofs.PointLists.{has, contains_joined, contains_chosen, none_fails, all_mapped, all_joined, all_chosen, point_passes, passes, body_passes}

-- ---- imports ----

-- An import adds to one index space only.
one_kind : (d : ImportDesc) (s t : Space) → same_space s (space_of_import d) ≡ true → same_space t (space_of_import d) ≡ true → s ≡ t
one_kind d s t h k = grind arith

no_other : (d : ImportDesc) (s : Space) → same_space s (space_of_import d) ≡ true → stays_imported (space_of_import d) ≡ true → stays_imported s ≡ true
no_other d s h k = grind arith

stays_too : (d : ImportDesc) (s : Space) → same_space s (space_of_import d) ≡ true → stays_imported s ≡ true → stays_imported (space_of_import d) ≡ true
stays_too d s h k = grind arith

-- Whether a point is something other than an import.
abbrev no_import : Point → Bool
no_import (Import i) = false
no_import p = true

const_no_import : (e : ConstExpr) → list_all no_import (const_points e) ≡ true
const_no_import (const.I32 v) = refl
const_no_import (const.I64 v) = refl
const_no_import (const.Null t) = refl
const_no_import (const.Func f) = refl
const_no_import (const.Global x) = refl

module _ (m : Module) where
  -- The map with an entry for each index that exists.
  abbrev pub spaces : Remap
  spaces = record {
    types = numbers 0 (length m.types);
    funcs = numbers 0 (length (funcs_of m));
    tables = numbers 0 (length (tables_of m));
    mems = numbers 0 (length (memories_of m));
    globals = numbers 0 (length (globals_of m));
    elems = numbers 0 (length m.elems);
    datas = numbers 0 (length m.datas);
  }

  pub covers : Covers spaces m
  covers =
      let types = length-numbers 0 (length m.types) in
      let funcs = length-numbers 0 (length (funcs_of m)) in
      let tables = length-numbers 0 (length (tables_of m)) in
      let mems = length-numbers 0 (length (memories_of m)) in
      let globals = length-numbers 0 (length (globals_of m)) in
      let elems = length-numbers 0 (length m.elems) in
      let datas = length-numbers 0 (length m.datas) in
      record { types = omega (arith, types); funcs = omega (arith, funcs); tables = omega (arith, tables); memories = omega (arith, mems); globals = omega (arith, globals); elems = omega (arith, elems); datas = omega (arith, datas) }

  in_funcs : (i : ℕ) → with_entry spaces Functions i ≡ true → i < length (funcs_of m)
  in_funcs i h = let l = ltb-true _ _ h in let n = length-numbers 0 (length (funcs_of m)) in omega (arith, l, n)

  in_globals : (i : ℕ) → with_entry spaces Globals i ≡ true → i < length (globals_of m)
  in_globals i h = let l = ltb-true _ _ h in let n = length-numbers 0 (length (globals_of m)) in omega (arith, l, n)

  abbrev import_edges : Space → List (List Point)
  import_edges s = map (λ place. Import place ∷ []) (imports_into s m.imports)

  funcs_before : length (import_edges Functions) ≡ length (imported_funcs m.imports)
  funcs_before = length-map (imports_into Functions m.imports) (λ place. Import place ∷ []) ∙ places_many (has_kind Functions) (λ i. func_of i.desc) m.imports (λ i. grind arith) 0

  globals_before : length (import_edges Globals) ≡ length (imported_globals m.imports)
  globals_before = length-map (imports_into Globals m.imports) (λ place. Import place ∷ []) ∙ places_many (has_kind Globals) (λ i. global_of i.desc) m.imports (λ i. grind arith) 0

module _ (g : Graph) (m : Module) (r : Reached) (exact : AreExact g m r) (inside : PassesInside) (law : PassesLayerByLayer) (N : TreeNamesOnly (with_entry (spaces m)) m) where
  abbrev k : Marks
  k = marks_of r

  abbrev There : Point → Type 0
  There = PointExists (routes g m)

  -- ---- what is marked ----

  begins : (p : Point) → There p → Contains (roots g m) p → marked r p ≡ true
  begins p t c = (exact.exactly p).1 (root t c)

  goes : (p q : Point) → marked r p ≡ true → There q → Contains (edges g m p) q → marked r q ≡ true
  goes p q h t c = (exact.exactly q).1 (along ((exact.exactly p).0 h) t c)

  -- ---- roots ----

  abbrev elem_roots : List Point
  elem_roots = flat_map (λ s. elem_points s.mode s.items) m.elems

  abbrev data_roots : List Point
  data_roots = flat_map (λ s. data_points s.mode) m.datas

  in_module : (p : Point) → Contains (module_roots m) p → Contains (roots g m) p
  in_module p c = Contains-append_right (root_nodes g.nodes) (module_roots m) p c

  in_start : (p : Point) → Contains (start_points m.start) p → Contains (roots g m) p
  in_start p c = in_module p (Contains-append_left (start_points m.start) _ p c)

  in_imports : (p : Point) → Contains (import_points m.imports) p → Contains (roots g m) p
  in_imports p c = in_module p (Contains-append_right (start_points m.start) _ p (Contains-append_left (import_points m.imports) _ p c))

  in_elems : (p : Point) → Contains elem_roots p → Contains (roots g m) p
  in_elems p c = in_module p (Contains-append_right (start_points m.start) _ p (Contains-append_right (import_points m.imports) _ p (Contains-append_left elem_roots data_roots p c)))

  in_datas : (p : Point) → Contains data_roots p → Contains (roots g m) p
  in_datas p c = in_module p (Contains-append_right (start_points m.start) _ p (Contains-append_right (import_points m.imports) _ p (Contains-append_right elem_roots data_roots p c)))

  -- ---- edges of what the module defines ----

  func_edges : (n : ℕ) (f : Function) → slice_get m.funcs n ≡ Some f → edges g m (Func (length (imported_funcs m.imports) + n)) ≡ body_points f.body
  func_edges n f e =
      ap edges_of (ap (λ c. slice_get (from_funcs m) (c + n)) (sym (funcs_before m)) ∙ append_right (import_edges m Functions) (map (λ f. body_points f.body) m.funcs) n ∙ map_at (λ f. body_points f.body) m.funcs n f e)

  global_edges : (n : ℕ) (x : GlobalDef) → slice_get m.globals n ≡ Some x → edges g m (Global (length (imported_globals m.imports) + n)) ≡ const_points x.init
  global_edges n x e =
      ap edges_of (ap (λ c. slice_get (from_globals m) (c + n)) (sym (globals_before m)) ∙ append_right (import_edges m Globals) (map (λ x. const_points x.init) m.globals) n ∙ map_at (λ x. const_points x.init) m.globals n x e)

  -- ---- what names only what is marked ----

  const_marked : (e : ConstExpr) → ConstNamesOnly (with_entry (spaces m)) e → ((q : Point) → There q → const_point e ≡ Some q → marked r q ≡ true) → ConstNamesOnly (stays k) e
  const_marked (const.I32 v) h c = tt
  const_marked (const.I64 v) h c = tt
  const_marked (const.Null t) h c = tt
  const_marked (const.Func f) h c = c (Func f) (in_funcs m f h) refl
  const_marked (const.Global x) h c = c (Global x) (in_globals m x h) refl

  one_point : (e : ConstExpr) (q : Point) → const_point e ≡ Some q → Contains (const_points e) q
  one_point e q h = there_contains (const_points e) 0 q (ap (λ o. slice_get (cons_option o []) 0) h)

  abbrev is_there : Point → Bool
  is_there p = nat_lt (place_in_kind p) (point_count g m p)

  there_passes : (s : Space) (i : ℕ) → with_entry (spaces m) s i ≡ true → point_passes is_there (point_of s i) ≡ true
  there_passes Functions i h = lt-ltb _ _ (in_funcs m i h)
  there_passes Globals i h = lt-ltb _ _ (in_globals m i h)
  there_passes Types i h = refl
  there_passes Tables i h = refl
  there_passes Memories i h = refl
  there_passes ElementSegments i h = refl
  there_passes DataSegments i h = refl

  marked_stays : (s : Space) (i : ℕ) → point_passes (marked r) (point_of s i) ≡ true → stays k s i ≡ true
  marked_stays Functions i h = h
  marked_stays Globals i h = h
  marked_stays Types i h = refl
  marked_stays Tables i h = refl
  marked_stays Memories i h = refl
  marked_stays ElementSegments i h = refl
  marked_stays DataSegments i h = refl

  -- All points that a body names pass a test if each operand with an index that exists passes it.
  all_pass : (test : Point → Bool) → ((s : Space) (i : ℕ) → with_entry (spaces m) s i ≡ true → point_passes test (point_of s i) ≡ true) →
      (body : List Instr) → ListLayers (LayerNamesOnly (with_entry (spaces m))) body → list_all test (body_points body) ≡ true
  all_pass test follows body h =
      body_passes test inside body
      ∙ (law (passes test) body).1 (operands_follow (λ o. with_entry (spaces m) o.space o.index ≡ true) (λ o. passes test o ≡ true) (λ o. follows o.space o.index) body h)

  body_marked : (body : List Instr) → ListLayers (LayerNamesOnly (with_entry (spaces m))) body → ((q : Point) → There q → Contains (body_points body) q → marked r q ≡ true) → ListLayers (LayerNamesOnly (stays k)) body
  body_marked body h c =
      let all_there : list_all is_there (body_points body) ≡ true = all_pass is_there there_passes body h in
      let all_marked : list_all (marked r) (body_points body) ≡ true = list_all_from (marked r) (body_points body) (λ n q at. c q (ltb-true _ _ (list_all_each is_there (body_points body) all_there n q at)) (there_contains (body_points body) n q at)) in
      operands_follow (λ o. passes (marked r) o ≡ true) (λ o. stays k o.space o.index ≡ true) (λ o. marked_stays o.space o.index) body
      ((law (passes (marked r)) body).0 (sym (body_passes (marked r) inside body) ∙ all_marked))

  export_marked : (d : ExportDesc) → ExportNamesOnly (with_entry (spaces m)) d → ((q : Point) → There q → Contains (from_export d) q → marked r q ≡ true) → ExportNamesOnly (stays k) d
  export_marked (ex.Func f) h c = c (Func f) (in_funcs m f h) (there_contains (Func f ∷ []) 0 (Func f) refl)
  export_marked (ex.Table t) h c = refl
  export_marked (ex.Memory l) h c = refl
  export_marked (ex.Global x) h c = c (Global x) (in_globals m x h) (there_contains (Global x ∷ []) 0 (Global x) refl)

  ref_marked : (e : ConstExpr) → is_kept_ref k e ≡ true → ConstNamesOnly (stays k) e
  ref_marked (const.I32 v) h = tt
  ref_marked (const.I64 v) h = tt
  ref_marked (const.Null t) h = tt
  ref_marked (const.Func f) h = h
  ref_marked (const.Global x) h = absurd (true≢false (sym h))

  item_marked : (mode : ElemMode) (items : List ConstExpr) → ((q : Point) → There q → Contains (elem_points mode items) q → marked r q ≡ true) → ((p : ℕ) (e : ConstExpr) → slice_get items p ≡ Some e → ConstNamesOnly (with_entry (spaces m)) e) →
      (p : ℕ) (e : ConstExpr) → slice_get (kept_items k mode items) p ≡ Some e → ConstNamesOnly (stays k) e
  item_marked (elem.Active table offset) items c h p e at = const_marked e (h p e at) (λ q t is. c q t (Contains-append_right (const_points offset) (filter_map const_point items) q (contains_chosen const_point items p e q at is)))
  item_marked elem.Passive items c h p e at = const_marked e (h p e at) (λ q t is. c q t (contains_chosen const_point items p e q at is))
  item_marked elem.Declarative items c h p e at = ref_marked e (kept_is (is_kept_ref k) items p e at).0

  mode_marked : (mode : ElemMode) (items : List ConstExpr) → ((q : Point) → There q → Contains (elem_points mode items) q → marked r q ≡ true) → ElemModeNamesOnly (with_entry (spaces m)) mode → ElemModeNamesOnly (stays k) mode
  mode_marked (elem.Active table offset) items c h = (refl, const_marked offset h.1 (λ q t is. c q t (Contains-append_left (const_points offset) (filter_map const_point items) q (one_point offset q is))))
  mode_marked elem.Passive items c h = tt
  mode_marked elem.Declarative items c h = tt

  data_marked : (mode : DataMode) → ((q : Point) → There q → Contains (data_points mode) q → marked r q ≡ true) → DataModeNamesOnly (with_entry (spaces m)) mode → DataModeNamesOnly (stays k) mode
  data_marked («data».Active memory offset) c h = (refl, const_marked offset h.1 (λ q t is. c q t (one_point offset q is)))
  data_marked «data».Passive c h = tt

  import_marked : (d : ImportDesc) → ImportNamesOnly (stays k) d
  import_marked (im.Func ty) = refl
  import_marked (im.Table ty) = tt
  import_marked (im.Memory l) = tt
  import_marked (im.Global x) = tt

  elem_root : (i : ℕ) (a : ElemSeg) → slice_get m.elems i ≡ Some a → (q : Point) → There q → Contains (elem_points a.mode a.items) q → marked r q ≡ true
  elem_root i a at q t c = begins q t (in_elems q (contains_joined (λ s. elem_points s.mode s.items) m.elems i a q at c))

  names : TreeNamesOnly (stays k) (kept_tree k m)
  names = record {
    imports = λ i x at. import_marked x.desc;
    funcs = λ i f at.
        let p = kept_from (defined_funcs k m) m.funcs i f at in
        let is : marked r (Func (length (imported_funcs m.imports) + p.place)) ≡ true = sym (marked_drop k.funcs (length (imported_funcs m.imports)) p.place) ∙ p.yes in
        (refl, body_marked f.body (N.funcs p.place f p.is).1 (λ q t c. goes (Func (length (imported_funcs m.imports) + p.place)) q is t (subst (λ ps. Contains ps q) (sym (func_edges p.place f p.is)) c)));
    globals = λ i x at.
        let p = kept_from (defined_globals k m) m.globals i x at in
        let is : marked r (Global (length (imported_globals m.imports) + p.place)) ≡ true = sym (marked_drop k.globals (length (imported_globals m.imports)) p.place) ∙ p.yes in
        const_marked x.init (N.globals p.place x p.is) (λ q t e. goes (Global (length (imported_globals m.imports) + p.place)) q is t (subst (λ ps. Contains ps q) (sym (global_edges p.place x p.is)) (one_point x.init q e)));
    exports = λ i e at.
        let p = kept_from k.exports m.exports i e at in
        export_marked e.desc (N.exports p.place e p.is) (λ q t c. goes (Export p.place) q p.yes t (subst (λ o. Contains (edges_of (option_map (λ (x : ModuleExport). from_export x.desc) o)) q) (sym p.is) c));
    start = λ f at. begins (Func f) (in_funcs m f (N.start f at)) (in_start (Func f) (there_contains (start_points m.start) 0 (Func f) (ap (λ o. slice_get (start_points o) 0) at)));
    items = λ i p a e at got.
        let b = map_from (kept_elem k) m.elems i a at in
        item_marked b.0.mode b.0.items (elem_root i b.0 b.1) (λ p e h. N.items i p b.0 e b.1 h) p e (subst (λ (z : ElemSeg). slice_get z.items p ≡ Some e) (sym b.2) got);
    elem_modes = λ i a at.
        let b = map_from (kept_elem k) m.elems i a at in
        subst (λ (z : ElemSeg). ElemModeNamesOnly (stays k) z.mode) b.2 (mode_marked b.0.mode b.0.items (elem_root i b.0 b.1) (N.elem_modes i b.0 b.1));
    data_modes = λ i a at. data_marked a.mode (λ q t c. begins q t (in_datas q (contains_joined (λ s. data_points s.mode) m.datas i a q at c))) (N.data_modes i a at);
  }

  -- ---- what reaches an import ----

  passes_no_import : (s : Space) (i : ℕ) → point_passes no_import (point_of s i) ≡ true
  passes_no_import Functions i = refl
  passes_no_import Globals i = refl
  passes_no_import Types i = refl
  passes_no_import Tables i = refl
  passes_no_import Memories i = refl
  passes_no_import ElementSegments i = refl
  passes_no_import DataSegments i = refl

  body_no_import : (n : ℕ) (f : Function) → slice_get m.funcs n ≡ Some f → list_all no_import (body_points f.body) ≡ true
  body_no_import n f e = all_pass no_import (λ s i h. passes_no_import s i) f.body (N.funcs n f e).1

  items_no_import : (items : List ConstExpr) → list_all no_import (filter_map const_point items) ≡ true
  items_no_import items = all_chosen no_import const_point items const_no_import

  elem_no_import : (mode : ElemMode) (items : List ConstExpr) → list_all no_import (elem_points mode items) ≡ true
  elem_no_import (elem.Active table offset) items = list_all-append no_import (const_points offset) (filter_map const_point items) ∙ ap₂ (λ a b. a && b) (const_no_import offset) (items_no_import items)
  elem_no_import elem.Passive items = items_no_import items
  elem_no_import elem.Declarative items = refl

  data_no_import : (mode : DataMode) → list_all no_import (data_points mode) ≡ true
  data_no_import («data».Active memory offset) = const_no_import offset
  data_no_import «data».Passive = refl

  start_no_import : (o : Option ℕ) → list_all no_import (start_points o) ≡ true
  start_no_import None = refl
  start_no_import (Some f) = refl

  named_no_import : (name : Option (List ℕ)) → list_all no_import (export_of_node m.exports name) ≡ true
  named_no_import None = refl
  named_no_import (Some name) = by (export_place m.exports name)
    where
      by : (o : Option ℕ) → list_all no_import (cons_option (option_map Export o) []) ≡ true
      by None = refl
      by (Some i) = refl

  node_no_import : (o : Option GraphNode) → list_all no_import (edges_of (option_map (from_node m.exports) o)) ≡ true
  node_no_import None = refl
  node_no_import (Some n) = list_all-append no_import (map Node n.reaches) (export_of_node m.exports n.export) ∙ ap₂ (λ a b. a && b) (all_mapped no_import Node n.reaches (λ i. refl)) (named_no_import n.export)

  export_no_import : (o : Option ModuleExport) → list_all no_import (edges_of (option_map (λ (e : ModuleExport). from_export e.desc) o)) ≡ true
  export_no_import None = refl
  export_no_import (Some e) = by e.desc
    where
      by : (d : ExportDesc) → list_all no_import (from_export d) ≡ true
      by (ex.Func f) = refl
      by (ex.Table t) = refl
      by (ex.Memory l) = refl
      by (ex.Global x) = refl

  import_no_import : (o : Option ModuleImport) → list_all no_import (edges_of (option_map (from_import g.nodes) o)) ≡ true
  import_no_import None = refl
  import_no_import (Some i) = all_mapped no_import Node (places (denotes_import i) g.nodes 0) (λ n. refl)

  fails : {A : Type 0} (ps : List Point) (n : ℕ) → list_all no_import ps ≡ true → Contains ps (Import n) → A
  fails ps n h c = absurd (true≢false (sym (none_fails no_import ps (Import n) h c)))

  -- A marked import is a root, or it is reached from the entry that it adds to the index space of
  -- functions or of globals.
  data Source (n : ℕ) : Type 0 where
    rooted : (x : ModuleImport) → slice_get m.imports n ≡ Some x → stays_imported (space_of_import x.desc) ≡ true → Source n
    by_func : (i : ℕ) → slice_get (imports_into Functions m.imports) i ≡ Some n → marked r (Func i) ≡ true → Source n
    by_global : (i : ℕ) → slice_get (imports_into Globals m.imports) i ≡ Some n → marked r (Global i) ≡ true → Source n

  rooted_import : (n : ℕ) → Contains (import_points m.imports) (Import n) → Source n
  rooted_import n c =
      let p = has (import_points m.imports) (Import n) c in
      let q = map_from Import (places (λ i. stays_imported (space_of_import i.desc)) m.imports 0) p.0 (Import n) p.1 in
      let b = place_back (λ i. stays_imported (space_of_import i.desc)) m.imports 0 p.0 q.0 q.1 in
      let same : q.0 ≡ n = ap place_in_kind q.2 in
      let at = b.2 in
      let here : b.0 ≡ n = omega (arith, same, at) in
      rooted b.1 (ap (slice_get m.imports) (sym here) ∙ b.3) b.4

  root_source : (n : ℕ) → Contains (roots g m) (Import n) → Source n
  root_source n c =
      ⊎_elim (fails (root_nodes g.nodes) n (all_mapped no_import Node (places (λ x. x.root) g.nodes 0) (λ i. refl)))
      (λ c. ⊎_elim (fails (start_points m.start) n (start_no_import m.start))
      (λ c. ⊎_elim (rooted_import n)
      (λ c. ⊎_elim (fails elem_roots n (all_joined no_import (λ s. elem_points s.mode s.items) m.elems (λ s. elem_no_import s.mode s.items)))
      (fails data_roots n (all_joined no_import (λ s. data_points s.mode) m.datas (λ s. data_no_import s.mode)))
      (Contains-append_cases elem_roots data_roots (Import n) c))
      (Contains-append_cases (import_points m.imports) _ (Import n) c))
      (Contains-append_cases (start_points m.start) _ (Import n) c))
      (Contains-append_cases (root_nodes g.nodes) (module_roots m) (Import n) c)

  one_import : (place n : ℕ) (ps : List Point) → Import place ∷ [] ≡ ps → Contains ps (Import n) → place ≡ n
  one_import place n ps same c =
      let p = has (Import place ∷ []) (Import n) (subst (λ z. Contains z (Import n)) (sym same) c) in
      by p.0 p.1
    where
      by : (i : ℕ) → slice_get (Import place ∷ []) i ≡ Some (Import n) → place ≡ n
      by zero h = let e : Import place ≡ Import n = cc in ap place_in_kind e
      by (suc i) h = absurd (let k = h in cc)

  func_source : (n i : ℕ) → marked r (Func i) ≡ true → (o : Option (List Point)) → slice_get (from_funcs m) i ≡ o → Contains (edges_of o) (Import n) → Source n
  func_source n i h None e c = fails [] n refl c
  func_source n i h (Some ps) e c =
      ⊎_elim (λ l. let p = map_from (λ place. Import place ∷ []) (imports_into Functions m.imports) i ps l in by_func i (p.1 ∙ ap Some (one_import p.0 n ps p.2 c)) h)
      (λ l. let p = map_from (λ f. body_points f.body) m.funcs l.0 ps l.2 in fails ps n (subst (λ z. list_all no_import z ≡ true) p.2 (body_no_import l.0 p.0 p.1)) c)
      (append_from (import_edges m Functions) (map (λ f. body_points f.body) m.funcs) i ps e)

  global_source : (n i : ℕ) → marked r (Global i) ≡ true → (o : Option (List Point)) → slice_get (from_globals m) i ≡ o → Contains (edges_of o) (Import n) → Source n
  global_source n i h None e c = fails [] n refl c
  global_source n i h (Some ps) e c =
      ⊎_elim (λ l. let p = map_from (λ place. Import place ∷ []) (imports_into Globals m.imports) i ps l in by_global i (p.1 ∙ ap Some (one_import p.0 n ps p.2 c)) h)
      (λ l. let p = map_from (λ x. const_points x.init) m.globals l.0 ps l.2 in fails ps n (subst (λ z. list_all no_import z ≡ true) p.2 (const_no_import p.0.init)) c)
      (append_from (import_edges m Globals) (map (λ x. const_points x.init) m.globals) i ps e)

  edge_source : (n : ℕ) (p : Point) → marked r p ≡ true → Contains (edges g m p) (Import n) → Source n
  edge_source n (Node i) h c = fails (edges g m (Node i)) n (node_no_import (slice_get g.nodes i)) c
  edge_source n (Export i) h c = fails (edges g m (Export i)) n (export_no_import (slice_get m.exports i)) c
  edge_source n (Import i) h c = fails (edges g m (Import i)) n (import_no_import (slice_get m.imports i)) c
  edge_source n (Func i) h c = func_source n i h (slice_get (from_funcs m) i) refl c
  edge_source n (Global i) h c = global_source n i h (slice_get (from_globals m) i) refl c

  source : (n : ℕ) → marked r (Import n) ≡ true → Source n
  source n h = by ((exact.exactly (Import n)).0 h)
    where
      by : IsReached g m (Import n) → Source n
      by (root t c) = root_source n c
      by (along {p = p} before t c) = edge_source n p ((exact.exactly p).1 before) c

  -- ---- an import is kept exactly where its entity is ----

  record Placed (s : Space) (n : ℕ) : Type 0 where
    import : ModuleImport
    at : slice_get m.imports n ≡ Some import
    is : same_space s (space_of_import import.desc) ≡ true

  placed : (s : Space) (i n : ℕ) → slice_get (imports_of s m) i ≡ Some n → Placed s n
  placed s i n h =
      let b = place_back (has_kind s) m.imports 0 i n h in
      let at = b.2 in
      let here : b.0 ≡ n = omega (arith, at) in
      record { import = b.1; at = ap (slice_get m.imports) (sym here) ∙ b.3; is = b.4 }

  conflict : {A : Type 0} (s t : Space) (n : ℕ) → Placed s n → Placed t n → (s ≡ t → ⊥) → A
  conflict s t n p q apart =
      let same : p.import ≡ q.import = cc in
      absurd (apart (one_kind q.import.desc s t (subst (λ (x : ModuleImport). same_space s (space_of_import x.desc) ≡ true) same p.is) q.is))

  not_rooted : {A : Type 0} (s : Space) (n : ℕ) → Placed s n → (x : ModuleImport) → slice_get m.imports n ≡ Some x → stays_imported (space_of_import x.desc) ≡ true → stays_imported s ≡ false → A
  not_rooted s n p x at h none =
      let same : x ≡ p.import = cc in
      absurd (true≢false (sym (no_other p.import.desc s p.is (subst (λ (z : ModuleImport). stays_imported (space_of_import z.desc) ≡ true) same h)) ∙ none))

  import_there : (s : Space) (n : ℕ) → Placed s n → There (Import n)
  import_there s n p = slice_get_within m.imports n p.import p.at

  func_imported : (i n : ℕ) → slice_get (imports_of Functions m) i ≡ Some n → is_marked k.imports n ≡ is_marked k.funcs i
  func_imported i n h = same_tests (is_marked k.imports n) (is_marked k.funcs i) (λ e. by (source n e)) (λ e. goes (Func i) (Import n) e (import_there Functions n (placed Functions i n h)) (subst (λ ps. Contains ps (Import n)) (sym edge) (there_contains (Import n ∷ []) 0 (Import n) refl)))
    where
      edge : edges g m (Func i) ≡ Import n ∷ []
      edge = ap edges_of (append_at_left (import_edges m Functions) (map (λ f. body_points f.body) m.funcs) i (Import n ∷ []) (map_at (λ place. Import place ∷ []) (imports_into Functions m.imports) i n h))

      by : Source n → is_marked k.funcs i ≡ true
      by (rooted x at e) = not_rooted Functions n (placed Functions i n h) x at e refl
      by (by_func j at e) = ap (is_marked k.funcs) (places_apart (has_kind Functions) m.imports 0 i j n h at) ∙ e
      by (by_global j at e) = conflict Functions Globals n (placed Functions i n h) (placed Globals j n at) (λ z. cc)

  global_imported : (i n : ℕ) → slice_get (imports_of Globals m) i ≡ Some n → is_marked k.imports n ≡ is_marked k.globals i
  global_imported i n h = same_tests (is_marked k.imports n) (is_marked k.globals i) (λ e. by (source n e)) (λ e. goes (Global i) (Import n) e (import_there Globals n (placed Globals i n h)) (subst (λ ps. Contains ps (Import n)) (sym edge) (there_contains (Import n ∷ []) 0 (Import n) refl)))
    where
      edge : edges g m (Global i) ≡ Import n ∷ []
      edge = ap edges_of (append_at_left (import_edges m Globals) (map (λ x. const_points x.init) m.globals) i (Import n ∷ []) (map_at (λ place. Import place ∷ []) (imports_into Globals m.imports) i n h))

      by : Source n → is_marked k.globals i ≡ true
      by (rooted x at e) = not_rooted Globals n (placed Globals i n h) x at e refl
      by (by_func j at e) = conflict Globals Functions n (placed Globals i n h) (placed Functions j n at) (λ z. cc)
      by (by_global j at e) = ap (is_marked k.globals) (places_apart (has_kind Globals) m.imports 0 i j n h at) ∙ e

  -- Imports of tables and of memories are roots, so they are always marked.
  always_imported : (s : Space) (i n : ℕ) → slice_get (imports_of s m) i ≡ Some n → stays_imported s ≡ true → is_marked k.imports n ≡ true
  always_imported s i n h stay =
      let p = placed s i n h in
      let q = place_there (λ i. stays_imported (space_of_import i.desc)) m.imports 0 n p.import p.at (stays_too p.import.desc s p.is stay) in
      begins (Import n) (import_there s n p) (in_imports (Import n) (there_contains (import_points m.imports) q.0 (Import n) (map_at Import (places (λ i. stays_imported (space_of_import i.desc)) m.imports 0) q.0 (0 + n) q.1 ∙ ap (λ x. Some (Import x)) (let z : 0 + n ≡ n = omega arith in z))))

  imported : (s : Space) (i n : ℕ) → slice_get (imports_of s m) i ≡ Some n → is_marked k.imports n ≡ stays k s i
  imported Functions i n h = func_imported i n h
  imported Globals i n h = global_imported i n h
  imported Tables i n h = always_imported Tables i n h refl
  imported Memories i n h = always_imported Memories i n h refl
  imported Types i n h = let p = placed Types i n h in let is : same_space Types (space_of_import p.import.desc) ≡ true = p.is in absurd (grind arith)
  imported ElementSegments i n h = let p = placed ElementSegments i n h in let is : same_space ElementSegments (space_of_import p.import.desc) ≡ true = p.is in absurd (grind arith)
  imported DataSegments i n h = let p = placed DataSegments i n h in let is : same_space DataSegments (space_of_import p.import.desc) ≡ true = p.is in absurd (grind arith)

  pub closed : AreClosed k m
  closed = record {
    exports_many = exact.one_each (Export 0);
    imports_many = exact.one_each (Import 0);
    funcs_many = exact.one_each (Func 0);
    globals_many = exact.one_each (Global 0);
    imported = imported;
    names = names;
  }
