-- Edges and roots that are imports.
use Rattle.base_lists.proofs.Common.{◌≡◌, ◌∙◌, sym, ap, refl, subst, ℕ, zero, suc, ◌+◌, List, [], ◌∷◌, ◌++◌, map, Bool, true, Option, Some, None, slice_get, ◌⊎◌, inl, inr, ⊎_elim, arith, ◌↔◌, Contains, option_map, cons_option, filter_map, flat_map, Contains-append_left, Contains-append_right}
use Rattle.base_lists.proofs.Common.{Contains-append_cases, slice_get_within, every_at, place_back, place_there, map_at, map_from, append_at_left, append_from}
use Rattle.base_lists.proofs.Filtered.{places_apart}
use Rattle.base_lists.specs.Every.{Every}
use Rattle.base_lists.specs.Places.{places}
use Rattle.wasm_tree_spec.specs.Prelude.{Space, Types, Functions, Tables, Memories, Globals, ElementSegments, DataSegments, Operand, ConstExpr, DataMode, ElemMode, ExportDesc, GlobalDef, ImportDesc, Module, same_space, space_of_import}
use Rattle.wasm_tree.specs.declared.module.ConstExpr.TheVariants as const
use Rattle.wasm_tree.specs.declared.module.DataMode.TheVariants as «data»
use Rattle.wasm_tree.specs.declared.module.ElemMode.TheVariants as elem
use Rattle.wasm_tree.specs.declared.module.Export.{Export as ModuleExport}
use Rattle.wasm_tree.specs.declared.module.ExportDesc.TheVariants as export
use Rattle.wasm_tree.specs.declared.module.Func.{Func as ModuleFunc}
use Rattle.wasm_tree.specs.declared.module.Import.{Import as ModuleImport}
use Rattle.wasm_tree.specs.declared.module.ImportDesc.TheVariants as im
use Rattle.dce_graph.specs.declared.graph.Graph.{Graph}
use Rattle.dce_graph.specs.declared.point.Point.{Point}
use Rattle.dce_graph.specs.declared.point.Point.TheVariants.{Node, Export, Import, Func, Global}
use Rattle.dce_graph.specs.Prelude.{Text, IsReached, root, along, roots, edges, operand_point, body_points, body_operands, const_point, const_points, imports_into, export_place, export_of_node, from_node, from_import, stays_imported, denotes_import, elem_points, data_points, root_nodes}
use Rattle.dce_graph.specs.Prelude.{start_points, import_points}
use Rattle.dce_graph.specs.Reach.{point_of, from_export, from_funcs, from_globals, edges_of}
use Rattle.dce_graph.proofs.Marking.{nowhere, alone, only_one}

-- ---- lists without imports ----

abbrev NoImport : Point → Type 0
NoImport (Node i) = Unit {0}
NoImport (Export i) = Unit {0}
NoImport (Import i) = ⊥
NoImport (Func i) = Unit {0}
NoImport (Global i) = Unit {0}

none_there : (ps : List Point) → Every NoImport ps → (n : ℕ) → Contains ps (Import n) → ⊥
none_there [] e n h = nowhere (Import n) h
none_there (p ∷ ps) e n h = ⊎_elim (λ k. subst NoImport (alone p (Import n) k) e.0) (λ k. none_there ps e.1 n k) (Contains-append_cases (p ∷ []) ps (Import n) h)

both : (ps qs : List Point) → Every NoImport ps → Every NoImport qs → Every NoImport (ps ++ qs)
both [] qs e f = f
both (p ∷ ps) qs e f = (e.0, both ps qs e.1 f)

flat : {A : Type 0} (f : A → List Point) (xs : List A) → ((x : A) → Every NoImport (f x)) → Every NoImport (flat_map f xs)
flat f [] h = tt
flat f (x ∷ xs) h = both (f x) (flat_map f xs) (h x) (flat f xs h)

nodes : (is : List ℕ) → Every NoImport (map Node is)
nodes [] = tt
nodes (i ∷ is) = (tt, nodes is)

one_operand : (s : Space) (i : ℕ) (ps : List Point) → Every NoImport ps → Every NoImport (cons_option (point_of s i) ps)
one_operand Types i ps e = e
one_operand Functions i ps e = (tt, e)
one_operand Tables i ps e = e
one_operand Memories i ps e = e
one_operand Globals i ps e = (tt, e)
one_operand ElementSegments i ps e = e
one_operand DataSegments i ps e = e

named : (os : List Operand) → Every NoImport (filter_map operand_point os)
named [] = tt
named (o ∷ os) = one_operand o.space o.index (filter_map operand_point os) (named os)

one_const : (c : ConstExpr) (ps : List Point) → Every NoImport ps → Every NoImport (cons_option (const_point c) ps)
one_const (const.I32 v) ps e = e
one_const (const.I64 v) ps e = e
one_const (const.Null t) ps e = e
one_const (const.Func f) ps e = (tt, e)
one_const (const.Global g) ps e = (tt, e)

consts : (cs : List ConstExpr) → Every NoImport (filter_map const_point cs)
consts [] = tt
consts (c ∷ cs) = one_const c (filter_map const_point cs) (consts cs)

of_elem : (mode : ElemMode) (items : List ConstExpr) → Every NoImport (elem_points mode items)
of_elem (elem.Active table offset) items = both (const_points offset) (filter_map const_point items) (one_const offset [] tt) (consts items)
of_elem elem.Passive items = consts items
of_elem elem.Declarative items = tt

of_data : (mode : DataMode) → Every NoImport (data_points mode)
of_data («data».Active memory offset) = one_const offset [] tt
of_data «data».Passive = tt

of_start : (start : Option ℕ) → Every NoImport (start_points start)
of_start None = tt
of_start (Some f) = (tt, tt)

of_place : (o : Option ℕ) → Every NoImport (cons_option (option_map Export o) [])
of_place None = tt
of_place (Some n) = (tt, tt)

of_name : (exports : List ModuleExport) (name : Option Text) → Every NoImport (export_of_node exports name)
of_name exports None = tt
of_name exports (Some t) = of_place (export_place exports t)

of_export : (d : ExportDesc) → Every NoImport (from_export d)
of_export (export.Func i) = (tt, tt)
of_export (export.Table i) = tt
of_export (export.Memory i) = tt
of_export (export.Global i) = (tt, tt)

-- ---- edges to imports ----

-- Import `n` adds entry `i` to the index space.
abbrev Adds : Module → Space → ℕ → ℕ → Type 0
Adds m space i n = slice_get (imports_into space m.imports) i ≡ Some n

abbrev FromEntry : Module → ℕ → Point → Type 0
FromEntry m n p = ((i : ℕ) × (p ≡ Func i) × Adds m Functions i n) ⊎ ((i : ℕ) × (p ≡ Global i) × Adds m Globals i n)

import_is : (k n : ℕ) → Import k ≡ Import n → k ≡ n
import_is k n e = cc

in_row : (places_in : List ℕ) (others : List (List Point)) → Every (Every NoImport) others → (i n : ℕ) (o : Option (List Point)) → slice_get (map (λ place. Import place ∷ []) places_in ++ others) i ≡ o → Contains (edges_of o) (Import n)
    → slice_get places_in i ≡ Some n
in_row places_in others none i n None e h = absurd (nowhere (Import n) h)
in_row places_in others none i n (Some ps) e h = ⊎_elim
    (λ at.
    let r = map_from (λ place. Import place ∷ []) places_in i ps at in
    let same : Import r.0 ≡ Import n = alone (Import r.0) (Import n) (subst (λ qs. Contains qs (Import n)) (sym r.2) h) in
    r.1 ∙ ap Some (import_is r.0 n same))
    (λ at. absurd (none_there ps (every_row others none at.0 ps at.2) n h))
    (append_from (map (λ place. Import place ∷ []) places_in) others i ps e)
  where
    every_row : (rows : List (List Point)) → Every (Every NoImport) rows → (k : ℕ) (qs : List Point) → slice_get rows k ≡ Some qs → Every NoImport qs
    every_row rows all k qs at = every_at (Every NoImport) rows k qs all at

bodies : (fs : List ModuleFunc) → Every (Every NoImport) (map (λ f. body_points f.body) fs)
bodies [] = tt
bodies (f ∷ fs) = (named (body_operands f.body), bodies fs)

initialisers : (gs : List GlobalDef) → Every (Every NoImport) (map (λ g. const_points g.init) gs)
initialisers [] = tt
initialisers (g ∷ gs) = (one_const g.init [] tt, initialisers gs)

if_there : {A : Type 0} (f : A → List Point) → ((x : A) → Every NoImport (f x)) → (o : Option A) → Every NoImport (edges_of (option_map f o))
if_there f h None = tt
if_there f h (Some x) = h x

edge_to_import : (g : Graph) (m : Module) (p : Point) (n : ℕ) → Contains (edges g m p) (Import n) → FromEntry m n p
edge_to_import g m (Node i) n h = absurd (none_there (edges g m (Node i)) (if_there (from_node m.exports) (λ x. both (map Node x.reaches) (export_of_node m.exports x.export) (nodes x.reaches) (of_name m.exports x.export)) (slice_get g.nodes i)) n h)
edge_to_import g m (Export i) n h = absurd (none_there (edges g m (Export i)) (if_there (λ e. from_export e.desc) (λ e. of_export e.desc) (slice_get m.exports i)) n h)
edge_to_import g m (Import i) n h = absurd (none_there (edges g m (Import i)) (if_there (from_import g.nodes) (λ x. nodes (places (denotes_import x) g.nodes 0)) (slice_get m.imports i)) n h)
edge_to_import g m (Func i) n h = inl (i, refl, in_row (imports_into Functions m.imports) (map (λ f. body_points f.body) m.funcs) (bodies m.funcs) i n (slice_get (from_funcs m) i) refl h)
edge_to_import g m (Global i) n h = inr (i, refl, in_row (imports_into Globals m.imports) (map (λ x. const_points x.init) m.globals) (initialisers m.globals) i n (slice_get (from_globals m) i) refl h)

-- ---- roots that are imports ----

in_places : (is : List ℕ) (n : ℕ) → Contains (map Import is) (Import n) → (k : ℕ) × (slice_get is k ≡ Some n)
in_places [] n h = absurd (nowhere (Import n) h)
in_places (i ∷ is) n h = ⊎_elim
    (λ k. (0, ap Some (import_is i n (alone (Import i) (Import n) k))))
    (λ k. let r = in_places is n k in (suc r.0, r.1))
    (Contains-append_cases (Import i ∷ []) (map Import is) (Import n) h)

-- Import `n` exists and passes the test.
abbrev Passes : Module → ℕ → (ModuleImport → Bool) → Type 0
Passes m n test = (d : ModuleImport) × (slice_get m.imports n ≡ Some d) × (test d ≡ true)

placed : (m : Module) (test : ModuleImport → Bool) (i n : ℕ) → slice_get (places test m.imports 0) i ≡ Some n → Passes m n test
placed m test i n h =
    let r = place_back test m.imports 0 i n h in
    let same : r.0 ≡ n = let e = r.2 in omega (arith, e) in
    (r.1, subst (λ k. slice_get m.imports k ≡ Some r.1) same r.3, r.4)

abbrev is_staying : ModuleImport → Bool
is_staying d = stays_imported (space_of_import d.desc)

root_import : (g : Graph) (m : Module) (n : ℕ) → Contains (roots g m) (Import n) → Passes m n is_staying
root_import g m n h =
    let first = root_nodes g.nodes in
    let start = start_points m.start in
    let imports = import_points m.imports in
    let elems = flat_map (λ s. elem_points s.mode s.items) m.elems in
    let datas = flat_map (λ s. data_points s.mode) m.datas in
    let segments = both elems datas (flat (λ s. elem_points s.mode s.items) m.elems (λ s. of_elem s.mode s.items)) (flat (λ s. data_points s.mode) m.datas (λ s. of_data s.mode)) in
    ⊎_elim
    (λ k. absurd (none_there first (nodes (places (λ x. x.root) g.nodes 0)) n k))
    (λ k. ⊎_elim
    (λ l. absurd (none_there start (of_start m.start) n l))
    (λ l. ⊎_elim
    (λ q. let r = in_places (places is_staying m.imports 0) n q in placed m is_staying r.0 n r.1)
    (λ q. absurd (none_there (elems ++ datas) segments n q))
    (Contains-append_cases imports (elems ++ datas) (Import n) l))
    (Contains-append_cases start (imports ++ (elems ++ datas)) (Import n) k))
    (Contains-append_cases first (start ++ (imports ++ (elems ++ datas))) (Import n) h)

-- ---- an import and what it adds ----

no_func_stays : (d : ImportDesc) → same_space Functions (space_of_import d) ≡ true → stays_imported (space_of_import d) ≡ true → ⊥
no_func_stays (im.Func t) e f = cc
no_func_stays (im.Table t) e f = cc
no_func_stays (im.Memory l) e f = cc
no_func_stays (im.Global t) e f = cc

no_global_stays : (d : ImportDesc) → same_space Globals (space_of_import d) ≡ true → stays_imported (space_of_import d) ≡ true → ⊥
no_global_stays (im.Func t) e f = cc
no_global_stays (im.Table t) e f = cc
no_global_stays (im.Memory l) e f = cc
no_global_stays (im.Global t) e f = cc

not_of_both : (d : ImportDesc) → same_space Functions (space_of_import d) ≡ true → same_space Globals (space_of_import d) ≡ true → ⊥
not_of_both (im.Func t) e f = cc
not_of_both (im.Table t) e f = cc
not_of_both (im.Memory l) e f = cc
not_of_both (im.Global t) e f = cc

-- An import at one place that passes each of two tests is one import that passes both.
both_pass : (m : Module) (n : ℕ) (s t : ModuleImport → Bool) → Passes m n s → Passes m n t → (d : ModuleImport) × (s d ≡ true) × (t d ≡ true)
both_pass m n s t a b =
    let same : a.0 ≡ b.0 = cc (sym a.1 ∙ b.1) in
    (a.0, a.2, subst (λ d. t d ≡ true) (sym same) b.2)

abbrev into : Space → ModuleImport → Bool
into space d = same_space space (space_of_import d.desc)

back_to_func : (g : Graph) (m : Module) (i n : ℕ) → Adds m Functions i n → (p : Point) → IsReached g m p → p ≡ Import n → IsReached g m (Func i)
back_to_func g m i n at p (root th h) e =
    let r = both_pass m n (into Functions) is_staying (placed m (into Functions) i n at) (root_import g m n (subst (Contains (roots g m)) e h)) in
    absurd (no_func_stays r.0.desc r.1 r.2)
back_to_func g m i n at q (along {p = p} before th h) e = ⊎_elim
    (λ f. subst (IsReached g m) (f.1 ∙ ap Func (places_apart (into Functions) m.imports 0 f.0 i n f.2 at)) before)
    (λ f. let r = both_pass m n (into Functions) (into Globals) (placed m (into Functions) i n at) (placed m (into Globals) f.0 n f.2) in absurd (not_of_both r.0.desc r.1 r.2))
    (edge_to_import g m p n (subst (Contains (edges g m p)) e h))

back_to_global : (g : Graph) (m : Module) (i n : ℕ) → Adds m Globals i n → (p : Point) → IsReached g m p → p ≡ Import n → IsReached g m (Global i)
back_to_global g m i n at p (root th h) e =
    let r = both_pass m n (into Globals) is_staying (placed m (into Globals) i n at) (root_import g m n (subst (Contains (roots g m)) e h)) in
    absurd (no_global_stays r.0.desc r.1 r.2)
back_to_global g m i n at q (along {p = p} before th h) e = ⊎_elim
    (λ f. let r = both_pass m n (into Functions) (into Globals) (placed m (into Functions) f.0 n f.2) (placed m (into Globals) i n at) in absurd (not_of_both r.0.desc r.1 r.2))
    (λ f. subst (IsReached g m) (f.1 ∙ ap Global (places_apart (into Globals) m.imports 0 f.0 i n f.2 at)) before)
    (edge_to_import g m p n (subst (Contains (edges g m p)) e h))

row_at : (is : List ℕ) (others : List (List Point)) (i n : ℕ) → slice_get is i ≡ Some n → Contains (edges_of (slice_get (map (λ place. Import place ∷ []) is ++ others) i)) (Import n)
row_at is others i n at =
    subst (λ o. Contains (edges_of o) (Import n)) (sym (append_at_left (map (λ place. Import place ∷ []) is) others i (Import n ∷ []) (map_at (λ place. Import place ∷ []) is i n at))) (only_one (Import n))

pub funcs_together : (g : Graph) (m : Module) (i n : ℕ) → slice_get (imports_into Functions m.imports) i ≡ Some n → IsReached g m (Import n) ↔ IsReached g m (Func i)
funcs_together g m i n at =
    let there = placed m (into Functions) i n at in
    (λ h. back_to_func g m i n at (Import n) h refl, λ h. along h (slice_get_within m.imports n there.0 there.1) (row_at (imports_into Functions m.imports) (map (λ f. body_points f.body) m.funcs) i n at))

pub globals_together : (g : Graph) (m : Module) (i n : ℕ) → slice_get (imports_into Globals m.imports) i ≡ Some n → IsReached g m (Import n) ↔ IsReached g m (Global i)
globals_together g m i n at =
    let there = placed m (into Globals) i n at in
    (λ h. back_to_global g m i n at (Import n) h refl, λ h. along h (slice_get_within m.imports n there.0 there.1) (row_at (imports_into Globals m.imports) (map (λ x. const_points x.init) m.globals) i n at))

stays_root : (is : List ℕ) (k n : ℕ) → slice_get is k ≡ Some n → Contains (map Import is) (Import n)
stays_root [] k n h = cc
stays_root (i ∷ is) zero n h = let same : i ≡ n = cc in subst (λ x. Contains (Import i ∷ map Import is) (Import x)) same (Contains-append_left (Import i ∷ []) (map Import is) (Import i) (only_one (Import i)))
stays_root (i ∷ is) (suc k) n h = Contains-append_right (Import i ∷ []) (map Import is) (Import n) (stays_root is k n h)

pub staying_reached : (g : Graph) (m : Module) (n : ℕ) (d : ModuleImport) → slice_get m.imports n ≡ Some d → stays_imported (space_of_import d.desc) ≡ true → IsReached g m (Import n)
staying_reached g m n d at stays =
    let r = place_there is_staying m.imports 0 n d at stays in
    let at_n : slice_get (places is_staying m.imports 0) r.0 ≡ Some n = r.1 ∙ ap Some (let e : 0 + n ≡ n = omega arith in e) in
    let first = root_nodes g.nodes in
    let start = start_points m.start in
    let imports = import_points m.imports in
    let rest = flat_map (λ s. elem_points s.mode s.items) m.elems ++ flat_map (λ s. data_points s.mode) m.datas in
    root (slice_get_within m.imports n d at)
    (Contains-append_right first (start ++ (imports ++ rest)) (Import n) (Contains-append_right start (imports ++ rest) (Import n) (Contains-append_left imports rest (Import n) (stays_root (places is_staying m.imports 0) r.0 n at_n))))
