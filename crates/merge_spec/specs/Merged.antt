-- The merged module: its lists are filtered or joined from the parts' lists, and its indices are
-- places in these.
use Rattle.std.specs.Prelude.{ℕ, suc, ◌+◌, ◌-◌, List, [], ◌∷◌, ◌++◌, map, filter, length, Option, Some, None, Bool, false, cond, slice_index, slice_get, unwrap_or}
use Rattle.wasm_tree_spec.specs.Prelude.{Space, Functions, Tables, Memories, Globals, DataSegments, ElementSegments, FuncType, Import, ImportDesc, Export, ConstExpr, Func, GlobalDef, ElemSeg}
use Rattle.wasm_tree_spec.specs.Prelude.{ElemMode, DataSeg, DataMode, Module, Call, funcs_of, tables_of, memories_of, globals_of, index_of_export, same_func_type}
use Rattle.base_lists.specs.Options.{◌>>=◌}
use Rattle.std.specs.List.{flat_map, filter_map, list_any}
use Rattle.wasm_tree.specs.declared.module.ImportDesc.TheVariants as im
use Rattle.wasm_tree.specs.declared.module.ElemMode.TheVariants as elem
use Rattle.wasm_tree.specs.declared.module.DataMode.TheVariants as data'
use Rattle.wasm_meaning.specs.Prelude.{Text, defined_before, numbers, Part, Site, End, Defined, Outside, Read, first_place, has_kind, module_at, import_at, imports_of, same_site, sites, linked_end}
use Rattle.wasm_meaning.specs.Prelude.{met_limits, read_of}
use Rattle.index_remap.specs.declared.remap.Remap.{Remap}
use Rattle.index_remap.specs.Prelude.{new_const, new_func, new_export}
use Rattle.merge_spec.specs.Faults.{stays}

-- ---- what stays, and places in the merged index spaces ----

-- the staying imports, part by part, in order
unfoldable pub staying : List Part → List Site
staying parts = filter (stays parts) (sites parts)

abbrev pub imports_kind : List Part → Space → Site → Bool
imports_kind parts k s = unwrap_or (import_at parts s >>= λ i. Some (has_kind k i)) false

-- the staying imports of one kind, which come first in that kind's index space
unfoldable pub staying_of : List Part → Space → List Site
staying_of parts k = filter (imports_kind parts k) (staying parts)

abbrev pub imported_count : List Part → ℕ → Space → ℕ
imported_count parts p k = unwrap_or (module_at parts p >>= λ m. Some (length (imports_of k m))) 0

-- the place in the merged index space of what part `p` defines at its own index `i`: after the
-- staying imports, and after what the parts before it define
abbrev pub place_of_defined : List Part → Space → (part index : ℕ) → ℕ
place_of_defined parts k p i = length (staying_of parts k) + (defined_before k parts p + (i - imported_count parts p k))

-- the place of an end in the merged index space of its kind
unfoldable pub place_of_end : List Part → Space → End → ℕ
place_of_end parts k (Outside s) = unwrap_or (first_place (same_site s) (staying_of parts k) 0) 0
place_of_end parts k (Defined e) = place_of_defined parts k e.part (index_of_export e.what)

-- the place in the merged index space of entry `i` of part `p`: the part defines the entry, or it
-- is the part's import at place `n`
abbrev pub place_of_entry : List Part → (part : ℕ) → Space → (index : ℕ) → (import : Option ℕ) → Option ℕ
place_of_entry parts p k i None = Some (place_of_defined parts k p i)
place_of_entry parts p k i (Some n) = linked_end parts (record { part = p; import = n }) >>= λ end. Some (place_of_end parts k end)

-- the index in the merged module of entry `i` of part `p`
unfoldable pub new_index : List Part → ℕ → Space → ℕ → ℕ
new_index parts p k i = unwrap_or (module_at parts p >>= λ m. place_of_entry parts p k i (slice_get (imports_of k m) i)) 0

-- ---- types ----

-- the list with one more type, if it is not there yet
abbrev pub with_type : List FuncType → FuncType → List FuncType
with_type ts t = cond (list_any (same_func_type t) ts) ts (ts ++ t ∷ [])

-- the list with the further types that are not there yet, in order of first appearance
abbrev pub with_types : List FuncType → List FuncType → List FuncType
with_types ts [] = ts
with_types ts (u ∷ us) = with_types (with_type ts u) us

-- the distinct types of all parts
unfoldable pub merged_types : List Part → List FuncType
merged_types parts = with_types [] (flat_map (λ p. p.«module».types) parts)

unfoldable pub place_of_type : List Part → FuncType → ℕ
place_of_type parts t = unwrap_or (first_place (same_func_type t) (merged_types parts) 0) 0

-- ---- the maps of a part's indices ----

-- the map of the indices of part `p`, whose module is `m`
unfoldable pub map_of : List Part → ℕ → Module → Remap
map_of parts p m = record {
  types = map (place_of_type parts) m.types;
  funcs = map (new_index parts p Functions) (numbers 0 (length (funcs_of m)));
  tables = map (new_index parts p Tables) (numbers 0 (length (tables_of m)));
  mems = map (new_index parts p Memories) (numbers 0 (length (memories_of m)));
  globals = map (new_index parts p Globals) (numbers 0 (length (globals_of m)));
  elems = numbers (defined_before ElementSegments parts p) (length m.elems);
  datas = numbers (defined_before DataSegments parts p) (length m.datas);
}

-- the lists that `f` gives for each part, joined into one
abbrev pub by_part_from : {A : Type 0} → (ℕ → Module → List A) → ℕ → List Part → List A
by_part_from f p [] = []
by_part_from f p (part ∷ parts) = f p part.«module» ++ by_part_from f (suc p) parts

abbrev pub by_part : {A : Type 0} → (ℕ → Module → List A) → List Part → List A
by_part f = by_part_from f 0

-- ---- constant expressions ----

abbrev pub merged_read : List Part → Read → Option ConstExpr
merged_read parts r = module_at parts r.part >>= λ m. Some (new_const (map_of parts r.part m) r.expr)

-- a constant expression becomes what it reads through joined globals
unfoldable pub merged_const : List Part → ℕ → ConstExpr → ConstExpr
merged_const parts p expr = unwrap_or (read_of parts p expr >>= (merged_read parts)) expr

-- ---- the lists ----

abbrev pub merged_desc : List Part → Site → Module → ImportDesc → ImportDesc
merged_desc parts s m (im.Func ty) = im.Func (slice_index (map_of parts s.part m).types ty)
merged_desc parts s m (im.Table t) = im.Table (record t { limits = met_limits parts s })
merged_desc parts s m (im.Memory l) = im.Memory (met_limits parts s)
merged_desc parts s m (im.Global t) = im.Global t

unfoldable pub merged_import : List Part → Site → Option Import
merged_import parts s = module_at parts s.part >>= λ m. import_at parts s >>= λ i. Some (record i { desc = merged_desc parts s m i.desc })

abbrev pub merged_global : List Part → ℕ → GlobalDef → GlobalDef
merged_global parts p g = record g { init = merged_const parts p g.init }

abbrev pub merged_elem_mode : List Part → ℕ → Remap → ElemMode → ElemMode
merged_elem_mode parts p m (elem.Active table offset) = elem.Active (slice_index m.tables table) (merged_const parts p offset)
merged_elem_mode parts p m elem.Passive = elem.Passive
merged_elem_mode parts p m elem.Declarative = elem.Declarative

abbrev pub merged_elem : List Part → ℕ → Remap → ElemSeg → ElemSeg
merged_elem parts p m e = record e { mode = merged_elem_mode parts p m e.mode; items = map (merged_const parts p) e.items }

abbrev pub merged_data_mode : List Part → ℕ → Remap → DataMode → DataMode
merged_data_mode parts p m (data'.Active memory offset) = data'.Active (slice_index m.mems memory) (merged_const parts p offset)
merged_data_mode parts p m data'.Passive = data'.Passive

abbrev pub merged_data : List Part → ℕ → Remap → DataSeg → DataSeg
merged_data parts p m d = record d { mode = merged_data_mode parts p m d.mode }

-- ---- the start ----

abbrev pub start_of : List Part → ℕ → Option ℕ → List ℕ
start_of parts p None = []
start_of parts p (Some f) = new_index parts p Functions f ∷ []

-- the new indices of the start functions, for those parts that have one, in order
unfoldable pub starts : List Part → List ℕ
starts parts = by_part (λ p m. start_of parts p m.start) parts

abbrev pub nullary : FuncType
nullary = record { params = []; results = [] }

-- if several parts have a start, one more function, which calls each
abbrev pub start_calls : List Part → List ℕ → List Func
start_calls parts (f ∷ g ∷ fs) = record { ty = place_of_type parts nullary; locals = []; body = map Call (f ∷ g ∷ fs) } ∷ []
start_calls parts _ = []

unfoldable pub defined_funcs : List Part → List Func
defined_funcs parts = by_part (λ p m. map (new_func (map_of parts p m)) m.funcs) parts

-- the start: none, the only one, or the function at `functions`, which calls several
abbrev pub start_among : (functions : ℕ) → List ℕ → Option ℕ
start_among n [] = None
start_among n (f ∷ []) = Some f
start_among n (f ∷ g ∷ fs) = Some n

-- ---- the exports ----

-- the exports of all parts, with their new indices, part by part, in order
unfoldable pub all_exports : List Part → List Export
all_exports parts = by_part (λ p m. map (new_export (map_of parts p m)) m.exports) parts

abbrev pub export_names : List Part → List Text
export_names parts = map (λ e. e.name) (all_exports parts)

-- exports under new names; one without a name is dropped
abbrev pub named_exports : List Export → List (Option Text) → List Export
named_exports (e ∷ es) (Some name ∷ names) = record e { name = name } ∷ named_exports es names
named_exports (e ∷ es) (None ∷ names) = named_exports es names
named_exports _ _ = []

-- ---- the module ----

-- the merged module whose exports have these names
unfoldable pub merged : List Part → List (Option Text) → Module
merged parts names = record {
  types = merged_types parts;
  imports = filter_map (merged_import parts) (staying parts);
  funcs = defined_funcs parts ++ start_calls parts (starts parts);
  tables = flat_map (λ p. p.«module».tables) parts;
  mems = flat_map (λ p. p.«module».mems) parts;
  globals = by_part (λ p m. map (merged_global parts p) m.globals) parts;
  exports = named_exports (all_exports parts) names;
  start = start_among (length (staying_of parts Functions) + defined_before Functions parts (length parts)) (starts parts);
  elems = by_part (λ p m. map (merged_elem parts p (map_of parts p m)) m.elems) parts;
  datas = by_part (λ p m. map (merged_data parts p (map_of parts p m)) m.datas) parts;
}
