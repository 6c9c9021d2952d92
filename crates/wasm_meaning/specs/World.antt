-- Worlds, and their instantiation at once (WebAssembly Core 2.0, section 4.5.4, for several modules
-- together). Every import is matched and everything is allocated; then all active element segments
-- are copied, part by part, and then all active data segments, part by part.
use Rattle.std.proofs.Common.{ℕ, zero, suc, ◌+◌, ◌-◌, ◌*◌, List, [], ◌∷◌, ◌++◌, map, length, Option, Some, None, is_some, Bool, true, false, cond, slice_get, unwrap_or, ◌&&◌}
use Rattle.wasm_tree_spec.specs.Prelude.{Space, Types, Functions, Tables, Memories, Globals, ElementSegments, DataSegments, FuncType, Limits, Import, ImportDesc, ExportDesc, ConstExpr, GlobalDef}
use Rattle.wasm_tree_spec.specs.Prelude.{ElemSeg, ElemMode, DataSeg, DataMode, Module, same_func_type, same_ref, same_type, index_of_export, space_of_export}
use Rattle.base_lists.specs.Options.{◌>>=◌}
pub use Rattle.base_lists.specs.Options.{all_there}
pub use Rattle.base_lists.specs.Places.{numbers}
use Rattle.std.specs.Prelude.{nat_le}
use Rattle.wasm_tree.specs.declared.module.ImportDesc.TheVariants as im
use Rattle.wasm_tree.specs.declared.module.ExportDesc.TheVariants as ex
use Rattle.wasm_tree.specs.declared.module.ConstExpr.TheVariants as const
use Rattle.wasm_tree.specs.declared.module.ElemMode.TheVariants as elem
use Rattle.wasm_tree.specs.declared.module.DataMode.TheVariants as data'
use Rattle.wasm_tree.specs.declared.module.Func as tree
use Rattle.wasm_num.specs.Operations.{W32, W64, wrapped}
use Rattle.wasm_meaning.specs.Outcomes.{overwrite, copies}
use Rattle.wasm_meaning.specs.State.{Text, Pair, RefVal, FuncRef, Val, Num, Ref, Inst, Func, Code, Table, Memory, Global, Elem, Store, DropElem, DropData, SetTable, SetMemory}
use Rattle.wasm_meaning.specs.Values.{null_of, declared, ref_of, num_of}
use Rattle.wasm_meaning.specs.Control.{type_at}
use Rattle.wasm_meaning.specs.Step.{changed, no_items}
use Rattle.wasm_meaning.specs.Linking.{Part, Site, End, Defined, Outside, Entity, Read, module_at, import_at, imports_of, pair_of, end_of, read_of, sites}
use Rattle.wasm_meaning.specs.Environment.{Environment, ExternalValue, FuncAt, TableAt, MemoryAt, GlobalAt, OwnKey, FuncKey, TableKey, MemoryKey, GlobalKey, Owned, owned_of, owned_at, own_funcs}
use Rattle.wasm_meaning.specs.Environment.{own_tables, own_memories, own_globals, all_of}

-- Modules whose imports are joined by name, and the view: the names under which the embedder sees
-- entities.
pub record World : Type 0 where
  pub parts : List Part
  pub view : List (Text × Entity)

-- A module on its own: no other module imports from it, and its exports are the view.
abbrev pub alone : Module → World
alone t = record {
  parts = record { name = None; «module» = t } ∷ [];
  view = map (λ e. (e.name, record { part = 0; what = e.desc })) t.exports;
}

-- ---- addresses ----

-- How many entries of an index space a module defines.
abbrev pub defined_count : Space → Module → ℕ
defined_count Types m = length m.types
defined_count Functions m = length m.funcs
defined_count Tables m = length m.tables
defined_count Memories m = length m.mems
defined_count Globals m = length m.globals
defined_count ElementSegments m = length m.elems
defined_count DataSegments m = length m.datas

-- How many entities of a kind the environment has.
abbrev pub own_count : Space → Environment → ℕ
own_count Types env = 0
own_count Functions env = length (own_funcs env)
own_count Tables env = length (own_tables env)
own_count Memories env = length (own_memories env)
own_count Globals env = length (own_globals env)
own_count ElementSegments env = 0
own_count DataSegments env = 0

-- How many entries of an index space the parts before part `p` define.
abbrev pub defined_before : Space → List Part → ℕ → ℕ
defined_before k [] p = 0
defined_before k (part ∷ parts) zero = 0
defined_before k (part ∷ parts) (suc p) = defined_count k part.«module» + defined_before k parts p

-- The address of the first entity of a kind that part `p` defines. The environment's entities come
-- first, then what the parts define, by part.
abbrev pub base : Environment → List Part → Space → ℕ → ℕ
base env parts k p = own_count k env + defined_before k parts p

-- The external value at an address; types and segments have none (section 4.2.13).
abbrev pub external_value_at : Space → ℕ → Option ExternalValue
external_value_at Types a = None
external_value_at Functions a = Some (FuncAt a)
external_value_at Tables a = Some (TableAt a)
external_value_at Memories a = Some (MemoryAt a)
external_value_at Globals a = Some (GlobalAt a)
external_value_at ElementSegments a = None
external_value_at DataSegments a = None

abbrev pub address_of : Space → ExternalValue → Option ℕ
address_of Functions (FuncAt a) = Some a
address_of Tables (TableAt a) = Some a
address_of Memories (MemoryAt a) = Some a
address_of Globals (GlobalAt a) = Some a
address_of _ _ = None

abbrev pub import_type : Module → ℕ → Option FuncType
import_type m ty = slice_get m.types ty

-- The key of the environment's entity that an import names, if it is joined with no export.
abbrev pub own_key_of : Module → Pair → ImportDesc → Option OwnKey
own_key_of m pair (im.Func ty) = import_type m ty >>= λ t. Some (FuncKey pair t)
own_key_of m pair (im.Table t) = Some (TableKey pair)
own_key_of m pair (im.Memory l) = Some (MemoryKey pair)
own_key_of m pair (im.Global t) = Some (GlobalKey pair)

abbrev pub own_key : Module → Import → Option OwnKey
own_key m i = own_key_of m (pair_of i) i.desc

abbrev pub outside_external_value : Owned → List Part → Site → Option ExternalValue
outside_external_value owned parts s = module_at parts s.part >>= λ m. import_at parts s >>= λ i. own_key m i >>= λ key. owned_at owned key

abbrev pub defined_addresses : Environment → List Part → Space → ℕ → Module → List ℕ
defined_addresses env parts k p m = numbers (base env parts k p) (defined_count k m)

abbrev pub defined_external_value : Environment → List Part → Entity → Option ExternalValue
defined_external_value env parts e =
    module_at parts e.part >>= λ m. let k = space_of_export e.what in slice_get (defined_addresses env parts k e.part m) (index_of_export e.what - length (imports_of k m)) >>= external_value_at k

abbrev pub external_value_of : Environment → List Part → End → Option ExternalValue
external_value_of env parts (Defined e) = defined_external_value env parts e
external_value_of env parts (Outside s) = outside_external_value (owned_of env) parts s

-- What an import denotes.
abbrev pub imported_external_value : Environment → List Part → Site → Option ExternalValue
imported_external_value env parts s = end_of parts s >>= (external_value_of env parts)

-- The addresses of an index space: those of the imports, then those of what the part defines.
abbrev pub space : Environment → List Part → Space → ℕ → Module → Option (List ℕ)
space env parts k p m =
    all_there (λ n. imported_external_value env parts (record { part = p; import = n }) >>= (address_of k)) (imports_of k m) >>= λ imported. Some (imported ++ defined_addresses env parts k p m)

abbrev pub inst_of : Environment → List Part → ℕ → Module → Option Inst
inst_of env parts p m =
    space env parts Functions p m >>= λ funcs. space env parts Tables p m >>= λ tables. space env parts Memories p m >>= λ mems. space env parts Globals p m >>= λ globals.
    Some (record {
      types = m.types;
      funcs = funcs;
      tables = tables;
      mems = mems;
      globals = globals;
      elems = numbers (defined_before ElementSegments parts p) (length m.elems);
      datas = numbers (defined_before DataSegments parts p) (length m.datas);
    })

-- ---- constant expressions ----

-- The value of a constant expression, which reads globals from this list.
abbrev pub const_value : List Global → Inst → ConstExpr → Option Val
const_value globals i (const.I32 v) = Some (Num W32 (wrapped 32 v))
const_value globals i (const.I64 v) = Some (Num W64 (wrapped 64 v))
const_value globals i (const.Null t) = Some (Ref (null_of t))
const_value globals i (const.Func f) = slice_get i.funcs f >>= λ a. Some (Ref (FuncRef (Some a)))
const_value globals i (const.Global x) = slice_get i.globals x >>= λ a. slice_get globals a >>= λ g. Some g.value

abbrev pub value_of_read : List Global → List Inst → Read → Option Val
value_of_read own insts r = slice_get insts r.part >>= λ i. const_value own i r.expr

-- The value of a constant expression of part `p`, by the read that it leads to.
abbrev pub value_of : Environment → List Part → List Inst → ℕ → ConstExpr → Option Val
value_of env parts insts p expr = read_of parts p expr >>= (value_of_read (own_globals env) insts)

abbrev pub ref_value : Environment → List Part → List Inst → ℕ → ConstExpr → Option RefVal
ref_value env parts insts p expr = value_of env parts insts p expr >>= ref_of

abbrev pub number_value : Environment → List Part → List Inst → ℕ → ConstExpr → Option ℕ
number_value env parts insts p expr = value_of env parts insts p expr >>= num_of W32

-- ---- allocation (section 4.5.3) ----

abbrev pub new_func : Inst → tree.Func → Option Func
new_func i f = slice_get i.types f.ty >>= λ t. Some (Code t i (declared f.locals) f.body)

-- The global of a definition, where `value` gives the values of constant expressions.
abbrev pub global_with : (ConstExpr → Option Val) → GlobalDef → Option Global
global_with value g = value g.init >>= λ v. Some (record { ty = g.ty; value = v })

abbrev pub new_global : Environment → List Part → List Inst → ℕ → GlobalDef → Option Global
new_global env parts insts p = global_with (value_of env parts insts p)

-- A declarative segment is dropped at once.
abbrev pub new_elem : ElemMode → List RefVal → Elem
new_elem elem.Declarative items = no_items
new_elem mode items = record { items = items; dropped = false }

-- The instance of an element segment, where `value` gives the values of constant expressions.
abbrev pub elem_with : (ConstExpr → Option Val) → ElemSeg → Option Elem
elem_with value e = all_there (λ x. value x >>= ref_of) e.items >>= λ items. Some (new_elem e.mode items)

abbrev pub elem_of : Environment → List Part → List Inst → ℕ → ElemSeg → Option Elem
elem_of env parts insts p = elem_with (value_of env parts insts p)

-- Everything that a module of instance `i` adds to the store.
abbrev pub store_with : (ConstExpr → Option Val) → Module → Inst → Option Store
store_with value m i =
    all_there (new_func i) m.funcs >>= λ funcs. all_there (global_with value) m.globals >>= λ globals. all_there (elem_with value) m.elems >>= λ elems.
    Some (record {
      funcs = funcs;
      globals = globals;
      elems = elems;
      tables = map (λ t. record { ty = t.ty; most = t.limits.max; slots = copies t.limits.min (null_of t.ty) }) m.tables;
      mems = map (λ l. record { most = l.max; pages = l.min; bytes = copies (65536 * l.min) 0 }) m.mems;
      datas = map (λ d. record { bytes = d.bytes; dropped = false }) m.datas;
    })

-- What part `p` adds to the store.
abbrev pub part_store : Environment → List Part → List Inst → ℕ → Module → Inst → Option Store
part_store env parts insts p m i = store_with (value_of env parts insts p) m i

abbrev pub joined_stores : Store → Store → Store
joined_stores s t =
    record { funcs = s.funcs ++ t.funcs; tables = s.tables ++ t.tables; mems = s.mems ++ t.mems; globals = s.globals ++ t.globals; elems = s.elems ++ t.elems; datas = s.datas ++ t.datas }

abbrev pub own_store : Environment → Store
own_store env = record { funcs = own_funcs env; tables = own_tables env; mems = own_memories env; globals = own_globals env; elems = []; datas = [] }

-- The instances of the parts from `p` on.
abbrev pub insts_from : Environment → List Part → ℕ → List Part → Option (List Inst)
insts_from env all p [] = Some []
insts_from env all p (part ∷ parts) = inst_of env all p part.«module» >>= λ i. insts_from env all (suc p) parts >>= λ is. Some (i ∷ is)

-- The store with what the parts from `p` on add to it.
abbrev pub stores_from : Environment → List Part → List Inst → Store → ℕ → List Part → List Inst → Option Store
stores_from env all insts s p (part ∷ parts) (i ∷ is) =
    part_store env all insts p part.«module» i >>= λ t. stores_from env all insts (joined_stores s t) (suc p) parts is
stores_from env all insts s p _ _ = Some s

-- ---- matching (sections 4.5.1 and 4.5.4) ----

abbrev pub same_bool : Bool → Bool → Bool
same_bool true b = b
same_bool false true = false
same_bool false false = true

-- A maximum that is asked for needs an actual one that is no greater.
abbrev pub meets_most : (most demand : Option ℕ) → Bool
meets_most most None = true
meets_most None (Some d) = false
meets_most (Some n) (Some d) = nat_le n d

-- An actual size and maximum meet the limits of an import.
abbrev pub meets : (size : ℕ) → (most : Option ℕ) → Limits → Bool
meets size most demand = nat_le demand.min size && meets_most most demand.max

-- Whether the external value is what the import asks for; `None` if it is of another kind, or if it
-- or the import's function type does not exist.
abbrev pub is_match : Store → Module → ImportDesc → ExternalValue → Option Bool
is_match s m (im.Func ty) (FuncAt a) = import_type m ty >>= λ t. type_at s a >>= λ u. Some (same_func_type t u)
is_match s m (im.Table t) (TableAt a) = slice_get s.tables a >>= λ u. Some (same_ref t.ty u.ty && meets (length u.slots) u.most t.limits)
is_match s m (im.Memory l) (MemoryAt a) = slice_get s.mems a >>= λ u. Some (meets u.pages u.most l)
is_match s m (im.Global t) (GlobalAt a) = slice_get s.globals a >>= λ u. Some (same_type t.ty u.ty.ty && same_bool t.mutable u.ty.mutable)
is_match s m _ _ = None

abbrev pub is_matched : Environment → List Part → Store → Site → Bool
is_matched env parts s site =
    unwrap_or (module_at parts site.part >>= λ m. import_at parts site >>= λ i. imported_external_value env parts site >>= (is_match s m i.desc)) false

-- ---- active segments (section 4.5.4) ----

-- The store so far, and whether a segment trapped.
pub record Filled : Type 0 where
  pub store : Store
  pub trapped : Bool

-- A segment with its address, the instance of its part, and its part.
pub record PlacedSegment (A : Type 0) : Type 0 where
  pub part : ℕ
  pub inst : Inst
  pub address : ℕ
  pub segment : A

abbrev pub segments_in : {A : Type 0} → ℕ → Inst → List ℕ → List A → List (PlacedSegment A)
segments_in p i (n ∷ ns) (x ∷ xs) = record { part = p; inst = i; address = n; segment = x } ∷ segments_in p i ns xs
segments_in p i _ _ = []

abbrev pub placed_elems : ℕ → List Part → List Inst → List (PlacedSegment ElemSeg)
placed_elems p (part ∷ parts) (i ∷ is) = segments_in p i i.elems part.«module».elems ++ placed_elems (suc p) parts is
placed_elems p _ _ = []

abbrev pub placed_datas : ℕ → List Part → List Inst → List (PlacedSegment DataSeg)
placed_datas p (part ∷ parts) (i ∷ is) = segments_in p i i.datas part.«module».datas ++ placed_datas (suc p) parts is
placed_datas p _ _ = []

abbrev pub or_trapped : Store → Option Filled → Filled
or_trapped s (Some f) = f
or_trapped s None = record { store = s; trapped = true }

-- Gives the table its slots with the segment's references copied in, and drops the segment. `None`
-- in place of the slots is a trap: the references do not fit.
abbrev pub copy_slots : Store → (segment table : ℕ) → Table → Option (List RefVal) → Filled
copy_slots s segment a t (Some slots) = record { store = changed (changed s (SetTable a (record t { slots = slots }))) (DropElem segment); trapped = false }
copy_slots s segment a t None = record { store = s; trapped = true }

abbrev pub copy_elem : Store → (segment : ℕ) → Inst → (table : ℕ) → (offset : Option ℕ) → Filled
copy_elem s segment i x offset =
    or_trapped s (offset >>= λ n. slice_get i.tables x >>= λ a. slice_get s.tables a >>= λ t. slice_get s.elems segment >>= λ e. Some (copy_slots s segment a t (overwrite t.slots n e.items)))

-- Copies an active segment, where `value` gives the values of constant expressions.
abbrev pub run_elem_with : (ConstExpr → Option Val) → Store → PlacedSegment ElemSeg → ElemMode → Filled
run_elem_with value s task (elem.Active x offset) = copy_elem s task.address task.inst x (value offset >>= num_of W32)
run_elem_with value s task _ = record { store = s; trapped = false }

abbrev pub run_elem_mode : Environment → List Part → List Inst → Store → PlacedSegment ElemSeg → ElemMode → Filled
run_elem_mode env parts insts s task = run_elem_with (value_of env parts insts task.part) s task

abbrev pub run_elem : Environment → List Part → List Inst → Store → PlacedSegment ElemSeg → Filled
run_elem env parts insts s task = run_elem_mode env parts insts s task task.segment.mode

-- Gives the memory its bytes with the segment's bytes copied in, and drops the segment. `None` in
-- place of the bytes is a trap: the segment's bytes do not fit.
abbrev pub copy_bytes : Store → (segment memory : ℕ) → Memory → Option (List ℕ) → Filled
copy_bytes s segment a m (Some bytes) = record { store = changed (changed s (SetMemory a (record m { bytes = bytes }))) (DropData segment); trapped = false }
copy_bytes s segment a m None = record { store = s; trapped = true }

abbrev pub copy_data : Store → (segment : ℕ) → Inst → (memory : ℕ) → (offset : Option ℕ) → Filled
copy_data s segment i x offset =
    or_trapped s (offset >>= λ n. slice_get i.mems x >>= λ a. slice_get s.mems a >>= λ m. slice_get s.datas segment >>= λ d. Some (copy_bytes s segment a m (overwrite m.bytes n d.bytes)))

-- Copies an active segment, where `value` gives the values of constant expressions.
abbrev pub run_data_with : (ConstExpr → Option Val) → Store → PlacedSegment DataSeg → DataMode → Filled
run_data_with value s task (data'.Active x offset) = copy_data s task.address task.inst x (value offset >>= num_of W32)
run_data_with value s task data'.Passive = record { store = s; trapped = false }

abbrev pub run_data_mode : Environment → List Part → List Inst → Store → PlacedSegment DataSeg → DataMode → Filled
run_data_mode env parts insts s task = run_data_with (value_of env parts insts task.part) s task

abbrev pub run_data : Environment → List Part → List Inst → Store → PlacedSegment DataSeg → Filled
run_data env parts insts s task = run_data_mode env parts insts s task task.segment.mode

abbrev pub and_then : Filled → (Store → Filled) → Filled
and_then filled f = cond filled.trapped filled (f filled.store)

-- Applies `f` to one element after the other, until a segment traps.
abbrev pub one_by_one : {A : Type 0} → (Store → A → Filled) → Store → List A → Filled
one_by_one f s [] = record { store = s; trapped = false }
one_by_one f s (x ∷ xs) = and_then (f s x) (λ s. one_by_one f s xs)

abbrev pub segments : Environment → List Part → List Inst → Store → Filled
segments env parts insts s =
    and_then (one_by_one (run_elem env parts insts) s (placed_elems 0 parts insts)) (λ s. one_by_one (run_data env parts insts) s (placed_datas 0 parts insts))

-- ---- instantiation at once ----

-- The result of an instantiation: the store, whether a segment trapped, the start functions that
-- are to run, the view, and the environment's own entities.
pub record Begun : Type 0 where
  pub store : Store
  pub trapped : Bool
  pub starts : List ℕ
  pub view : List (Text × ExternalValue)
  pub owned : Owned

abbrev pub one_place : Option ℕ → List ℕ
one_place None = []
one_place (Some a) = a ∷ []

abbrev pub start_in : Inst → Option ℕ → List ℕ
start_in i None = []
start_in i (Some f) = one_place (slice_get i.funcs f)

abbrev pub starts_of : List Part → List Inst → List ℕ
starts_of (part ∷ parts) (i ∷ is) = start_in i part.«module».start ++ starts_of parts is
starts_of _ _ = []

-- The external value of an entity, by the instance of its part.
abbrev pub address_in : Inst → ExportDesc → Option ExternalValue
address_in i (ex.Func x) = slice_get i.funcs x >>= λ a. Some (FuncAt a)
address_in i (ex.Table x) = slice_get i.tables x >>= λ a. Some (TableAt a)
address_in i (ex.Memory x) = slice_get i.mems x >>= λ a. Some (MemoryAt a)
address_in i (ex.Global x) = slice_get i.globals x >>= λ a. Some (GlobalAt a)

abbrev pub seen_as : List Inst → Text × Entity → Option (Text × ExternalValue)
seen_as insts v = slice_get insts v.1.part >>= λ i. address_in i v.1.what >>= λ thing. Some (v.0, thing)

abbrev pub begun : Environment → World → List Inst → List (Text × ExternalValue) → Filled → Begun
begun env w insts view filled = record { store = filled.store; trapped = filled.trapped; starts = starts_of w.parts insts; view = view; owned = owned_of env }

-- Instantiates a world at once. The result is `None` if an import does not match, a constant read
-- has no end, or a name of the view denotes nothing. For modules that are not valid it is also
-- `None` if the type of a function or of an import, what an initialiser or an item names, or an
-- export that is imported does not exist, if an initialiser or an item reads a global that is not
-- imported, or if an item is not a reference; but a segment whose table, memory or i32 offset does
-- not exist traps, and a start function that does not exist does not run. (An offset whose read has
-- no end depends on a global whose read has none either.)
abbrev pub instantiate : Environment → World → Option Begun
instantiate env w =
    insts_from env w.parts 0 w.parts >>= λ insts. stores_from env w.parts insts (own_store env) 0 w.parts insts >>= λ s. all_there (seen_as insts) w.view >>= λ view.
    cond (all_of (is_matched env w.parts s) (sites w.parts)) (Some (begun env w insts view (segments env w.parts insts s))) None

-- The environment links the world: every import matches, every constant read has an end and every
-- name of the view denotes something. A segment or a start function may trap all the same.
abbrev pub links : Environment → World → Bool
links env w = is_some (instantiate env w)
