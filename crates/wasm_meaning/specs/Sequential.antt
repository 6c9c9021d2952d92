-- Sequential instantiation: each part is matched and allocated, its segments are copied and its
-- start function runs, before the next part's turn (WebAssembly Core 2.0, section 4.5.4, for one
-- module at a time). The view opens after the last part.
use Rattle.std.proofs.Common.{◌≡◌, ◌<◌, ℕ, List, [], ◌∷◌, ◌++◌, map, length, Option, Some, None, Bool, true, false, cond, slice_get, unwrap_or, ◌&&◌}
use Rattle.wasm_tree_spec.specs.Prelude.{Space, Functions, Tables, Memories, Globals, Import, ExportDesc, ConstExpr, ElemMode, DataMode, Module}
use Rattle.base_lists.specs.Options.{◌>>=◌}
use Rattle.std.specs.List.{filter_map}
use Rattle.wasm_tree.specs.declared.module.ElemMode.TheVariants as elem
use Rattle.wasm_tree.specs.declared.module.DataMode.TheVariants as data'
use Rattle.wasm_meaning.specs.State.{Text, Val, Inst, Store, Opening, Entry}
use Rattle.wasm_meaning.specs.Linking.{Part, Entity, is_named, export_named, module_at, joined}
use Rattle.wasm_meaning.specs.Environment.{Environment, ExternalValue, Owned, owned_at, any_of}
use Rattle.wasm_meaning.specs.World.{World, Begun, Filled, own_key, address_of, address_in, seen_as, all_there, numbers, const_value, store_with, joined_stores, is_match, segments_in, run_elem_with}
use Rattle.wasm_meaning.specs.World.{run_data_with, one_by_one, and_then, start_in, instantiate}
use Rattle.wasm_meaning.specs.Run.{Run, Pending, Closed, Event, LinkFault, InstanceTrapped, Move, Out, fresh_run, tick, events_of}

-- ---- one module, in a store that holds others already ----

abbrev pub addresses_of : Space → List ExternalValue → List ℕ
addresses_of k = filter_map (address_of k)

-- The instance of a module whose imports denote `things`. What the module defines comes after
-- everything in the store.
abbrev pub next_inst : Store → Module → List ExternalValue → Inst
next_inst s m things = record {
  types = m.types;
  funcs = addresses_of Functions things ++ numbers (length s.funcs) (length m.funcs);
  tables = addresses_of Tables things ++ numbers (length s.tables) (length m.tables);
  mems = addresses_of Memories things ++ numbers (length s.mems) (length m.mems);
  globals = addresses_of Globals things ++ numbers (length s.globals) (length m.globals);
  elems = numbers (length s.elems) (length m.elems);
  datas = numbers (length s.datas) (length m.datas);
}

-- Each import is matched by the external value that it denotes, with the size that this has now.
abbrev pub all_match : Store → Module → List Import → List ExternalValue → Bool
all_match s m [] [] = true
all_match s m (i ∷ is) (x ∷ xs) = unwrap_or (is_match s m i.desc x) false && all_match s m is xs
all_match s m _ _ = false

-- Copies the active element segments in order, then the active data segments. (The part number 0 is
-- not used.)
abbrev pub own_segments : (ConstExpr → Option Val) → Module → Inst → Store → Filled
own_segments value m i s =
    and_then (one_by_one (λ s task. run_elem_with value s task task.segment.mode) s (segments_in 0 i i.elems m.elems))
    (λ s. one_by_one (λ s task. run_data_with value s task task.segment.mode) s (segments_in 0 i i.datas m.datas))

-- A module's instance, and the store after its segments.
pub record Added : Type 0 where
  pub inst : Inst
  pub filled : Filled

abbrev pub added_as : Store → Module → Inst → Option Added
added_as s m i =
    store_with (const_value s.globals i) m i >>= λ t. Some (record { inst = i; filled = own_segments (const_value s.globals i) m i (joined_stores s t) })

-- Adds a module whose imports denote `things`. Constant expressions read the imported globals as
-- they are now. The result is `None` if an import does not match. For a module that is not valid it
-- is also `None` if the type of a function, or what an initialiser or an item names, does not exist
-- or is a global that is not imported, or if an item is not a reference; but a segment whose table,
-- memory or i32 offset does not exist traps.
abbrev pub added : Store → Module → List ExternalValue → Option Added
added s m things = cond (all_match s m m.imports things) (added_as s m (next_inst s m things)) None

-- Adds a module, where `supplied` says what each import denotes; `None` if some import denotes
-- nothing.
abbrev pub added_with : (Import → Option ExternalValue) → Store → Module → Option Added
added_with supplied s m = all_there supplied m.imports >>= (added s m)

-- ---- what an import denotes, given the parts so far ----

-- A part that was added to the store, with its instance.
pub record Made : Type 0 where
  pub part : Part
  pub inst : Inst

abbrev pub made_named : List Made → Text → Option Made
made_named [] name = None
made_named (x ∷ xs) name = cond (is_named name x.part) (Some x) (made_named xs name)

-- The added part that an import names, and what that part exports under the field name.
abbrev pub exported_by : List Made → Import → Option (Made × ExportDesc)
exported_by made i = made_named made i.«module» >>= λ x. export_named x.part.«module».exports i.field >>= λ d. Some (x, d)

-- The environment's own entity that an import names.
abbrev pub own_external_value : Owned → Module → Import → Option ExternalValue
own_external_value owned m i = own_key m i >>= λ key. owned_at owned key

-- The export, or, if there is no such part or export, the environment's own entity. A part whose
-- turn has not come is not there yet, so the environment's entity is used.
abbrev pub external_value_or_own : Owned → Module → Import → Option (Made × ExportDesc) → Option ExternalValue
external_value_or_own owned m i None = own_external_value owned m i
external_value_or_own owned m i (Some x) = address_in x.0.inst x.1

abbrev pub external_value_for : Owned → List Made → Module → Import → Option ExternalValue
external_value_for owned made m i = external_value_or_own owned m i (exported_by made i)

-- ---- runs ----

-- The run so far, the parts that were added, the parts whose turn is still to come, and the view
-- that opens at the end.
pub record SequentialRun : Type 0 where
  pub run : Run
  pub made : List Made
  pub rest : List Part
  pub view : List (Text × Entity)

-- The view over the parts that were added. It is empty while one of its names denotes an entity of
-- a part that was not.
abbrev pub view_over : List Made → List (Text × Entity) → List (Text × ExternalValue)
view_over made view = unwrap_or (all_there (seen_as (map (λ x. x.inst) made)) view) []

abbrev pub closed_by : SequentialRun → Event → SequentialRun × Option Event
closed_by q e = (record q { run = record q.run { entries = []; phase = Closed } }, Some e)

-- The part was added, and its start function runs next.
abbrev pub goes_on : SequentialRun → Part → List Part → Inst → Store → SequentialRun
goes_on q part rest i s =
    let made = q.made ++ record { part = part; inst = i } ∷ [] in
    record q { made = made; rest = rest; run = record q.run { store = s; entries = Opening (start_in i part.«module».start) ∷ []; phase = Pending (view_over made q.view) } }

abbrev pub part_added : SequentialRun → Part → List Part → Option Added → SequentialRun × Option Event
part_added q part rest None = closed_by q LinkFault
part_added q part rest (Some a) =
    cond a.filled.trapped (closed_by (record q { run = record q.run { store = a.filled.store } }) InstanceTrapped) (goes_on q part rest a.inst a.filled.store, None)

-- The next part's turn: one step for its allocation and its segments.
abbrev pub next_part : SequentialRun → Part → List Part → SequentialRun × Option Event
next_part q part rest =
    part_added q part rest (added_with (external_value_for q.run.owned q.made part.«module») q.run.store part.«module»)

abbrev pub with_run : SequentialRun → Out → SequentialRun × Option Event
with_run q o = (record q { run = o.0 }, o.1)

-- If no start function is left to run, it is the next part's turn; otherwise the run goes on.
abbrev pub turn_at : SequentialRun → List Part → List Entry → SequentialRun × Option Event
turn_at q (part ∷ rest) (Opening [] ∷ []) = next_part q part rest
turn_at q rest es = with_run q (tick q.run)

abbrev pub tick_sequential : SequentialRun → SequentialRun × Option Event
tick_sequential q = turn_at q q.rest q.run.entries

-- The state before the first part's turn. No start function is left to run, as before every turn.
abbrev pub before_parts : Environment → World → List Move → SequentialRun
before_parts env w moves = record {
  run = record (fresh_run env None moves) { entries = Opening [] ∷ []; phase = Pending [] };
  made = [];
  rest = w.parts;
  view = w.view;
}

-- The trace of the first n steps of a world whose parts are instantiated sequentially.
abbrev pub events_sequential : World → Environment → List Move → ℕ → List Event
events_sequential w env moves n = events_of tick_sequential (before_parts env w moves) n

-- ---- when sequential instantiation makes no difference to the trace ----

-- Each joined import is joined with an earlier part.
abbrev pub JoinsEarlier : List Part → Type 0
JoinsEarlier parts = (p n : ℕ) (m : Module) (i : Import) (e : Entity) → module_at parts p ≡ Some m → slice_get m.imports n ≡ Some i → joined parts i ≡ Some e → e.part < p

abbrev pub is_active_elem : ElemMode → Bool
is_active_elem (elem.Active table offset) = true
is_active_elem _ = false

abbrev pub is_active_data : DataMode → Bool
is_active_data (data'.Active memory offset) = true
is_active_data data'.Passive = false

-- The module has no active segment.
pub record HasNoActive (m : Module) : Type 0 where
  pub elems : any_of (λ e. is_active_elem e.mode) m.elems ≡ false
  pub datas : any_of (λ d. is_active_data d.mode) m.datas ≡ false

-- No part after one with a start function has an active segment.
abbrev pub NoLateSegments : List Part → Type 0
NoLateSegments parts = (p q f : ℕ) (m n : Module) → p < q → module_at parts p ≡ Some m → module_at parts q ≡ Some n → m.start ≡ Some f → HasNoActive n

-- The environment links the world at once (`links`), and no segment traps.
abbrev pub BeginsWell : Environment → World → Type 0
BeginsWell env w = (b : Begun) × (instantiate env w ≡ Some b) × (b.trapped ≡ false)
