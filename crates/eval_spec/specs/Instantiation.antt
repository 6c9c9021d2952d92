-- The instantiation of a module of whose imports only the types of functions are known, and its
-- start (WebAssembly Core 2.0, section 4.5.4).
use Rattle.std.specs.Prelude.{ℕ, ◌+◌, ◌-◌, ◌*◌, List, [], ◌∷◌, ◌++◌, map, length, Bool, true, false, ◌&&◌, ◌||◌, cond, Option, Some, None, slice_get, nat_eq, nat_lt, nat_le, unwrap_or}
use Rattle.std.specs.List.{filter, filter_map}
use Rattle.base_lists.specs.Options.{◌>>=◌}
use Rattle.base_lists.specs.Places.{numbers, places}
use Rattle.wasm_tree_spec.specs.Prelude.{Tables, Memories, Limits, Import, ConstExpr, ElemSeg, ElemMode, DataSeg, DataMode, Module, func_of, imported_tables, imported_memories, imported_globals}
use Rattle.wasm_tree_spec.specs.Prelude.{funcs_of, tables_of, memories_of, globals_of}
use Rattle.wasm_tree.specs.declared.module.ConstExpr.TheVariants as const
use Rattle.wasm_tree.specs.declared.module.ElemMode.TheVariants as elem
use Rattle.wasm_tree.specs.declared.module.DataMode.TheVariants as data'
use Rattle.wasm_num.specs.Operations.{W32}
use Rattle.wasm_meaning.specs.Prelude.{Outcome, Gives, Val, Inst, Func, Own, Table, Store, zero_of, num_of, Touched, Bytes, pair_of, Filled, PlacedSegment, segments_in, const_value, store_with}
use Rattle.wasm_meaning.specs.Prelude.{joined_stores, run_elem_with, run_data_with}
use Rattle.run_simulation.specs.Prelude.{Unknowns, is_place_among}
use Rattle.block_pool.specs.Pages.{blank}
use Rattle.eval_spec.specs.declared.stop.Stop.TheVariants as why
use Rattle.eval_spec.specs.State.{State, Stage, Stopped, Finished, Test, tried}
use Rattle.eval_spec.specs.Stops.{is_imported, written_after, writes_too_many, test}
use Rattle.eval_spec.specs.Quiet.{call_end}

-- ---- allocation (section 4.5.3) ----

-- The instance of the module, in which each index is its own address.
abbrev pub own_inst : Module → Inst
own_inst m = record {
  types = m.types;
  funcs = numbers 0 (length (funcs_of m));
  tables = numbers 0 (length (tables_of m));
  mems = numbers 0 (length (memories_of m));
  globals = numbers 0 (length (globals_of m));
  elems = numbers 0 (length m.elems);
  datas = numbers 0 (length m.datas);
}

-- An imported function, as a function of the environment's own with this type.
abbrev pub imported_func : Module → Import → Option Func
imported_func m i = func_of i.desc >>= λ ty. slice_get m.types ty >>= λ t. Some (Own (pair_of i) t)

-- The store of the imports: tables and memories hold nothing, and globals a zero or null that is
-- not read.
abbrev pub imported_store : Module → Store
imported_store m = record {
  funcs = filter_map (imported_func m) m.imports;
  tables = map (λ t. record { ty = t.ty; most = t.limits.max; slots = [] }) (imported_tables m.imports);
  mems = map (λ l. record { most = l.max; pages = 0; bytes = [] }) (imported_memories m.imports);
  globals = map (λ t. record { ty = t; value = zero_of t.ty }) (imported_globals m.imports);
  elems = [];
  datas = [];
}

-- The value of a constant expression. A `global.get`, whose value is unknown, has the zero or null
-- that is in the store of the imports.
abbrev pub value_in : Module → ConstExpr → Option Val
value_in m expr = const_value (imported_store m).globals (own_inst m) expr

-- ---- what is unknown at first ----

abbrev pub reads_global : ConstExpr → Bool
reads_global (const.Global x) = true
reads_global _ = false

-- The items of element segments that are a `global.get`, as pairs of segment and item; the segments
-- are counted from `n` on.
abbrev pub unknown_items : ℕ → List ElemSeg → List (ℕ × ℕ)
unknown_items n [] = []
unknown_items n (e ∷ es) = map (λ k. (n, k)) (places reads_global e.items 0) ++ unknown_items (n + 1) es

-- What is unknown at first: the defined globals whose initialiser is a `global.get`, and the items
-- of element segments that are one.
abbrev pub unknown_at_first : Module → Unknowns
unknown_at_first m = record {
  globals = places (λ g. reads_global g.init) m.globals (length (imported_globals m.imports));
  slots = [];
  items = unknown_items 0 m.elems;
}

-- At first no block of the memory that the module defines is written.
abbrev pub none_written : List Limits → List Bool
none_written [] = []
none_written (l ∷ ls) = (blank (65536 * l.min)).written

-- The state before any segment is copied, which each valid module has.
abbrev pub state_at_first : Module → (turns : ℕ) → Option State
state_at_first m turns =
    store_with (value_in m) m (own_inst m) >>= λ defined. Some (record { store = joined_stores (imported_store m) defined; unknown = unknown_at_first m; written = none_written m.mems; turns = turns })

-- ---- active segments (section 4.5.4) ----

-- The place that an offset denotes.
abbrev pub place_in : Module → ConstExpr → ℕ
place_in m offset = unwrap_or (value_in m offset >>= num_of W32) 0

-- All slots of tables, as pairs of table and place; the tables are counted from `n` on.
abbrev pub slots_from : ℕ → List Table → List (ℕ × ℕ)
slots_from n [] = []
slots_from n (t ∷ ts) = map (λ k. (n, k)) (numbers 0 (length t.slots)) ++ slots_from (n + 1) ts

-- Whether a slot is unknown after the items of a segment were copied into a table: a slot with one
-- of the items is unknown if the item is, and any other slot if it was before.
abbrev pub is_unknown_slot : Unknowns → (segment table place count : ℕ) → ℕ × ℕ → Bool
is_unknown_slot u segment table place count x =
    cond (nat_eq x.0 table && (nat_le place x.1 && nat_lt x.1 (place + count))) (is_place_among u.items segment (x.1 - place)) (is_place_among u.slots x.0 x.1)

abbrev pub copied_slots : State → (segment table place count : ℕ) → Unknowns
copied_slots s segment table place count = record s.unknown { slots = filter (is_unknown_slot s.unknown segment table place count) (slots_from 0 s.store.tables) }

-- The tests before an active element segment is copied: its offset is unknown or its table is
-- imported, or the copy traps.
abbrev pub elem_tests : Module → State → (table : ℕ) → ConstExpr → Filled → List Test
elem_tests m s table offset filled = test (reads_global offset || is_imported m Tables table) why.Unknown s.turns ∷ test filled.trapped why.Trap s.turns ∷ []

abbrev pub elem_filled : Module → State → PlacedSegment ElemSeg → (table : ℕ) → ConstExpr → Filled → Stage
elem_filled m s task table offset filled =
    tried (elem_tests m s table offset filled) (Finished (record s { store = filled.store; unknown = copied_slots s task.address table (place_in m offset) (length task.segment.items) }))

abbrev pub with_elem_mode : Module → State → PlacedSegment ElemSeg → ElemMode → Stage
with_elem_mode m s task (elem.Active table offset) = elem_filled m s task table offset (run_elem_with (value_in m) s.store task task.segment.mode)
with_elem_mode m s task _ = Finished s

-- The stage after an element segment: an active one is copied and dropped, unless something stops
-- it; any other changes nothing.
abbrev pub with_elem : Module → State → PlacedSegment ElemSeg → Stage
with_elem m s task = with_elem_mode m s task task.segment.mode

-- The tests before an active data segment is copied: its offset is unknown or its memory is
-- imported, the copy traps, or more blocks would be written than may be.
abbrev pub data_tests : Module → State → (memory : ℕ) → ConstExpr → Filled → Outcome Touched → List Test
data_tests m s memory offset filled touched =
    test (reads_global offset || is_imported m Memories memory) why.Unknown s.turns ∷ test filled.trapped why.Trap s.turns ∷ test (writes_too_many s.written touched) why.Memory s.turns ∷ []

abbrev pub data_filled : Module → State → (memory : ℕ) → ConstExpr → Filled → Outcome Touched → Stage
data_filled m s memory offset filled touched = tried (data_tests m s memory offset filled touched) (Finished (record s { store = filled.store; written = written_after s.written touched }))

abbrev pub with_data_mode : Module → State → PlacedSegment DataSeg → DataMode → Stage
with_data_mode m s task (data'.Active memory offset) =
    data_filled m s memory offset (run_data_with (value_in m) s.store task task.segment.mode) (Gives (Bytes memory (place_in m offset) (length task.segment.bytes)))
with_data_mode m s task data'.Passive = Finished s

-- The stage after a data segment: an active one is copied and dropped, unless something stops it; a
-- passive one changes nothing.
abbrev pub with_data : Module → State → PlacedSegment DataSeg → Stage
with_data m s task = with_data_mode m s task task.segment.mode

-- Applies `f` to the elements in order, until something stops one.
abbrev pub in_order : {A : Type 0} → (State → A → Stage) → Stage → List A → Stage
in_order f (Finished s) (x ∷ xs) = in_order f (f s x) xs
in_order f t _ = t

-- ---- instantiation ----

-- The stage after all active element segments, and then all active data segments, are copied; they
-- take no turns.
abbrev pub with_segments : Module → State → Stage
with_segments m s = in_order (with_data m) (in_order (with_elem m) (Finished s) (segments_in 0 (own_inst m) (own_inst m).elems m.elems)) (segments_in 0 (own_inst m) (own_inst m).datas m.datas)

abbrev pub filled_from : Module → (turns : ℕ) → Option State → Stage
filled_from m turns (Some s) = with_segments m s
filled_from m turns None = Stopped why.Trap turns

-- The stage after the instantiation without the start. A module with several memories is stopped at
-- once.
abbrev pub instantiated : Module → (turns : ℕ) → Stage
instantiated m turns = cond (nat_lt 1 (length (memories_of m))) (Stopped why.Memory turns) (filled_from m turns (state_at_first m turns))

abbrev pub after_start : Module → Stage → Option ℕ → Stage
after_start m (Finished s) (Some func) = call_end m s func
after_start m t _ = t

-- The stage after the instantiation and the start.
abbrev pub booted : Module → (turns : ℕ) → Stage
booted m turns = after_start m (instantiated m turns) m.start
