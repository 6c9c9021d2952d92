-- More runs that distinguish the definitions from wrong ones, computed: instantiation, linking, the
-- moves of the embedder, a loader, and a module alone with its own exports.
use Rattle.base_lists.proofs.Common.{◌≡◌, refl, ℕ, List, [], ◌∷◌, Option, Some, None, true, false, pos, negsuc}
use Rattle.wasm_tree_spec.specs.Prelude.{Memories, ValType, FuncType, Limits, GlobalType, Instr, Func, Import, ImportDesc, ExportDesc, Export, ConstExpr, ElemSeg, DataSeg, Module}
use Rattle.wasm_tree.specs.declared.types.RefType.TheVariants as reft
use Rattle.wasm_tree.specs.declared.instr.Instr.{out-Instr}
use Rattle.wasm_tree.specs.declared.instr.Instr.TheVariants as i
use Rattle.wasm_tree.specs.declared.instr.LoadOp.TheVariants as load
use Rattle.wasm_tree.specs.declared.instr.StoreOp.TheVariants as store
use Rattle.wasm_tree.specs.declared.module.ImportDesc.TheVariants as im
use Rattle.wasm_tree.specs.declared.module.ExportDesc.TheVariants as ex
use Rattle.wasm_tree.specs.declared.module.ConstExpr.TheVariants as const
use Rattle.wasm_tree.specs.declared.module.ElemMode.TheVariants as elem
use Rattle.wasm_tree.specs.declared.module.DataMode.TheVariants as data'
use Rattle.wasm_num.specs.Operations.{wrapped, un_from, un_to, un_value, bin_from, bin_to, bin_value}
use Rattle.wasm_meaning.specs.Prelude.{copies, Text, Pair, Part, Environment, Shown, Number, Null, OwnFunc, ExternNumber, Function, World, Event, Place, Linked, LinkFault, InstanceTrapped, Returned, Trapped, Asked, GrowAsked, Got, Done, BadMove, Call, Invoke, Take, Answer, Grant, Get, Set, TableOf}
use Rattle.wasm_meaning.specs.Prelude.{GlobalOf, Named, events, events_sequential, LoaderWorld, events_loaded}
use Rattle.wasm_meaning.specs.Access.{load_to, load_width, loaded, store_from, stored}
use Rattle.wasm_meaning.specs.World as world
use Rattle.wasm_meaning.proofs.SmallRuns.{f, g, a, b, e, m, i32, to_i32, nothing, to_nothing, empty, code, num, gives, plain, returns, env, log, linked_by_hand, logging}
use Rattle.wasm_meaning.proofs.MoreRuns.{i64, by}
use Rattle.wasm_meaning.proofs.OrderAndIndexRuns.{funcref, externref, takes_two, two_to_two, pairs, first_and, seven_two, gives_in, plus, difference, from_e, offering, giving, func_table, put_at, data_at, pages, one_memory, byte_in, both_parts, counter, declaring, f_of, from_a, taking}

-- ---- instantiation ----

-- A module with functions 1 to 3, which give these numbers, a table of two entries, and segments.
abbrev with_elems : List ElemSeg → List Instr → Module
with_elems elems body = record (first_and body (giving 1 ∷ (giving 2 ∷ (giving 3 ∷ [])))) { tables = func_table 2 ∷ []; elems = elems }

-- Active segments of no bytes, and of no items, at this offset.
abbrev no_bytes_at : ConstExpr → DataSeg
no_bytes_at offset = record { mode = data'.Active 0 offset; bytes = [] }

abbrev no_items_at : ConstExpr → ElemSeg
no_items_at offset = record { mode = elem.Active 0 offset; ty = reft.Func; items = [] }

-- The events of instantiation: whether the module links, or a segment traps.
abbrev begins : Module → List Event
begins x = events (plain x) [] [] 10

-- A module that imports two globals, a number and a function: its segments take their offset and
-- their item from them, and f adds the result of the function and the byte.
abbrev by_globals : Import → Import → Module
by_globals number func = record (one_memory [] (num 1 ∷ (i.CallIndirect 0 0 ∷ (num 1 ∷ (byte_in 0 ∷ (plus ∷ [])))))) {
  tables = func_table 2 ∷ [];
  imports = number ∷ (func ∷ []);
  elems = record { mode = elem.Active 0 (const.Global 0); ty = reft.Func; items = const.Global 1 ∷ [] } ∷ [];
  datas = record { mode = data'.Active 0 (const.Global 0); bytes = 9 ∷ [] } ∷ [];
}

abbrev fixed : ValType → GlobalType
fixed ty = record { ty = ty; mutable = false }

-- A module that exports the number 1 and a function that gives 3, as globals by the names f and g.
abbrev with_globals_out : Module
with_globals_out = record (gives (num 3 ∷ [])) {
  globals = record { ty = fixed i32; init = const.I32 (pos 1) } ∷ (record { ty = fixed funcref; init = const.Func 0 } ∷ []);
  exports = record { name = f; desc = ex.Global 0 } ∷ (record { name = g; desc = ex.Global 1 } ∷ []);
}

-- The environment's function g of e, as a value.
abbrev its_own : Shown
its_own = OwnFunc (e, g) to_i32

-- An environment with such globals: its function is the one that it offers by the name of the
-- number.
abbrev with_a_global : Environment
with_a_global = record { pair = (e, g); funcs = to_i32 ∷ []; table = None; memory = None; global = Some (record { ty = fixed i32; value = Number 1 }) }
    ∷ (record { pair = (e, m); funcs = []; table = None; memory = None; global = Some (record { ty = fixed funcref; value = its_own }) } ∷ [])

-- A world of two parts: the start of the first calls the environment's function, and the second
-- starts the same function.
abbrev one_start_of_two : World
one_start_of_two = record {
  parts = record { name = Some a; «module» = record pairs { imports = from_e (im.Func 4) ∷ []; funcs = code 4 (i.Call 0 ∷ []) ∷ []; exports = record { name = f; desc = ex.Func 1 } ∷ []; start = Some 1 } }
      ∷ (record { name = Some b; «module» = record pairs { imports = from_a (im.Func 4) ∷ []; start = Some 0 } } ∷ []);
  view = [];
}

-- An environment with one entity of each kind by the names of the function: a table of one entry, a
-- memory of no page, and a global that is 3; and with a global that is 20 by the name m.
abbrev one_of_each : Environment
one_of_each = record {
  pair = (e, g);
  funcs = to_i32 ∷ [];
  table = Some (record { ty = reft.Func; limits = record { min = 1; max = None }; entries = Null ∷ [] });
  memory = Some (record { limits = pages 0; pages = 0; bytes = [] });
  global = Some (record { ty = fixed i32; value = Number 3 });
} ∷ (record { pair = (e, m); funcs = []; table = None; memory = None; global = Some (record { ty = fixed i32; value = Number 20 }) } ∷ [])

-- The table, memory and global of a module are not those of the environment, which come first in
-- the store.
what_is_not_imported_is_not_there : events (plain (record (one_memory [] (i.TableSize 0 ∷ (i.MemorySize 0 ∷ (plus ∷ (i.GlobalGet 0 ∷ (plus ∷ [])))))) { tables = func_table 2 ∷ []; globals = counter 40 ∷ [] })) one_of_each (Call f [] ∷ []) 40 ≡ returns (Number 43 ∷ [])
unfolding out-Instr denote.Hole.Carrier.out wrapped un_from un_to un_value bin_from bin_to bin_value load_to load_width loaded store_from stored
what_is_not_imported_is_not_there = refl

-- Global 1 is the third import, from which a defined global takes its value.
imports_of_several_kinds : events (record {
  parts = record {
    name = None;
    «module» = record (first_and (i.Call 0 ∷ (i.GlobalGet 2 ∷ (plus ∷ (i.GlobalGet 0 ∷ (plus ∷ []))))) [])
        { imports = from_e (im.Global (fixed i32)) ∷ (from_e (im.Func 0) ∷ (record { «module» = e; field = m; desc = im.Global (fixed i32) } ∷ [])); globals = record { ty = fixed i32; init = const.Global 1 } ∷ [] };
  } ∷ [];
  view = (f, record { part = 0; what = ex.Func 1 }) ∷ [];
}) one_of_each
    (Call f [] ∷ (Answer (Number 19 ∷ []) ∷ [])) 40 ≡ Linked ∷ (Asked (e, g) to_i32 [] ∷ (Returned (Number 42 ∷ []) ∷ []))
unfolding out-Instr denote.Hole.Carrier.out wrapped un_from un_to un_value bin_from bin_to bin_value load_to load_width loaded store_from stored
imports_of_several_kinds = refl

-- The globals are an i64 that is -1, null and a function.
globals_of_each_type : events (plain (record empty {
  types = record { params = []; results = i64 ∷ (externref ∷ (funcref ∷ [])) } ∷ [];
  funcs = code 0 (i.GlobalGet 0 ∷ (i.GlobalGet 1 ∷ (i.GlobalGet 2 ∷ []))) ∷ [];
  globals = record { ty = fixed i64; init = const.I64 (negsuc 0) } ∷
      (record { ty = fixed externref; init = const.Null reft.Extern } ∷ (record { ty = fixed funcref; init = const.Func 0 } ∷ []));
})) [] (Call f [] ∷ []) 40 ≡ returns (Number 18446744073709551615 ∷ (Null ∷ (Function 0 ∷ [])))
unfolding out-Instr denote.Hole.Carrier.out wrapped un_from un_to un_value bin_from bin_to bin_value load_to load_width loaded store_from stored
globals_of_each_type = refl

-- Of two data segments that overlap, the later is written last.
data_segments_come_in_order : gives_in (one_memory (data_at 0 0 (5 ∷ (6 ∷ [])) ∷ (data_at 0 1 (7 ∷ []) ∷ [])) (num 0 ∷ (i.Load load.I32Load16U (by 0) ∷ []))) ≡ returns (Number 1797 ∷ [])
unfolding out-Instr denote.Hole.Carrier.out wrapped un_from un_to un_value bin_from bin_to bin_value load_to load_width loaded store_from stored
data_segments_come_in_order = refl

-- Of two element segments that overlap, the later is written last.
element_segments_come_in_order : gives_in (with_elems (put_at 0 0 (const.Func 1 ∷ (const.Func 2 ∷ [])) ∷ (put_at 0 1 (const.Func 3 ∷ []) ∷ [])) (num 1 ∷ (i.CallIndirect 0 0 ∷ []))) ≡ returns (Number 3 ∷ [])
unfolding out-Instr denote.Hole.Carrier.out wrapped un_from un_to un_value bin_from bin_to bin_value load_to load_width loaded store_from stored
element_segments_come_in_order = refl

-- A segment of no bytes may be at the end of a memory.
no_bytes_at_the_end : begins (one_memory (no_bytes_at (const.I32 (pos 65536)) ∷ []) (num 1 ∷ [])) ≡ Linked ∷ []
unfolding out-Instr denote.Hole.Carrier.out wrapped un_from un_to un_value bin_from bin_to bin_value load_to load_width loaded store_from stored
no_bytes_at_the_end = refl

-- A segment that is past the end traps, even if it is empty.
no_bytes_past_the_end : begins (one_memory (no_bytes_at (const.I32 (pos 65537)) ∷ []) (num 1 ∷ [])) ≡ InstanceTrapped ∷ []
unfolding out-Instr denote.Hole.Carrier.out wrapped un_from un_to un_value bin_from bin_to bin_value load_to load_width loaded store_from stored
no_bytes_past_the_end = refl

-- An offset has no sign: -1 is past the end.
no_bytes_at_an_offset_below_zero : begins (one_memory (no_bytes_at (const.I32 (negsuc 0)) ∷ []) (num 1 ∷ [])) ≡ InstanceTrapped ∷ []
unfolding out-Instr denote.Hole.Carrier.out wrapped un_from un_to un_value bin_from bin_to bin_value load_to load_width loaded store_from stored
no_bytes_at_an_offset_below_zero = refl

-- A segment of no items may be at the end of a table.
no_items_at_the_end : begins (with_elems (no_items_at (const.I32 (pos 2)) ∷ []) (num 1 ∷ [])) ≡ Linked ∷ []
unfolding out-Instr denote.Hole.Carrier.out wrapped un_from un_to un_value bin_from bin_to bin_value load_to load_width loaded store_from stored
no_items_at_the_end = refl

-- A segment that is past the end traps, even if it is empty.
no_items_past_the_end : begins (with_elems (no_items_at (const.I32 (pos 3)) ∷ []) (num 1 ∷ [])) ≡ InstanceTrapped ∷ []
unfolding out-Instr denote.Hole.Carrier.out wrapped un_from un_to un_value bin_from bin_to bin_value load_to load_width loaded store_from stored
no_items_past_the_end = refl

-- A segment of no items at -1 is past the end of a table.
no_items_at_an_offset_below_zero : begins (with_elems (no_items_at (const.I32 (negsuc 0)) ∷ []) (num 1 ∷ [])) ≡ InstanceTrapped ∷ []
unfolding out-Instr denote.Hole.Carrier.out wrapped un_from un_to un_value bin_from bin_to bin_value load_to load_width loaded store_from stored
no_items_at_an_offset_below_zero = refl

abbrev by_its_globals : World
by_its_globals = record {
  parts = record { name = Some a; «module» = with_globals_out } ∷ (record { name = None; «module» = by_globals (from_a (im.Global (fixed i32))) (record { «module» = a; field = g; desc = im.Global (fixed funcref) }) } ∷ []);
  view = (f, record { part = 1; what = ex.Func 0 }) ∷ [];
}

-- The offsets and an item are read from globals of another part.
segments_by_joined_globals : events by_its_globals [] (Call f [] ∷ []) 40 ≡ returns (Number 12 ∷ [])
unfolding out-Instr denote.Hole.Carrier.out wrapped un_from un_to un_value bin_from bin_to bin_value load_to load_width loaded store_from stored
segments_by_joined_globals = refl

-- The offsets and an item are read from globals of a part that was instantiated before.
segments_by_joined_globals_in_turn : events_sequential by_its_globals [] (Call f [] ∷ []) 40 ≡ returns (Number 12 ∷ [])
unfolding out-Instr denote.Hole.Carrier.out wrapped un_from un_to un_value bin_from bin_to bin_value load_to load_width loaded store_from stored
segments_by_joined_globals_in_turn = refl

-- The offsets and an item are read from globals of the environment.
segments_by_globals_of_the_environment : events (plain (by_globals (from_e (im.Global (fixed i32))) (record { «module» = e; field = m; desc = im.Global (fixed funcref) }))) with_a_global (Call f [] ∷ (Answer (Number 3 ∷ []) ∷ [])) 40 ≡ Linked ∷
    (Asked (e, g) to_i32 [] ∷ (Returned (Number 12 ∷ []) ∷ []))
unfolding out-Instr denote.Hole.Carrier.out wrapped un_from un_to un_value bin_from bin_to bin_value load_to load_width loaded store_from stored
segments_by_globals_of_the_environment = refl

-- A function that two parts start is called twice.
one_start_of_two_parts : events one_start_of_two (offering (nothing ∷ [])) (Answer [] ∷ (Answer [] ∷ [])) 40 ≡ Asked (e, g) nothing [] ∷ (Asked (e, g) nothing [] ∷ (Linked ∷ []))
unfolding out-Instr denote.Hole.Carrier.out wrapped un_from un_to un_value bin_from bin_to bin_value load_to load_width loaded store_from stored
one_start_of_two_parts = refl

-- ---- linking ----

-- The part a exports its import, by the name f.
abbrev handing_on : Import → Part
handing_on import = record { name = Some a; «module» = record empty { imports = import ∷ []; exports = record { name = f; desc = ex.Func 0 } ∷ [] } }

-- A part whose function f calls the f of part a.
abbrev through_a : Part
through_a = record { name = None; «module» = record (first_and (i.Call 0 ∷ []) []) { imports = from_a (im.Func 0) ∷ [] } }

-- A part named a, whose function f gives a number.
abbrev giver_of : ℕ → Part
giver_of n = record { name = Some a; «module» = record (gives (num n ∷ [])) { exports = record { name = f; desc = ex.Func 0 } ∷ [] } }

abbrev func_1_of : List Part → World
func_1_of parts = record { parts = parts; view = (f, record { part = 0; what = ex.Func 1 }) ∷ [] }

-- A world of a part that imports its own function 1, which gives 3, and whose f calls this import.
abbrev from_itself : World
from_itself = record {
  parts = record { name = Some a; «module» = record pairs { imports = from_a (im.Func 0) ∷ []; funcs = giving 3 ∷ (code 0 (i.Call 0 ∷ []) ∷ []); exports = record { name = f; desc = ex.Func 1 } ∷ [] } } ∷ [];
  view = (f, record { part = 0; what = ex.Func 2 }) ∷ [];
}

abbrev varying : GlobalType
varying = record { ty = i32; mutable = true }

-- A module that exports a memory, a table and a global by the names f, g and m: function 0 adds the
-- byte 0, the result of entry 0, and the global.
abbrev sharing : Module
sharing = record (one_memory [] (num 0 ∷ (byte_in 0 ∷ (num 0 ∷ (i.CallIndirect 0 0 ∷ (plus ∷ (i.GlobalGet 0 ∷ (plus ∷ [])))))))) {
  tables = func_table 1 ∷ [];
  globals = counter 0 ∷ [];
  exports = record { name = f; desc = ex.Memory 0 } ∷ (record { name = g; desc = ex.Table 0 } ∷ (record { name = m; desc = ex.Global 0 } ∷ []));
}

-- A module that imports these: its function writes 5, a function that gives 30, and 7 into them.
abbrev writing : Module
writing = record (first_and (num 0 ∷ (num 5 ∷ (i.Store store.I32Store8 (by 0) ∷ (num 0 ∷ (i.RefFunc 1 ∷ (i.TableSet 0 ∷ (num 7 ∷ (i.GlobalSet 0 ∷ (num 1 ∷ []))))))))) (giving 30 ∷ [])) {
  imports = from_a (im.Memory (pages 1)) ∷ (record { «module» = a; field = g; desc = im.Table (func_table 1) } ∷ (record { «module» = a; field = m; desc = im.Global varying } ∷ []));
  exports = record { name = f; desc = ex.Func 1 } ∷ [];
}

-- Limits with this minimum and this maximum, if there is one.
abbrev up_to : ℕ → Option ℕ → Limits
up_to least most = record { min = least; max = most }

-- A part has a memory, or a table, of the first limits, and another part asks for the second
-- limits.
abbrev memory_for : Limits → Limits → List Event
memory_for has asks = events (taking (record empty { mems = has ∷ []; exports = record { name = f; desc = ex.Memory 0 } ∷ [] }) (im.Memory asks) 0 (num 1 ∷ [])) [] (Call f [] ∷ []) 20

abbrev table_for : Limits → Limits → List Event
table_for has asks = events (taking (record empty { tables = record { ty = reft.Func; limits = has } ∷ []; exports = record { name = f; desc = ex.Table 0 } ∷ [] }) (im.Table (record { ty = reft.Func; limits = asks })) 0 (num 1 ∷ [])) [] (Call f [] ∷ []) 20

-- A module with an import from the environment.
abbrev needing : ImportDesc → List Instr → Module
needing desc body = record (first_and body []) { imports = from_e desc ∷ [] }

-- An environment with a memory of one page and a table of one entry, of which the minima are 0.
abbrev above_its_minimum : Environment
above_its_minimum = record {
  pair = (e, g);
  funcs = [];
  table = Some (record { ty = reft.Func; limits = up_to 0 None; entries = Null ∷ [] });
  memory = Some (record { limits = up_to 0 None; pages = 1; bytes = copies 65536 0 });
  global = None;
} ∷ []

-- The environment has a global of the first type, and a module asks for the second type.
abbrev global_for : GlobalType → Shown → GlobalType → List Event
global_for has value asks = events (plain (needing (im.Global asks) (num 1 ∷ []))) (record { pair = (e, g); funcs = []; table = None; memory = None; global = Some (record { ty = has; value = value }) } ∷ []) (Call f [] ∷ []) 20

-- The import of a part leads through a to b.
a_path_of_two_joins : events (func_1_of (through_a ∷ (handing_on (record { «module» = b; field = f; desc = im.Func 0 }) ∷ (record { name = Some b; «module» = record (gives (num 3 ∷ [])) { exports = record { name = f; desc = ex.Func 0 } ∷ [] } } ∷ [])))) [] (Call f [] ∷ []) 40 ≡
    returns (Number 3 ∷ [])
unfolding out-Instr denote.Hole.Carrier.out wrapped un_from un_to un_value bin_from bin_to bin_value load_to load_width loaded store_from stored
a_path_of_two_joins = refl

-- The import of a part leads through a to the environment.
a_path_to_the_environment : events (func_1_of (through_a ∷ (handing_on (from_e (im.Func 0)) ∷ []))) (offering (to_i32 ∷ [])) (Call f [] ∷ (Answer (Number 4 ∷ []) ∷ [])) 40 ≡ Linked ∷ (Asked (e, g) to_i32 [] ∷ (Returned (Number 4 ∷ []) ∷ []))
unfolding out-Instr denote.Hole.Carrier.out wrapped un_from un_to un_value bin_from bin_to bin_value load_to load_width loaded store_from stored
a_path_to_the_environment = refl

-- Function 0 of the part a is its second import.
a_path_through_an_import_of_several : events (func_1_of (through_a ∷ (record {
  name = Some a;
  «module» =
      record empty { imports = record { «module» = b; field = g; desc = im.Global (fixed i32) } ∷ (record { «module» = b; field = f; desc = im.Func 0 } ∷ []); exports = record { name = f; desc = ex.Func 0 } ∷ [] };
} ∷
    (record { name = Some b; «module» = record with_globals_out { exports = record { name = f; desc = ex.Func 0 } ∷ (record { name = g; desc = ex.Global 0 } ∷ []) } } ∷ [])))) [] (Call f [] ∷ []) 40 ≡ returns (Number 3 ∷ [])
unfolding out-Instr denote.Hole.Carrier.out wrapped un_from un_to un_value bin_from bin_to bin_value load_to load_width loaded store_from stored
a_path_through_an_import_of_several = refl

-- Of two parts with the same name, the first counts.
parts_that_share_a_name : events (func_1_of (through_a ∷ (giver_of 3 ∷ (giver_of 4 ∷ [])))) [] (Call f [] ∷ []) 40 ≡ returns (Number 3 ∷ [])
unfolding out-Instr denote.Hole.Carrier.out wrapped un_from un_to un_value bin_from bin_to bin_value load_to load_width loaded store_from stored
parts_that_share_a_name = refl

-- The import of the part is its own function.
a_part_that_imports_from_itself : events from_itself [] (Call f [] ∷ []) 40 ≡ returns (Number 3 ∷ [])
unfolding out-Instr denote.Hole.Carrier.out wrapped un_from un_to un_value bin_from bin_to bin_value load_to load_width loaded store_from stored
a_part_that_imports_from_itself = refl

-- The second part writes into a memory, a table and a global of the first part.
one_part_writes_what_another_reads : events (both_parts sharing writing) [] (Call g [] ∷ (Call f [] ∷ (Call g [] ∷ []))) 50 ≡ Linked ∷ (Trapped ∷ (Returned (Number 1 ∷ []) ∷ (Returned (Number 42 ∷ []) ∷ [])))
unfolding out-Instr denote.Hole.Carrier.out wrapped un_from un_to un_value bin_from bin_to bin_value load_to load_width loaded store_from stored
one_part_writes_what_another_reads = refl

-- The second part does so if it is instantiated after the first, too.
one_part_writes_what_an_earlier_one_reads : events_sequential (both_parts sharing writing) [] (Call g [] ∷ (Call f [] ∷ (Call g [] ∷ []))) 50 ≡ Linked ∷ (Trapped ∷ (Returned (Number 1 ∷ []) ∷ (Returned (Number 42 ∷ []) ∷ [])))
unfolding out-Instr denote.Hole.Carrier.out wrapped un_from un_to un_value bin_from bin_to bin_value load_to load_width loaded store_from stored
one_part_writes_what_an_earlier_one_reads = refl

-- The memory has no page, and one is asked for.
a_defined_memory_that_is_too_small : memory_for (up_to 0 None) (up_to 1 None) ≡ LinkFault ∷ (BadMove ∷ [])
unfolding out-Instr denote.Hole.Carrier.out wrapped un_from un_to un_value bin_from bin_to bin_value load_to load_width loaded store_from stored
a_defined_memory_that_is_too_small = refl

-- The memory has no maximum, and one is asked for.
a_defined_memory_without_a_maximum : memory_for (up_to 0 None) (up_to 0 (Some 2)) ≡ LinkFault ∷ (BadMove ∷ [])
unfolding out-Instr denote.Hole.Carrier.out wrapped un_from un_to un_value bin_from bin_to bin_value load_to load_width loaded store_from stored
a_defined_memory_without_a_maximum = refl

-- The maximum is greater than the one asked for.
a_defined_memory_with_a_greater_maximum : memory_for (up_to 0 (Some 3)) (up_to 0 (Some 2)) ≡ LinkFault ∷ (BadMove ∷ [])
unfolding out-Instr denote.Hole.Carrier.out wrapped un_from un_to un_value bin_from bin_to bin_value load_to load_width loaded store_from stored
a_defined_memory_with_a_greater_maximum = refl

-- The maximum is less than the one asked for, which is right.
a_defined_memory_with_a_lesser_maximum : memory_for (up_to 0 (Some 2)) (up_to 0 (Some 3)) ≡ returns (Number 1 ∷ [])
unfolding out-Instr denote.Hole.Carrier.out wrapped un_from un_to un_value bin_from bin_to bin_value load_to load_width loaded store_from stored
a_defined_memory_with_a_lesser_maximum = refl

-- The table has one entry, and two are asked for.
a_defined_table_that_is_too_small : table_for (up_to 1 None) (up_to 2 None) ≡ LinkFault ∷ (BadMove ∷ [])
unfolding out-Instr denote.Hole.Carrier.out wrapped un_from un_to un_value bin_from bin_to bin_value load_to load_width loaded store_from stored
a_defined_table_that_is_too_small = refl

-- The table has no maximum, and one is asked for.
a_defined_table_without_a_maximum : table_for (up_to 1 None) (up_to 1 (Some 2)) ≡ LinkFault ∷ (BadMove ∷ [])
unfolding out-Instr denote.Hole.Carrier.out wrapped un_from un_to un_value bin_from bin_to bin_value load_to load_width loaded store_from stored
a_defined_table_without_a_maximum = refl

-- The maximum is greater than the one asked for.
a_defined_table_with_a_greater_maximum : table_for (up_to 1 (Some 3)) (up_to 1 (Some 2)) ≡ LinkFault ∷ (BadMove ∷ [])
unfolding out-Instr denote.Hole.Carrier.out wrapped un_from un_to un_value bin_from bin_to bin_value load_to load_width loaded store_from stored
a_defined_table_with_a_greater_maximum = refl

-- The table has a lesser maximum and more entries than are asked for, which is right.
a_defined_table_with_a_lesser_maximum : table_for (up_to 1 (Some 2)) (up_to 0 (Some 3)) ≡ returns (Number 1 ∷ [])
unfolding out-Instr denote.Hole.Carrier.out wrapped un_from un_to un_value bin_from bin_to bin_value load_to load_width loaded store_from stored
a_defined_table_with_a_lesser_maximum = refl

-- The size of an imported memory counts, and not its minimum.
a_memory_above_its_minimum : events (plain (needing (im.Memory (pages 1)) (i.MemorySize 0 ∷ []))) above_its_minimum (Call f [] ∷ []) 20 ≡ returns (Number 1 ∷ [])
unfolding out-Instr denote.Hole.Carrier.out wrapped un_from un_to un_value bin_from bin_to bin_value load_to load_width loaded store_from stored
a_memory_above_its_minimum = refl

-- The size of an imported table counts, and not its minimum.
a_table_above_its_minimum : events (plain (needing (im.Table (func_table 1)) (i.TableSize 0 ∷ []))) above_its_minimum (Call f [] ∷ []) 20 ≡ returns (Number 1 ∷ [])
unfolding out-Instr denote.Hole.Carrier.out wrapped un_from un_to un_value bin_from bin_to bin_value load_to load_width loaded store_from stored
a_table_above_its_minimum = refl

-- The global is an i64, and an i32 is asked for.
a_global_of_another_type : global_for (fixed i64) (Number 1) (fixed i32) ≡ LinkFault ∷ (BadMove ∷ [])
unfolding out-Instr denote.Hole.Carrier.out wrapped un_from un_to un_value bin_from bin_to bin_value load_to load_width loaded store_from stored
a_global_of_another_type = refl

-- The global is a function, and an extern reference is asked for.
a_global_of_other_references : global_for (fixed funcref) Null (fixed externref) ≡ LinkFault ∷ (BadMove ∷ [])
unfolding out-Instr denote.Hole.Carrier.out wrapped un_from un_to un_value bin_from bin_to bin_value load_to load_width loaded store_from stored
a_global_of_other_references = refl

-- The global is immutable, and a mutable one is asked for.
a_global_that_is_immutable : global_for (fixed i32) (Number 1) varying ≡ LinkFault ∷ (BadMove ∷ [])
unfolding out-Instr denote.Hole.Carrier.out wrapped un_from un_to un_value bin_from bin_to bin_value load_to load_width loaded store_from stored
a_global_that_is_immutable = refl

-- The global is mutable, and an immutable one is asked for.
a_global_that_is_mutable : global_for varying (Number 1) (fixed i32) ≡ LinkFault ∷ (BadMove ∷ [])
unfolding out-Instr denote.Hole.Carrier.out wrapped un_from un_to un_value bin_from bin_to bin_value load_to load_width loaded store_from stored
a_global_that_is_mutable = refl

-- The global has the type that is asked for.
a_global_that_fits : global_for varying (Number 1) varying ≡ returns (Number 1 ∷ [])
unfolding out-Instr denote.Hole.Carrier.out wrapped un_from un_to un_value bin_from bin_to bin_value load_to load_width loaded store_from stored
a_global_that_fits = refl

-- ---- moves ----

-- A world of one part with two functions by the names f and g.
abbrev naming : ℕ → ℕ → Module → World
naming first second x = record { parts = record { name = None; «module» = x } ∷ []; view = (f, record { part = 0; what = ex.Func first }) ∷ ((g, record { part = 0; what = ex.Func second }) ∷ []) }

-- A module whose function gives its argument.
abbrev same_as : ValType → Module
same_as ty = declaring (record { params = ty ∷ []; results = ty ∷ [] }) [] (i.LocalGet 0 ∷ [])

-- A world in which f adds 1 and the result of the environment's function, and g has this code.
abbrev waiting_and : List Instr → World
waiting_and body = naming 1 2 (record (first_and (num 1 ∷ (i.Call 0 ∷ (plus ∷ []))) (code 0 body ∷ [])) { imports = from_e (im.Func 0) ∷ [] })

-- The type of a function that gives a function.
abbrev gives_func : FuncType
gives_func = record { params = []; results = funcref ∷ [] }

-- A world in which f calls the function that the environment gives, and g gives 5.
abbrev calling_what_it_gets : World
calling_what_it_gets = naming 1 2 (record empty {
  types = to_i32 ∷ (gives_func ∷ []);
  imports = from_e (im.Func 1) ∷ [];
  funcs = code 0 (num 0 ∷ (i.Call 0 ∷ (i.TableSet 0 ∷ (num 0 ∷ (i.CallIndirect 0 0 ∷ []))))) ∷ (giving 5 ∷ []);
  tables = func_table 1 ∷ [];
})

-- An environment with a table that holds its function, and a global that is 3.
abbrev table_and_global : Environment
table_and_global = record {
  pair = (e, g);
  funcs = to_i32 ∷ [];
  table = Some (record { ty = reft.Func; limits = up_to 1 None; entries = its_own ∷ [] });
  memory = None;
  global = Some (record { ty = varying; value = Number 3 });
} ∷ []

abbrev its_table : Place
its_table = TableOf (e, g)

abbrev its_global : Place
its_global = GlobalOf (e, g)

-- The number 2 ^ 32 is no i32, and the number before it is one.
an_i32_that_is_too_great : f_of (same_as i32) (Call f (Number 4294967296 ∷ []) ∷ (Call f (Number 4294967295 ∷ []) ∷ [])) ≡ Linked ∷ (BadMove ∷ (Returned (Number 4294967295 ∷ []) ∷ []))
unfolding out-Instr denote.Hole.Carrier.out wrapped un_from un_to un_value bin_from bin_to bin_value load_to load_width loaded store_from stored
an_i32_that_is_too_great = refl

-- The number 2 ^ 64 is no i64, and the number before it is one.
an_i64_that_is_too_great : f_of (same_as i64) (Call f (Number 18446744073709551616 ∷ []) ∷ (Call f (Number 18446744073709551615 ∷ []) ∷ [])) ≡ Linked ∷ (BadMove ∷ (Returned (Number 18446744073709551615 ∷ []) ∷ []))
unfolding out-Instr denote.Hole.Carrier.out wrapped un_from un_to un_value bin_from bin_to bin_value load_to load_width loaded store_from stored
an_i64_that_is_too_great = refl

-- Null and an extern number are no i32.
a_reference_is_no_number : f_of (same_as i32) (Call f (Null ∷ []) ∷ (Call f (ExternNumber 0 ∷ []) ∷ (Call f (Number 0 ∷ []) ∷ []))) ≡ Linked ∷ (BadMove ∷ (BadMove ∷ (Returned (Number 0 ∷ []) ∷ [])))
unfolding out-Instr denote.Hole.Carrier.out wrapped un_from un_to un_value bin_from bin_to bin_value load_to load_width loaded store_from stored
a_reference_is_no_number = refl

-- An extern number and a number are no function.
what_is_no_function : f_of (same_as funcref) (Call f (ExternNumber 0 ∷ []) ∷ (Call f (Number 0 ∷ []) ∷ (Call f (Null ∷ []) ∷ []))) ≡ Linked ∷ (BadMove ∷ (BadMove ∷ (Returned (Null ∷ []) ∷ [])))
unfolding out-Instr denote.Hole.Carrier.out wrapped un_from un_to un_value bin_from bin_to bin_value load_to load_width loaded store_from stored
what_is_no_function = refl

-- A function and a number are no extern references.
what_is_no_extern_reference : events (plain (same_as externref)) (offering (to_i32 ∷ [])) (Call f (its_own ∷ []) ∷ (Call f (Number 0 ∷ []) ∷ (Call f (ExternNumber 18446744073709551616 ∷ []) ∷ []))) 40 ≡ Linked ∷ (BadMove ∷ (BadMove ∷ (Returned (ExternNumber 18446744073709551616 ∷ []) ∷ [])))
unfolding out-Instr denote.Hole.Carrier.out wrapped un_from un_to un_value bin_from bin_to bin_value load_to load_width loaded store_from stored
what_is_no_extern_reference = refl

-- The arguments are one number, three numbers, and two of which the second is null.
arguments_that_are_not_two : f_of (declaring two_to_two [] (i.LocalGet 0 ∷ (i.LocalGet 1 ∷ []))) (Call f (Number 7 ∷ []) ∷ (Call f (Number 7 ∷ (Number 2 ∷ (Number 1 ∷ []))) ∷ (Call f (Number 7 ∷ (Null ∷ [])) ∷ (Call f (Number 7 ∷ (Number 2 ∷ [])) ∷ [])))) ≡ Linked ∷
    (BadMove ∷ (BadMove ∷ (BadMove ∷ (Returned (Number 7 ∷ (Number 2 ∷ [])) ∷ []))))
unfolding out-Instr denote.Hole.Carrier.out wrapped un_from un_to un_value bin_from bin_to bin_value load_to load_width loaded store_from stored
arguments_that_are_not_two = refl

-- A function is given in an answer by its number.
a_function_in_an_answer : events calling_what_it_gets (offering (gives_func ∷ [])) (Take g ∷ (Call f [] ∷ (Answer (Function 1 ∷ []) ∷ (Answer (Function 0 ∷ []) ∷ [])))) 40 ≡ Linked ∷ (Got (Function 0) ∷ (Asked (e, g) gives_func [] ∷ (BadMove ∷ (Returned (Number 5 ∷ []) ∷ []))))
unfolding out-Instr denote.Hole.Carrier.out wrapped un_from un_to un_value bin_from bin_to bin_value load_to load_width loaded store_from stored
a_function_in_an_answer = refl

-- The environment's own function, of another type than that of the call, is given in an answer.
an_own_function_in_an_answer : events calling_what_it_gets (offering (gives_func ∷ [])) (Call f [] ∷ (Answer (OwnFunc (e, g) gives_func ∷ []) ∷ [])) 40 ≡ Linked ∷ (Asked (e, g) gives_func [] ∷ (Trapped ∷ []))
unfolding out-Instr denote.Hole.Carrier.out wrapped un_from un_to un_value bin_from bin_to bin_value load_to load_width loaded store_from stored
an_own_function_in_an_answer = refl

-- The function that the environment's table holds is called.
an_own_function_in_a_table_at_first : events (plain (needing (im.Table (func_table 1)) (num 0 ∷ (i.CallIndirect 0 0 ∷ [])))) table_and_global (Get its_table 0 ∷ (Call f [] ∷ (Answer (Number 4 ∷ []) ∷ []))) 40 ≡ Linked ∷ (Got its_own ∷ (Asked (e, g) to_i32 [] ∷ (Returned (Number 4 ∷ []) ∷ [])))
unfolding out-Instr denote.Hole.Carrier.out wrapped un_from un_to un_value bin_from bin_to bin_value load_to load_width loaded store_from stored
an_own_function_in_a_table_at_first = refl

-- A table of one entry has no entry 1, and takes no value that is not a function.
an_entry_past_the_end : events (plain (gives (num 5 ∷ []))) table_and_global (Get its_table 1 ∷ (Set its_table 1 Null ∷ (Set its_table 0 (ExternNumber 0) ∷ (Set its_table 0 (Number 0) ∷ (Set its_table 0 Null ∷ (Get its_table 0 ∷ [])))))) 40 ≡ Linked ∷
    (BadMove ∷ (BadMove ∷ (BadMove ∷ (BadMove ∷ (Done ∷ (Got Null ∷ []))))))
unfolding out-Instr denote.Hole.Carrier.out wrapped un_from un_to un_value bin_from bin_to bin_value load_to load_width loaded store_from stored
an_entry_past_the_end = refl

-- The number 2 ^ 32 and null are no i32, and a global has no place 1.
a_global_is_set_to_its_type : events (plain (gives (num 5 ∷ []))) table_and_global (Set its_global 0 (Number 4294967296) ∷ (Set its_global 0 Null ∷ (Set its_global 1 (Number 4) ∷ (Get its_global 0 ∷ (Set its_global 0 (Number 4294967295) ∷ (Get its_global 0 ∷ [])))))) 40 ≡ Linked ∷
    (BadMove ∷ (BadMove ∷ (BadMove ∷ (Got (Number 3) ∷ (Done ∷ (Got (Number 4294967295) ∷ []))))))
unfolding out-Instr denote.Hole.Carrier.out wrapped un_from un_to un_value bin_from bin_to bin_value load_to load_width loaded store_from stored
a_global_is_set_to_its_type = refl

-- A function is called by its number while a call waits, whose value 1 stays.
a_shown_function_while_a_call_waits : events (waiting_and (num 5 ∷ [])) (offering (to_i32 ∷ [])) (Take g ∷ (Call f [] ∷ (Invoke 0 [] ∷ (Answer (Number 8 ∷ []) ∷ [])))) 40 ≡ Linked ∷ (Got (Function 0) ∷ (Asked (e, g) to_i32 [] ∷ (Returned (Number 5 ∷ []) ∷ (Returned (Number 9 ∷ []) ∷ []))))
unfolding out-Instr denote.Hole.Carrier.out wrapped un_from un_to un_value bin_from bin_to bin_value load_to load_width loaded store_from stored
a_shown_function_while_a_call_waits = refl

-- A call that traps leaves the other call waiting.
a_trap_while_a_call_waits : events (waiting_and (i.Unreachable ∷ [])) (offering (to_i32 ∷ [])) (Call f [] ∷ (Call g [] ∷ (Answer (Number 8 ∷ []) ∷ []))) 40 ≡ Linked ∷ (Asked (e, g) to_i32 [] ∷ (Trapped ∷ (Returned (Number 9 ∷ []) ∷ [])))
unfolding out-Instr denote.Hole.Carrier.out wrapped un_from un_to un_value bin_from bin_to bin_value load_to load_width loaded store_from stored
a_trap_while_a_call_waits = refl

-- The code reads after the answer what was set before it.
a_byte_is_set_while_a_call_waits : events (record {
  parts = record { name = None; «module» = record (one_memory [] (i.Call 0 ∷ (num 0 ∷ (byte_in 0 ∷ (plus ∷ []))))) { imports = from_e (im.Func 0) ∷ [] } } ∷ [];
  view = (f, record { part = 0; what = ex.Func 1 }) ∷
      ((m, record { part = 0; what = ex.Memory 0 }) ∷ []);
}) (offering (to_i32 ∷ [])) (Call f [] ∷ (Set (Named m) 0 (Number 9) ∷ (Answer (Number 1 ∷ []) ∷ []))) 40 ≡ Linked ∷ (Asked (e, g) to_i32 [] ∷ (Done ∷ (Returned (Number 10 ∷ []) ∷ [])))
unfolding out-Instr denote.Hole.Carrier.out wrapped un_from un_to un_value bin_from bin_to bin_value load_to load_width loaded store_from stored
a_byte_is_set_while_a_call_waits = refl

-- ---- under a loader ----

abbrev out_as : Text → ExportDesc → Export
out_as name desc = record { name = name; desc = desc }

abbrev of_b : Text → ImportDesc → Import
of_b field desc = record { «module» = b; field = field; desc = desc }

-- A primary module with a table of slots by the name a, with these functions in it; function 0 is a
-- placeholder, by the name g of b.
abbrev primary : ℕ → ℕ → List ConstExpr → List Func → Module
primary ty slots items funcs = record pairs {
  imports = record { «module» = b; field = g; desc = im.Func ty } ∷ [];
  funcs = funcs;
  tables = func_table slots ∷ [];
  exports = out_as a (ex.Table 0) ∷ [];
  elems = put_at 0 0 items ∷ [];
}

-- A secondary module that imports the table of slots from b, and writes these functions there.
abbrev secondary : ℕ → List ConstExpr → List Func → Module
secondary slots items funcs = record pairs { imports = of_b a (im.Table (func_table slots)) ∷ []; funcs = funcs; elems = put_at 0 0 items ∷ [] }

abbrev loaded_by : Module → Module → List (Pair × FuncType) → List (Text × ExportDesc) → LoaderWorld
loaded_by first second placeholders view = record { primary = first; secondaries = record { «module» = second; placeholders = placeholders } ∷ []; import_namespace = b; slot_table = 0; view = view }

abbrev one_slot : List (Pair × FuncType)
one_slot = ((b, g), to_i32) ∷ []

-- The function in the slot gets the arguments in order.
a_placeholder_takes_two_in_order : events_loaded (loaded_by (primary 1 1 (const.Func 0 ∷ []) (code 0 (seven_two (i.Call 0 ∷ [])) ∷ [])) (secondary 1 (const.Func 0 ∷ []) (difference ∷ [])) (((b, g), takes_two) ∷ []) ((f, ex.Func 1) ∷ [])) [] (Call f [] ∷ (Call f [] ∷ [])) 60 ≡ Linked ∷
    (Returned (Number 5 ∷ []) ∷ (Returned (Number 5 ∷ []) ∷ []))
unfolding out-Instr denote.Hole.Carrier.out wrapped un_from un_to un_value bin_from bin_to bin_value load_to load_width loaded store_from stored
a_placeholder_takes_two_in_order = refl

-- A primary module that exports, besides the table of slots, a memory whose byte 0 the view's f
-- sets to 5, a global that is 7, and a function that gives 30.
abbrev sharing_all : Module
sharing_all = record (primary 0 1 (const.Func 0 ∷ []) (code 0 (num 0 ∷ (num 5 ∷ (i.Store store.I32Store8 (by 0) ∷ (i.Call 0 ∷ [])))) ∷ (giving 30 ∷ []))) {
  mems = pages 1 ∷ [];
  globals = counter 7 ∷ [];
  exports = out_as a (ex.Table 0) ∷ (out_as f (ex.Func 2) ∷ (out_as g (ex.Global 0) ∷ (out_as m (ex.Memory 0) ∷ [])));
}

-- The moved function adds all three, and sets the global to 8.
abbrev adding_all : Module
adding_all = record (secondary 1 (const.Func 1 ∷ []) (code 0 (i.Call 0 ∷ (i.GlobalGet 0 ∷ (plus ∷ (num 0 ∷ (byte_in 0 ∷ (plus ∷ (num 8 ∷ (i.GlobalSet 0 ∷ [])))))))) ∷ [])) {
  imports = of_b m (im.Memory (pages 1)) ∷ (of_b a (im.Table (func_table 1)) ∷ (of_b g (im.Global varying) ∷ (of_b f (im.Func 0) ∷ [])));
}

-- A primary module whose g grows the memory, which is empty at first.
abbrev growing : Module
growing = record (primary 0 1 (const.Func 0 ∷ []) (code 0 (i.Call 0 ∷ []) ∷ (code 0 (num 1 ∷ (i.MemoryGrow 0 ∷ [])) ∷ []))) { mems = pages 0 ∷ []; exports = out_as a (ex.Table 0) ∷ (out_as m (ex.Memory 0) ∷ []) }

-- The moved function gives the size of that memory, of which the secondary module asks for a page.
abbrev sizing : Module
sizing = record (secondary 1 (const.Func 0 ∷ []) (code 0 (i.MemorySize 0 ∷ []) ∷ [])) { imports = of_b a (im.Table (func_table 1)) ∷ (of_b m (im.Memory (pages 1)) ∷ []) }

-- Function 0 is the placeholder of slot 0 and function 1 that of slot 1; f calls the latter, and g
-- the former.
abbrev two_slots : Module
two_slots = record (primary 0 2 (const.Func 0 ∷ (const.Func 1 ∷ [])) (code 0 (i.Call 1 ∷ []) ∷ (code 0 (i.Call 0 ∷ []) ∷ []))) { imports = of_b g (im.Func 0) ∷ (of_b f (im.Func 0) ∷ []) }

-- Function 0 is the environment's, also exported by the name f, and function 1 is the placeholder.
abbrev with_an_own : Module
with_an_own = record (primary 0 1 (const.Func 1 ∷ []) (code 0 (i.Call 1 ∷ []) ∷ [])) { imports = from_e (im.Func 0) ∷ (of_b g (im.Func 0) ∷ []); exports = out_as a (ex.Table 0) ∷ (out_as f (ex.Func 0) ∷ []) }

-- The moved function adds 1 to the result of the environment's function.
abbrev asking_more : Module
asking_more = record (secondary 1 (const.Func 1 ∷ []) (code 0 (i.Call 0 ∷ (num 1 ∷ (plus ∷ []))) ∷ [])) { imports = of_b f (im.Func 0) ∷ (of_b a (im.Table (func_table 1)) ∷ []) }

abbrev f_and : Text → ExportDesc → List (Text × ExportDesc)
f_and name what = (f, ex.Func 1) ∷ ((name, what) ∷ [])

-- A moved function uses the memory, global and function of the primary module.
a_moved_function_has_all_of_the_primary : events_loaded (loaded_by sharing_all adding_all one_slot (f_and g (ex.Global 0))) [] (Call f [] ∷ (Get (Named g) 0 ∷ [])) 60 ≡ Linked ∷ (Returned (Number 42 ∷ []) ∷ (Got (Number 8) ∷ []))
unfolding out-Instr denote.Hole.Carrier.out wrapped un_from un_to un_value bin_from bin_to bin_value load_to load_width loaded store_from stored
a_moved_function_has_all_of_the_primary = refl

-- The secondary module finds the memory with the size that it has at the load.
a_memory_grows_before_the_load : events_loaded (loaded_by growing sizing one_slot (f_and g (ex.Func 2))) [] (Call g [] ∷ (Grant ∷ (Call f [] ∷ []))) 60 ≡ Linked ∷ (GrowAsked Memories 0 1 ∷ (Returned (Number 0 ∷ []) ∷ (Returned (Number 1 ∷ []) ∷ [])))
unfolding out-Instr denote.Hole.Carrier.out wrapped un_from un_to un_value bin_from bin_to bin_value load_to load_width loaded store_from stored
a_memory_grows_before_the_load = refl

-- The memory is too small for the secondary module before it has grown.
a_memory_that_did_not_grow_before_the_load : events_loaded (loaded_by growing sizing one_slot (f_and g (ex.Func 2))) [] (Call f [] ∷ []) 60 ≡ Linked ∷ (Trapped ∷ [])
unfolding out-Instr denote.Hole.Carrier.out wrapped un_from un_to un_value bin_from bin_to bin_value load_to load_width loaded store_from stored
a_memory_that_did_not_grow_before_the_load = refl

-- The call of the second placeholder loads the secondary module, and each moved function goes to
-- its slot.
the_second_placeholder_loads : events_loaded (loaded_by two_slots (secondary 2 (const.Func 0 ∷ (const.Func 1 ∷ [])) (giving 7 ∷ (giving 8 ∷ []))) (((b, g), to_i32) ∷ (((b, f), to_i32) ∷ [])) ((f, ex.Func 2) ∷ ((g, ex.Func 3) ∷ []))) [] (Call f [] ∷ (Call g [] ∷ [])) 60 ≡ Linked ∷
    (Returned (Number 8 ∷ []) ∷ (Returned (Number 7 ∷ []) ∷ []))
unfolding out-Instr denote.Hole.Carrier.out wrapped un_from un_to un_value bin_from bin_to bin_value load_to load_width loaded store_from stored
the_second_placeholder_loads = refl

-- A moved function calls the environment's function.
a_moved_function_asks_the_environment : events_loaded (loaded_by with_an_own asking_more one_slot ((f, ex.Func 2) ∷ [])) (offering (to_i32 ∷ [])) (Call f [] ∷ (Answer (Number 4 ∷ []) ∷ [])) 60 ≡ Linked ∷ (Asked (e, g) to_i32 [] ∷ (Returned (Number 5 ∷ []) ∷ []))
unfolding out-Instr denote.Hole.Carrier.out wrapped un_from un_to un_value bin_from bin_to bin_value load_to load_width loaded store_from stored
a_moved_function_asks_the_environment = refl

-- The slot of the placeholder is entry 0 of table 1, and entry 0 of table 0 holds function 2.
abbrev second_table : Module
second_table = record (primary 0 1 (const.Func 2 ∷ []) (code 0 (i.Call 0 ∷ []) ∷ (giving 9 ∷ []))) {
  tables = func_table 1 ∷ (func_table 1 ∷ []);
  exports = out_as a (ex.Table 1) ∷ [];
  elems = put_at 0 0 (const.Func 2 ∷ []) ∷ (put_at 1 0 (const.Func 0 ∷ []) ∷ []);
}

-- Function 0 is the placeholder, which f calls, and the moved function gives 7.
abbrev calls_moved : Module
calls_moved = primary 0 1 (const.Func 0 ∷ []) (code 0 (i.Call 0 ∷ []) ∷ [])

abbrev gives_moved : Module
gives_moved = secondary 1 (const.Func 0 ∷ []) (giving 7 ∷ [])

-- The slots may be in another table than 0.
the_slots_are_table_1 : events_loaded (record (loaded_by second_table gives_moved one_slot ((f, ex.Func 1) ∷ [])) { slot_table = 1 }) [] (Call f [] ∷ []) 60 ≡ returns (Number 7 ∷ [])
unfolding out-Instr denote.Hole.Carrier.out wrapped un_from un_to un_value bin_from bin_to bin_value load_to load_width loaded store_from stored
the_slots_are_table_1 = refl

-- An import that the loader supplies is not linked to the environment, which offers the same names.
a_placeholder_is_not_asked_of_the_environment : events_loaded (loaded_by calls_moved gives_moved one_slot ((f, ex.Func 1) ∷ [])) (record { pair = (b, g); funcs = to_i32 ∷ []; table = None; memory = None; global = None } ∷ []) (Call f [] ∷ []) 60 ≡ returns (Number 7 ∷ [])
unfolding out-Instr denote.Hole.Carrier.out wrapped un_from un_to un_value bin_from bin_to bin_value load_to load_width loaded store_from stored
a_placeholder_is_not_asked_of_the_environment = refl

-- A placeholder in a table is shown by a number, as other functions are.
a_placeholder_has_a_number : events_loaded (loaded_by calls_moved gives_moved one_slot (f_and a (ex.Table 0))) [] (Get (Named a) 0 ∷ (Call f [] ∷ (Get (Named a) 0 ∷ (Invoke 1 [] ∷ [])))) 60 ≡ Linked ∷
    (Got (Function 0) ∷ (Returned (Number 7 ∷ []) ∷ (Got (Function 1) ∷ (Returned (Number 7 ∷ []) ∷ []))))
unfolding out-Instr denote.Hole.Carrier.out wrapped un_from un_to un_value bin_from bin_to bin_value load_to load_width loaded store_from stored
a_placeholder_has_a_number = refl

-- A call of a placeholder by a move is answered as a call by code is, after the load.
a_placeholder_that_a_move_calls : events_loaded (loaded_by calls_moved gives_moved one_slot (f_and a (ex.Table 0))) [] (Get (Named a) 0 ∷ (Invoke 0 [] ∷ (Get (Named a) 0 ∷ (Call f [] ∷ [])))) 60 ≡ Linked ∷
    (Got (Function 0) ∷ (Returned (Number 7 ∷ []) ∷ (Got (Function 1) ∷ (Returned (Number 7 ∷ []) ∷ []))))
unfolding out-Instr denote.Hole.Carrier.out wrapped un_from un_to un_value bin_from bin_to bin_value load_to load_width loaded store_from stored
a_placeholder_that_a_move_calls = refl

-- A secondary module with a start function does not link, whatever the function does.
abbrev with_a_start : List Instr → Module
with_a_start body = record gives_moved { funcs = giving 7 ∷ (code 4 body ∷ []); start = Some 1 }

a_secondary_with_a_start_does_not_link : events_loaded (loaded_by calls_moved (with_a_start []) one_slot (f_and a (ex.Table 0))) [] (Call f [] ∷ (Get (Named a) 0 ∷ (Call f [] ∷ []))) 60 ≡ Linked ∷ (Trapped ∷ (Got (Function 0) ∷ (Trapped ∷ [])))
unfolding out-Instr denote.Hole.Carrier.out wrapped un_from un_to un_value bin_from bin_to bin_value load_to load_width loaded store_from stored
a_secondary_with_a_start_does_not_link = refl

it_links_without_the_start : events_loaded (loaded_by calls_moved (record (with_a_start []) { start = None }) one_slot ((f, ex.Func 1) ∷ [])) [] (Call f [] ∷ []) 60 ≡ returns (Number 7 ∷ [])
unfolding out-Instr denote.Hole.Carrier.out wrapped un_from un_to un_value bin_from bin_to bin_value load_to load_width loaded store_from stored
it_links_without_the_start = refl

-- ---- a module alone ----

-- The module of the small runs as a linker leaves it, with its exports.
abbrev memory_name : Text
memory_name = 109 ∷ (101 ∷ (109 ∷ (111 ∷ (114 ∷ (121 ∷ [])))))

abbrev constructors_name : Text
constructors_name = 95 ∷ (95 ∷ (119 ∷ (97 ∷ (115 ∷ (109 ∷ (95 ∷ (99 ∷ (97 ∷ (108 ∷ (108 ∷ (95 ∷ (99 ∷ (116 ∷ (111 ∷ (114 ∷ (115 ∷ []))))))))))))))))

abbrev run_name : Text
run_name = 114 ∷ (117 ∷ (110 ∷ []))

abbrev left_by_a_linker : Module
left_by_a_linker = record linked_by_hand { exports = out_as memory_name (ex.Memory 0) ∷ (out_as constructors_name (ex.Func 1) ∷ (out_as run_name (ex.Func 4) ∷ [])) }

-- The embedder may use the exports of the module.
a_module_alone_has_its_exports : events (world.alone left_by_a_linker) logging (Call constructors_name [] ∷ (Get (Named memory_name) 1028 ∷ (Call run_name (Number 21 ∷ []) ∷ (Answer [] ∷ (Call f [] ∷ []))))) 60 ≡ Linked ∷
    (Returned [] ∷ (Got (Number 42) ∷ (Asked (env, log) to_nothing (Number 21 ∷ []) ∷ (Returned (Number 42 ∷ []) ∷ (BadMove ∷ [])))))
unfolding out-Instr denote.Hole.Carrier.out wrapped un_from un_to un_value bin_from bin_to bin_value load_to load_width loaded store_from stored
a_module_alone_has_its_exports = refl
