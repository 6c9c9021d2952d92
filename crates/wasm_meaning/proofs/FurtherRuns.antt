-- Further small runs, computed: the order of linking and segments, the moves of the embedder while
-- a call or start waits and after a trap or link fault, the numbers by which functions are shown,
-- growth, imports of one pair, starts, and values that enter blocks.
use Rattle.base_lists.proofs.Common.{◌≡◌, refl, ℕ, List, [], ◌∷◌, Some, None, true, false, pos, negsuc}
use Rattle.wasm_tree_spec.specs.Prelude.{Tables, Memories, FuncType, Instr, Import, ImportDesc, ElemSeg, DataSeg, Module}
use Rattle.wasm_num.specs.declared.BinOp.TheVariants as bin
use Rattle.wasm_num.specs.declared.UnOp.TheVariants as un
use Rattle.wasm_tree.specs.declared.types.RefType.TheVariants as reft
use Rattle.wasm_tree.specs.declared.types.ValType.TheVariants as valt
use Rattle.wasm_tree.specs.declared.types.BlockType.TheVariants as bt
use Rattle.wasm_tree.specs.declared.instr.Instr.{out-Instr}
use Rattle.wasm_tree.specs.declared.instr.Instr.TheVariants as i
use Rattle.wasm_tree.specs.declared.instr.LoadOp.TheVariants as load
use Rattle.wasm_tree.specs.declared.instr.StoreOp.TheVariants as store
use Rattle.wasm_tree.specs.declared.module.ImportDesc.TheVariants as im
use Rattle.wasm_tree.specs.declared.module.ExportDesc.TheVariants as ex
use Rattle.wasm_tree.specs.declared.module.ConstExpr.TheVariants as const
use Rattle.wasm_tree.specs.declared.module.ElemMode.TheVariants as elem
use Rattle.wasm_tree.specs.declared.module.DataMode.TheVariants as data'
use Rattle.wasm_num.specs.Operations.{wrapped, un_from, un_to, un_value, bin_from, bin_to, bin_value}
use Rattle.wasm_meaning.specs.Prelude.{copies, Text, Pair, Part, Entity, Environment, Number, Null, OwnFunc, ExternNumber, Function, World, Event, Move, Linked, LinkFault, InstanceTrapped, Returned, Trapped, Asked, GrowAsked, Got, Done, BadMove, Call, Invoke, Take, Answer, Refuse, Grant, Deny, Get}
use Rattle.wasm_meaning.specs.Prelude.{Size, Set, Extend, TableOf, MemoryOf, GlobalOf, Named, events}
use Rattle.wasm_meaning.specs.Access.{load_to, load_width, loaded, store_from, stored}
use Rattle.wasm_meaning.proofs.SmallRuns.{f, g, a, b, e, m, i32, to_i32, nothing, empty, code, num, gives, page, alone, plain, own, importing, calling, giver, returns}
use Rattle.wasm_meaning.proofs.MoreRuns.{i64, by, typed}

-- ---- modules, worlds and environments ----

-- The pair of names under which the environment offers all its entities.
abbrev its : Pair
its = (e, m)

-- The type of a function that takes a reference.
abbrev takes_ref : FuncType
takes_ref = record { params = valt.Ref reft.Func ∷ []; results = [] }

-- An environment with functions of three types, a table of two nulls and a memory of one page,
-- which may grow by one each, and a mutable global that is 3.
abbrev all_kinds : Environment
all_kinds = record {
  pair = its;
  funcs = to_i32 ∷ (nothing ∷ (takes_ref ∷ []));
  table = Some (record { ty = reft.Func; limits = record { min = 2; max = Some 3 }; entries = Null ∷ (Null ∷ []) });
  memory = Some (record { limits = record { min = 1; max = Some 2 }; pages = 1; bytes = copies 65536 0 });
  global = Some (record { ty = record { ty = i32; mutable = true }; value = Number 3 });
} ∷ []

-- An environment with a table of one null and a memory of no page, both without a maximum.
abbrev no_most : Environment
no_most = record {
  pair = its;
  funcs = [];
  table = Some (record { ty = reft.Func; limits = record { min = 0; max = None }; entries = Null ∷ [] });
  memory = Some (record { limits = record { min = 0; max = None }; pages = 0; bytes = [] });
  global = None;
} ∷ []

-- An import of an entity that the environment offers.
abbrev offered : ImportDesc → Import
offered desc = record { «module» = e; field = m; desc = desc }

abbrev its_table : Import
its_table = offered (im.Table (record { ty = reft.Func; limits = record { min = 2; max = None } }))

abbrev its_memory : Import
its_memory = offered (im.Memory (record { min = 1; max = None }))

abbrev its_global : Import
its_global = offered (im.Global (record { ty = i32; mutable = true }))

-- An import of an entity that the environment does not offer.
abbrev missing : Import
missing = record { «module» = e; field = f; desc = im.Global (record { ty = i32; mutable = true }) }

-- An element segment that writes function 0 at a place of table 0.
abbrev puts : ℕ → ElemSeg
puts n = record { mode = elem.Active 0 (const.I32 (pos n)); ty = reft.Func; items = const.Func 0 ∷ [] }

-- A module whose function 0 gives 5, and whose segments put it into the environment's table.
abbrev putting : List ElemSeg → Module
putting elems = record (gives (num 5 ∷ [])) { imports = its_table ∷ []; elems = elems }

-- A module whose second segment is past the end of the table.
abbrev one_past : Module
one_past = putting (puts 0 ∷ (puts 2 ∷ []))

-- A data segment that writes a byte at a place of memory 0.
abbrev writes : (place byte : ℕ) → DataSeg
writes place byte = record { mode = data'.Active 0 (const.I32 (pos place)); bytes = byte ∷ [] }

-- A module whose segments write into the environment's memory.
abbrev writing : List DataSeg → Module
writing datas = record empty { imports = its_memory ∷ []; datas = datas }

abbrev func : (part index : ℕ) → Entity
func part index = record { part = part; what = ex.Func index }

-- A world of parts named a and b, whose view has the functions 0 of both.
abbrev a_and_b : Module → Module → World
a_and_b first second = record { parts = record { name = Some a; «module» = first } ∷ (record { name = Some b; «module» = second } ∷ []); view = (f, func 0 0) ∷ ((g, func 1 0) ∷ []) }

-- A world of one module, of which two functions may be used by the names f and g.
abbrev named : (first second : ℕ) → Module → World
named first second x = record { parts = record { name = None; «module» = x } ∷ []; view = (f, func 0 first) ∷ ((g, func 0 second) ∷ []) }

-- A part that exports a global g, whose value is that of the global g of another part.
abbrev reads : (name source : Text) → Part
reads name source = record {
  name = Some name;
  «module» = record (gives (i.GlobalGet 1 ∷ [])) {
    imports = record { «module» = source; field = g; desc = im.Global (record { ty = i32; mutable = false }) } ∷ [];
    globals = record { ty = record { ty = i32; mutable = false }; init = const.Global 0 } ∷ [];
    exports = record { name = g; desc = ex.Global 1 } ∷ [];
  };
}

-- A world of parts whose view has function 0 of the first.
abbrev first_of : List Part → World
first_of parts = record { parts = parts; view = (f, func 0 0) ∷ [] }

-- A world whose start calls the environment's function; then f gives 5, and m is a memory.
abbrev waiting : World
waiting = record {
  parts = record { name = None; «module» = page (record empty { imports = offered (im.Func 2) ∷ []; funcs = code 2 (i.Call 0 ∷ []) ∷ (code 0 (num 5 ∷ []) ∷ []); start = Some 1 }) } ∷ [];
  view = (f, func 0 2) ∷ ((m, record { part = 0; what = ex.Memory 0 }) ∷ []);
}

-- A world whose start passes the function f, of this code, to the environment's function.
abbrev showing : List Instr → World
showing body = record {
  parts = record {
    name = None;
    «module» = record empty {
      types = nothing ∷ (to_i32 ∷ (takes_ref ∷ []));
      imports = offered (im.Func 2) ∷ [];
      funcs = code 0 (i.RefFunc 2 ∷ (i.Call 0 ∷ [])) ∷ (code 1 body ∷ []);
      exports = record { name = f; desc = ex.Func 2 } ∷ [];
      start = Some 1;
    };
  } ∷ [];
  view = (f, func 0 2) ∷ [];
}

-- The events of four moves that are not taken.
abbrev four_bad : List Event → List Event
four_bad rest = BadMove ∷ (BadMove ∷ (BadMove ∷ (BadMove ∷ rest)))

-- ---- what is read along globals ----

-- The value of a global is read through two parts.
a_value_is_read_through_two_parts : events (first_of (reads m b ∷ (reads b a ∷ (record { name = Some a; «module» = giver } ∷ [])))) [] (Call f [] ∷ []) 25 ≡ returns (Number 40 ∷ [])
unfolding out-Instr denote.Hole.Carrier.out wrapped un_from un_to un_value bin_from bin_to bin_value load_to load_width loaded store_from stored
a_value_is_read_through_two_parts = refl

-- The globals of two parts take their values from each other: all imports match, and no value is
-- ever read.
globals_that_read_each_other : events (first_of (reads a b ∷ (reads b a ∷ []))) [] (Call f [] ∷ []) 25 ≡ LinkFault ∷ (BadMove ∷ [])
unfolding out-Instr denote.Hole.Carrier.out wrapped un_from un_to un_value bin_from bin_to bin_value load_to load_width loaded store_from stored
globals_that_read_each_other = refl

-- A global takes its value from itself, through an import of its own part.
a_global_that_reads_itself : events (first_of (reads a a ∷ [])) [] [] 25 ≡ LinkFault ∷ []
unfolding out-Instr denote.Hole.Carrier.out wrapped un_from un_to un_value bin_from bin_to bin_value load_to load_width loaded store_from stored
a_global_that_reads_itself = refl

-- ---- what comes first ----

-- The fault of an import that is not offered comes before the segments: the first segment writes
-- nothing, and the second does not trap.
a_fault_comes_before_a_trap : events (plain (record one_past { imports = its_table ∷ (missing ∷ []) })) all_kinds (Get (TableOf its) 0 ∷ []) 25 ≡ LinkFault ∷ (Got Null ∷ [])
unfolding out-Instr denote.Hole.Carrier.out wrapped un_from un_to un_value bin_from bin_to bin_value load_to load_width loaded store_from stored
a_fault_comes_before_a_trap = refl

-- A link fault of a later part comes before the segments, too.
a_fault_of_a_later_part_comes_before_a_trap : events (a_and_b one_past (record (gives (num 5 ∷ [])) { imports = missing ∷ [] })) all_kinds (Get (TableOf its) 0 ∷ []) 25 ≡ LinkFault ∷ (Got Null ∷ [])
unfolding out-Instr denote.Hole.Carrier.out wrapped un_from un_to un_value bin_from bin_to bin_value load_to load_width loaded store_from stored
a_fault_of_a_later_part_comes_before_a_trap = refl

-- A value that is never read is a link fault, which comes before the segments.
a_read_without_an_end_comes_before_a_trap : events (first_of (record { name = Some a; «module» = one_past } ∷ (reads b b ∷ []))) all_kinds (Get (TableOf its) 0 ∷ []) 25 ≡ LinkFault ∷ (Got Null ∷ [])
unfolding out-Instr denote.Hole.Carrier.out wrapped un_from un_to un_value bin_from bin_to bin_value load_to load_width loaded store_from stored
a_read_without_an_end_comes_before_a_trap = refl

-- Without a link fault, the first segment is written and the second traps.
a_trap_leaves_earlier_segments : events (plain one_past) all_kinds (Get (TableOf its) 0 ∷ (Get (TableOf its) 1 ∷ [])) 25 ≡ InstanceTrapped ∷ (Got (Function 0) ∷ (Got Null ∷ []))
unfolding out-Instr denote.Hole.Carrier.out wrapped un_from un_to un_value bin_from bin_to bin_value load_to load_width loaded store_from stored
a_trap_leaves_earlier_segments = refl

-- A segment that passes the end of its table writes none of its items.
a_segment_that_passes_the_end_writes_nothing : events (plain (putting (record (puts 1) { items = const.Func 0 ∷ (const.Func 0 ∷ []) } ∷ []))) all_kinds (Get (TableOf its) 1 ∷ []) 25 ≡ InstanceTrapped ∷ (Got Null ∷ [])
unfolding out-Instr denote.Hole.Carrier.out wrapped un_from un_to un_value bin_from bin_to bin_value load_to load_width loaded store_from stored
a_segment_that_passes_the_end_writes_nothing = refl

-- The element segment of part b comes before the data segments of part a, of which the second
-- traps.
all_elements_come_before_data : events (a_and_b (record (gives (num 5 ∷ [])) { imports = its_memory ∷ []; datas = writes 0 7 ∷ (writes 65536 7 ∷ []) }) (putting (puts 0 ∷ []))) all_kinds (Get (TableOf its) 0 ∷ (Get (MemoryOf its) 0 ∷ [])) 25 ≡ InstanceTrapped ∷
    (Got (Function 0) ∷ (Got (Number 7) ∷ []))
unfolding out-Instr denote.Hole.Carrier.out wrapped un_from un_to un_value bin_from bin_to bin_value load_to load_width loaded store_from stored
all_elements_come_before_data = refl

-- The element segment of part b traps before the data segment of part a is written.
an_element_that_traps_comes_before_data : events (a_and_b (record (gives (num 5 ∷ [])) { imports = its_memory ∷ []; datas = writes 0 7 ∷ [] }) (putting (puts 2 ∷ []))) all_kinds (Get (MemoryOf its) 0 ∷ []) 25 ≡ InstanceTrapped ∷ (Got (Number 0) ∷ [])
unfolding out-Instr denote.Hole.Carrier.out wrapped un_from un_to un_value bin_from bin_to bin_value load_to load_width loaded store_from stored
an_element_that_traps_comes_before_data = refl

-- Of two element segments at one place, that of the later part is written last.
elements_come_by_part : events (a_and_b (putting (puts 0 ∷ [])) (putting (puts 0 ∷ []))) all_kinds (Take f ∷ (Take g ∷ (Get (TableOf its) 0 ∷ []))) 25 ≡ Linked ∷ (Got (Function 0) ∷ (Got (Function 1) ∷ (Got (Function 1) ∷ [])))
unfolding out-Instr denote.Hole.Carrier.out wrapped un_from un_to un_value bin_from bin_to bin_value load_to load_width loaded store_from stored
elements_come_by_part = refl

-- Of two data segments at one place, that of the later part is written last.
data_come_by_part : events (record { parts = record { name = Some a; «module» = writing (writes 0 7 ∷ []) } ∷ (record { name = Some b; «module» = writing (writes 0 8 ∷ []) } ∷ []); view = [] }) all_kinds (Get (MemoryOf its) 0 ∷ []) 25 ≡ Linked ∷ (Got (Number 8) ∷ [])
unfolding out-Instr denote.Hole.Carrier.out wrapped un_from un_to un_value bin_from bin_to bin_value load_to load_width loaded store_from stored
data_come_by_part = refl

-- ---- after the world was closed ----

-- Two worlds that would offer f and m: a segment of the first traps, and the second has a link
-- fault.
abbrev trapping : World
trapping = alone (page (putting (puts 2 ∷ [])))

abbrev faulty : World
faulty = alone (page (record (gives (num 5 ∷ [])) { imports = missing ∷ [] }))

-- The moves on the table: it is read, set, and extended once more than it may be.
abbrev on_the_table : List Move
on_the_table = Get (TableOf its) 1 ∷ (Size (TableOf its) ∷ (Set (TableOf its) 1 (OwnFunc its nothing) ∷ (Get (TableOf its) 1 ∷ (Extend (TableOf its) 1 ∷ (Size (TableOf its) ∷ (Get (TableOf its) 2 ∷ (Extend (TableOf its) 1 ∷ (Extend (TableOf its) 0 ∷ []))))))))

abbrev of_the_table : List Event
of_the_table = Got Null ∷ (Got (Number 2) ∷ (Done ∷ (Got (OwnFunc its nothing) ∷ (Done ∷ (Got (Number 3) ∷ (Got Null ∷ (BadMove ∷ (Done ∷ []))))))))

-- The moves on the memory: it is read, set, also to 256, which is no byte, and extended once more
-- than it may be.
abbrev on_the_memory : List Move
on_the_memory = Get (MemoryOf its) 0 ∷ (Size (MemoryOf its) ∷ (Set (MemoryOf its) 0 (Number 256) ∷ (Set (MemoryOf its) 0 (Number 255) ∷ (Get (MemoryOf its) 0 ∷ (Extend (MemoryOf its) 1 ∷ (Size (MemoryOf its) ∷ (Get (MemoryOf its) 131071 ∷ (Extend (MemoryOf its) 1 ∷ []))))))))

abbrev of_the_memory : List Event
of_the_memory = Got (Number 0) ∷ (Got (Number 1) ∷ (BadMove ∷ (Done ∷ (Got (Number 255) ∷ (Done ∷ (Got (Number 2) ∷ (Got (Number 0) ∷ (BadMove ∷ []))))))))

-- The moves on the global: it is read and set, and cannot be extended.
abbrev on_the_global : List Move
on_the_global = Get (GlobalOf its) 0 ∷ (Size (GlobalOf its) ∷ (Set (GlobalOf its) 0 (Number 9) ∷ (Get (GlobalOf its) 0 ∷ (Extend (GlobalOf its) 1 ∷ []))))

abbrev of_the_global : List Event
of_the_global = Got (Number 3) ∷ (Got (Number 1) ∷ (Done ∷ (Got (Number 9) ∷ (BadMove ∷ []))))

-- Moves that use names of the view.
abbrev on_the_view : List Move
on_the_view = Call f [] ∷ (Take f ∷ (Get (Named m) 0 ∷ (Size (Named m) ∷ (Set (Named m) 0 (Number 1) ∷ (Extend (Named m) 1 ∷ [])))))

-- Moves that use no name.
abbrev on_nothing : List Move
on_nothing = Invoke 0 [] ∷ (Answer [] ∷ (Refuse ∷ (Grant ∷ (Deny ∷ []))))

-- After a trap the environment's table may be used as before.
the_table_stays_after_a_trap : events trapping all_kinds on_the_table 25 ≡ InstanceTrapped ∷ of_the_table
unfolding out-Instr denote.Hole.Carrier.out wrapped un_from un_to un_value bin_from bin_to bin_value load_to load_width loaded store_from stored
the_table_stays_after_a_trap = refl

-- After a trap the environment's memory may be used as before.
the_memory_stays_after_a_trap : events trapping all_kinds on_the_memory 25 ≡ InstanceTrapped ∷ of_the_memory
unfolding out-Instr denote.Hole.Carrier.out wrapped un_from un_to un_value bin_from bin_to bin_value load_to load_width loaded store_from stored
the_memory_stays_after_a_trap = refl

-- After a trap the environment's global may be used as before.
the_global_stays_after_a_trap : events trapping all_kinds on_the_global 25 ≡ InstanceTrapped ∷ of_the_global
unfolding out-Instr denote.Hole.Carrier.out wrapped un_from un_to un_value bin_from bin_to bin_value load_to load_width loaded store_from stored
the_global_stays_after_a_trap = refl

-- No name of the view may be used.
no_view_after_a_trap : events trapping all_kinds on_the_view 25 ≡ InstanceTrapped ∷ four_bad (BadMove ∷ (BadMove ∷ []))
unfolding out-Instr denote.Hole.Carrier.out wrapped un_from un_to un_value bin_from bin_to bin_value load_to load_width loaded store_from stored
no_view_after_a_trap = refl

-- No call or growth waits, and no function has a number.
nothing_waits_after_a_trap : events trapping all_kinds on_nothing 25 ≡ InstanceTrapped ∷ four_bad (BadMove ∷ [])
unfolding out-Instr denote.Hole.Carrier.out wrapped un_from un_to un_value bin_from bin_to bin_value load_to load_width loaded store_from stored
nothing_waits_after_a_trap = refl

-- After a link fault the environment's table may be used as before.
the_table_stays_after_a_link_fault : events faulty all_kinds on_the_table 25 ≡ LinkFault ∷ of_the_table
unfolding out-Instr denote.Hole.Carrier.out wrapped un_from un_to un_value bin_from bin_to bin_value load_to load_width loaded store_from stored
the_table_stays_after_a_link_fault = refl

-- After a link fault the environment's memory may be used as before.
the_memory_stays_after_a_link_fault : events faulty all_kinds on_the_memory 25 ≡ LinkFault ∷ of_the_memory
unfolding out-Instr denote.Hole.Carrier.out wrapped un_from un_to un_value bin_from bin_to bin_value load_to load_width loaded store_from stored
the_memory_stays_after_a_link_fault = refl

-- After a link fault the environment's global may be used as before.
the_global_stays_after_a_link_fault : events faulty all_kinds on_the_global 25 ≡ LinkFault ∷ of_the_global
unfolding out-Instr denote.Hole.Carrier.out wrapped un_from un_to un_value bin_from bin_to bin_value load_to load_width loaded store_from stored
the_global_stays_after_a_link_fault = refl

-- No name of the view may be used.
no_view_after_a_link_fault : events faulty all_kinds on_the_view 25 ≡ LinkFault ∷ four_bad (BadMove ∷ (BadMove ∷ []))
unfolding out-Instr denote.Hole.Carrier.out wrapped un_from un_to un_value bin_from bin_to bin_value load_to load_width loaded store_from stored
no_view_after_a_link_fault = refl

-- No call or growth waits, and no function has a number.
nothing_waits_after_a_link_fault : events faulty all_kinds on_nothing 25 ≡ LinkFault ∷ four_bad (BadMove ∷ [])
unfolding out-Instr denote.Hole.Carrier.out wrapped un_from un_to un_value bin_from bin_to bin_value load_to load_width loaded store_from stored
nothing_waits_after_a_link_fault = refl

-- A function that was shown before the trap cannot be called, but is still a value.
a_shown_function_after_a_trap : events (showing (num 5 ∷ [])) all_kinds (Refuse ∷ (Invoke 0 [] ∷ (Set (TableOf its) 0 (Function 0) ∷ (Get (TableOf its) 0 ∷ [])))) 25 ≡ Asked its takes_ref (Function 0 ∷ []) ∷ (InstanceTrapped ∷ (BadMove ∷ (Done ∷ (Got (Function 0) ∷ []))))
unfolding out-Instr denote.Hole.Carrier.out wrapped un_from un_to un_value bin_from bin_to bin_value load_to load_width loaded store_from stored
a_shown_function_after_a_trap = refl

-- ---- while a start waits ----

-- The view cannot be used before the start has ended.
no_view_while_a_start_waits : events waiting all_kinds (Call f [] ∷ (Take f ∷ (Get (Named m) 0 ∷ (Size (Named m) ∷ (Set (Named m) 0 (Number 1) ∷ (Extend (Named m) 1 ∷ (Answer [] ∷ (Call f [] ∷ (Get (Named m) 0 ∷ []))))))))) 25 ≡ Asked its nothing [] ∷
    four_bad (BadMove ∷ (BadMove ∷ (Linked ∷ (Returned (Number 5 ∷ []) ∷ (Got (Number 0) ∷ [])))))
unfolding out-Instr denote.Hole.Carrier.out wrapped un_from un_to un_value bin_from bin_to bin_value load_to load_width loaded store_from stored
no_view_while_a_start_waits = refl

-- The environment's own entities may be used while a start waits.
own_entities_while_a_start_waits : events waiting all_kinds (Get (GlobalOf its) 0 ∷ (Set (GlobalOf its) 0 (Number 9) ∷ (Get (GlobalOf its) 0 ∷ (Size (MemoryOf its) ∷ (Set (MemoryOf its) 0 (Number 7) ∷ (Get (MemoryOf its) 0 ∷ (Extend (TableOf its) 1 ∷ (Size (TableOf its) ∷ (Answer [] ∷ [])))))))))
    25 ≡ Asked its nothing [] ∷ (Got (Number 3) ∷ (Done ∷ (Got (Number 9) ∷ (Got (Number 1) ∷ (Done ∷ (Got (Number 7) ∷ (Done ∷ (Got (Number 3) ∷ (Linked ∷ [])))))))))
unfolding out-Instr denote.Hole.Carrier.out wrapped un_from un_to un_value bin_from bin_to bin_value load_to load_width loaded store_from stored
own_entities_while_a_start_waits = refl

-- A function that the start has shown may be called.
a_shown_function_while_a_start_waits : events (showing (num 5 ∷ [])) all_kinds (Invoke 0 [] ∷ (Answer [] ∷ (Take f ∷ []))) 25 ≡ Asked its takes_ref (Function 0 ∷ []) ∷ (Returned (Number 5 ∷ []) ∷ (Linked ∷ (Got (Function 0) ∷ [])))
unfolding out-Instr denote.Hole.Carrier.out wrapped un_from un_to un_value bin_from bin_to bin_value load_to load_width loaded store_from stored
a_shown_function_while_a_start_waits = refl

-- A call of a function that the start has shown traps alone.
a_call_that_traps_while_a_start_waits : events (showing (i.Unreachable ∷ [])) all_kinds (Invoke 0 [] ∷ (Answer [] ∷ [])) 25 ≡ Asked its takes_ref (Function 0 ∷ []) ∷ (Trapped ∷ (Linked ∷ []))
unfolding out-Instr denote.Hole.Carrier.out wrapped un_from un_to un_value bin_from bin_to bin_value load_to load_width loaded store_from stored
a_call_that_traps_while_a_start_waits = refl

-- No growth waits while a start waits.
no_growth_while_a_start_waits : events waiting all_kinds (Grant ∷ (Deny ∷ (Answer [] ∷ []))) 25 ≡ Asked its nothing [] ∷ (BadMove ∷ (BadMove ∷ (Linked ∷ [])))
unfolding out-Instr denote.Hole.Carrier.out wrapped un_from un_to un_value bin_from bin_to bin_value load_to load_width loaded store_from stored
no_growth_while_a_start_waits = refl

-- ---- while a growth or a call waits ----

-- A world in which f asks to grow the memory m by one page.
abbrev growing : World
growing = alone (page (gives (num 1 ∷ (i.MemoryGrow 0 ∷ []))))

-- No other move is taken before the growth is granted.
only_a_grant_is_taken : events growing all_kinds (Take f ∷ (Call f [] ∷ (Call f [] ∷ (Invoke 0 [] ∷ (Take f ∷ (Answer (Number 1 ∷ []) ∷ (Answer [] ∷ (Refuse ∷ (Get (Named m) 0 ∷ (Size (Named m) ∷ (Grant ∷ (Size (Named m) ∷ [])))))))))))) 25 ≡ Linked ∷
    (Got (Function 0) ∷ (GrowAsked Memories 1 1 ∷ four_bad (four_bad (Returned (Number 1 ∷ []) ∷ (Got (Number 2) ∷ [])))))
unfolding out-Instr denote.Hole.Carrier.out wrapped un_from un_to un_value bin_from bin_to bin_value load_to load_width loaded store_from stored
only_a_grant_is_taken = refl

-- No move on the environment's own entities is taken before the growth is granted or denied.
no_own_entity_while_a_growth_waits : events growing all_kinds (Call f [] ∷ (Get (GlobalOf its) 0 ∷ (Size (MemoryOf its) ∷ (Set (GlobalOf its) 0 (Number 9) ∷ (Extend (TableOf its) 1 ∷ (Deny ∷ (Get (GlobalOf its) 0 ∷ (Size (TableOf its) ∷ [])))))))) 25 ≡ Linked ∷
    (GrowAsked Memories 1 1 ∷ four_bad (Returned (Number 4294967295 ∷ []) ∷ (Got (Number 3) ∷ (Got (Number 2) ∷ []))))
unfolding out-Instr denote.Hole.Carrier.out wrapped un_from un_to un_value bin_from bin_to bin_value load_to load_width loaded store_from stored
no_own_entity_while_a_growth_waits = refl

-- A call that waits is not answered while a growth in another call waits.
no_answer_while_a_growth_waits : events (named 1 2 (page (record empty { imports = offered (im.Func 0) ∷ []; funcs = code 0 (i.Call 0 ∷ []) ∷ (code 0 (num 1 ∷ (i.MemoryGrow 0 ∷ [])) ∷ []) }))) all_kinds (Call f [] ∷ (Call g [] ∷ (Answer (Number 4 ∷ []) ∷ (Grant ∷ (Answer (Number 4 ∷ []) ∷ [])))))
    25 ≡ Linked ∷ (Asked its to_i32 [] ∷ (GrowAsked Memories 1 1 ∷ (BadMove ∷ (Returned (Number 1 ∷ []) ∷ (Returned (Number 4 ∷ []) ∷ [])))))
unfolding out-Instr denote.Hole.Carrier.out wrapped un_from un_to un_value bin_from bin_to bin_value load_to load_width loaded store_from stored
no_answer_while_a_growth_waits = refl

a_start_asks_to_grow : events (plain (page (record empty { funcs = code 0 (i.MemorySize 0 ∷ []) ∷ (code 2 (num 1 ∷ (i.MemoryGrow 0 ∷ (i.Drop ∷ []))) ∷ []); start = Some 1 }))) [] (Grant ∷ (Call f [] ∷ [])) 25 ≡ GrowAsked Memories 1 1 ∷ (Linked ∷ (Returned (Number 2 ∷ []) ∷ []))
unfolding out-Instr denote.Hole.Carrier.out wrapped un_from un_to un_value bin_from bin_to bin_value load_to load_width loaded store_from stored
a_start_asks_to_grow = refl

-- No growth is granted or denied while a call waits.
a_call_is_not_granted : events calling own (Call f [] ∷ (Grant ∷ (Deny ∷ (Answer (Number 4 ∷ []) ∷ [])))) 25 ≡ Linked ∷ (Asked (e, g) to_i32 [] ∷ (BadMove ∷ (BadMove ∷ (Returned (Number 5 ∷ []) ∷ []))))
unfolding out-Instr denote.Hole.Carrier.out wrapped un_from un_to un_value bin_from bin_to bin_value load_to load_width loaded store_from stored
a_call_is_not_granted = refl

-- Answers of another count, with a number that is too great or with a value of another type change
-- nothing.
answers_that_do_not_fit : events calling own (Call f [] ∷ (Answer [] ∷ (Answer (Number 4 ∷ (Number 4 ∷ [])) ∷ (Answer (Number 4294967296 ∷ []) ∷ (Answer (ExternNumber 4 ∷ []) ∷ (Answer (Number 4 ∷ []) ∷ [])))))) 25 ≡ Linked ∷ (Asked (e, g) to_i32 [] ∷ four_bad (Returned (Number 5 ∷ []) ∷ []))
unfolding out-Instr denote.Hole.Carrier.out wrapped un_from un_to un_value bin_from bin_to bin_value load_to load_width loaded store_from stored
answers_that_do_not_fit = refl

-- ---- what the view names, and sizes that are too great ----

-- A world with a table, a memory, a mutable global and an immutable one, by the names a, m, g and
-- b.
abbrev open_to_all : World
open_to_all = record {
  parts = record {
    name = None;
    «module» = page (record (gives (num 5 ∷ [])) {
      tables = record { ty = reft.Func; limits = record { min = 1; max = Some 2 } } ∷ [];
      globals = record { ty = record { ty = i64; mutable = true }; init = const.I64 (pos 3) } ∷ (record { ty = record { ty = i64; mutable = false }; init = const.I64 (pos 4) } ∷ []);
    });
  } ∷ [];
  view = (f, func 0 0) ∷ ((a, record { part = 0; what = ex.Table 0 }) ∷ ((m, record { part = 0; what = ex.Memory 0 }) ∷ ((g, record { part = 0; what = ex.Global 0 }) ∷ ((b, record { part = 0; what = ex.Global 1 }) ∷ []))));
}

-- A table is read, set and extended by its name.
a_table_of_the_view : events open_to_all [] (Get (Named a) 0 ∷ (Take f ∷ (Set (Named a) 0 (Function 0) ∷ (Get (Named a) 0 ∷ (Extend (Named a) 1 ∷ (Size (Named a) ∷ (Get (Named a) 1 ∷ (Extend (Named a) 1 ∷ (Get (Named a) 2 ∷ []))))))))) 25 ≡ Linked ∷
    (Got Null ∷ (Got (Function 0) ∷ (Done ∷ (Got (Function 0) ∷ (Done ∷ (Got (Number 2) ∷ (Got Null ∷ (BadMove ∷ (BadMove ∷ [])))))))))
unfolding out-Instr denote.Hole.Carrier.out wrapped un_from un_to un_value bin_from bin_to bin_value load_to load_width loaded store_from stored
a_table_of_the_view = refl

-- A memory is read, set and extended by its name.
a_memory_of_the_view : events open_to_all [] (Set (Named m) 65535 (Number 7) ∷ (Get (Named m) 65535 ∷ (Get (Named m) 65536 ∷ (Extend (Named m) 1 ∷ (Size (Named m) ∷ (Get (Named m) 65536 ∷ (Extend (Named m) 1 ∷ []))))))) 25 ≡ Linked ∷
    (Done ∷ (Got (Number 7) ∷ (BadMove ∷ (Done ∷ (Got (Number 2) ∷ (Got (Number 0) ∷ (BadMove ∷ [])))))))
unfolding out-Instr denote.Hole.Carrier.out wrapped un_from un_to un_value bin_from bin_to bin_value load_to load_width loaded store_from stored
a_memory_of_the_view = refl

-- A global is set if it is mutable, to a number of its type.
a_global_of_the_view : events open_to_all [] (Set (Named g) 0 (Number 18446744073709551615) ∷ (Get (Named g) 0 ∷ (Set (Named g) 0 (Number 18446744073709551616) ∷ (Set (Named b) 0 (Number 1) ∷ (Get (Named b) 0 ∷ (Size (Named b) ∷ [])))))) 25 ≡ Linked ∷
    (Done ∷ (Got (Number 18446744073709551615) ∷ (BadMove ∷ (BadMove ∷ (Got (Number 4) ∷ (Got (Number 1) ∷ []))))))
unfolding out-Instr denote.Hole.Carrier.out wrapped un_from un_to un_value bin_from bin_to bin_value load_to load_width loaded store_from stored
a_global_of_the_view = refl

-- Without a maximum, a memory has at most 65,536 pages, and a table at most 4,294,967,295 entries.
an_extension_that_is_too_great : events (plain (gives (num 5 ∷ []))) no_most (Extend (MemoryOf its) 65537 ∷ (Size (MemoryOf its) ∷ (Extend (TableOf its) 4294967295 ∷ (Size (TableOf its) ∷ [])))) 25 ≡ Linked ∷ (BadMove ∷ (Got (Number 0) ∷ (BadMove ∷ (Got (Number 1) ∷ []))))
unfolding out-Instr denote.Hole.Carrier.out wrapped un_from un_to un_value bin_from bin_to bin_value load_to load_width loaded store_from stored
an_extension_that_is_too_great = refl

-- ---- the numbers of functions ----

-- A world in which f traps and g gives 5.
abbrev traps_or_gives : World
traps_or_gives = named 0 1 (record empty { funcs = code 0 (i.Unreachable ∷ []) ∷ (code 0 (num 5 ∷ []) ∷ []) })

-- A function has the same number before a trap and after it.
numbers_stay_over_a_trap : events traps_or_gives [] (Take f ∷ (Call f [] ∷ (Take g ∷ (Take f ∷ (Invoke 1 [] ∷ []))))) 25 ≡ Linked ∷ (Got (Function 0) ∷ (Trapped ∷ (Got (Function 1) ∷ (Got (Function 0) ∷ (Returned (Number 5 ∷ []) ∷ [])))))
unfolding out-Instr denote.Hole.Carrier.out wrapped un_from un_to un_value bin_from bin_to bin_value load_to load_width loaded store_from stored
numbers_stay_over_a_trap = refl

-- A function that was shown in a call that is refused keeps its number.
a_number_from_a_refused_call : events (named 1 1 (record empty { types = nothing ∷ (takes_ref ∷ []); imports = offered (im.Func 1) ∷ []; funcs = code 0 (i.RefFunc 2 ∷ (i.Call 0 ∷ [])) ∷ (code 0 [] ∷ []); exports = record { name = g; desc = ex.Func 2 } ∷ [] })) all_kinds
    (Call f [] ∷ (Refuse ∷ (Take f ∷ (Invoke 0 [] ∷ [])))) 25 ≡ Linked ∷ (Asked its takes_ref (Function 0 ∷ []) ∷ (Trapped ∷ (Got (Function 1) ∷ (Returned [] ∷ []))))
unfolding out-Instr denote.Hole.Carrier.out wrapped un_from un_to un_value bin_from bin_to bin_value load_to load_width loaded store_from stored
a_number_from_a_refused_call = refl

-- A function that is shown twice in one list has one number, and null is shown as null.
one_number_for_one_function : events (plain (record (typed (record { params = []; results = valt.Ref reft.Func ∷ (valt.Ref reft.Func ∷ (valt.Ref reft.Func ∷ [])) }) (i.RefFunc 0 ∷ (i.RefNull reft.Func ∷ (i.RefFunc 0 ∷ [])))) { exports = record { name = f; desc = ex.Func 0 } ∷ [] })) []
    (Call f [] ∷ []) 25 ≡ returns (Function 0 ∷ (Null ∷ (Function 0 ∷ [])))
unfolding out-Instr denote.Hole.Carrier.out wrapped un_from un_to un_value bin_from bin_to bin_value load_to load_width loaded store_from stored
one_number_for_one_function = refl

-- The values of a list are numbered from left to right.
numbers_come_from_left_to_right : events (named 0 1 (record empty {
  types = record { params = []; results = valt.Ref reft.Func ∷ (valt.Ref reft.Func ∷ []) } ∷ [];
  funcs = code 0 (i.RefFunc 1 ∷ (i.RefFunc 0 ∷ [])) ∷ (code 0 (i.Unreachable ∷ []) ∷ []);
  exports =
      record { name = f; desc = ex.Func 0 } ∷ (record { name = g; desc = ex.Func 1 } ∷ []);
})) [] (Call f [] ∷ (Take f ∷ (Take g ∷ []))) 25 ≡ Linked ∷ (Returned (Function 0 ∷ (Function 1 ∷ [])) ∷ (Got (Function 1) ∷ (Got (Function 0) ∷ [])))
unfolding out-Instr denote.Hole.Carrier.out wrapped un_from un_to un_value bin_from bin_to bin_value load_to load_width loaded store_from stored
numbers_come_from_left_to_right = refl

-- Two names of one function show the same number.
two_names_of_one_function : events (named 0 0 (gives (num 5 ∷ []))) [] (Take f ∷ (Take g ∷ [])) 25 ≡ Linked ∷ (Got (Function 0) ∷ (Got (Function 0) ∷ []))
unfolding out-Instr denote.Hole.Carrier.out wrapped un_from un_to un_value bin_from bin_to bin_value load_to load_width loaded store_from stored
two_names_of_one_function = refl

-- A function in a table has the number that it has elsewhere.
a_function_in_a_table : events (plain (putting (puts 1 ∷ []))) all_kinds (Get (TableOf its) 1 ∷ (Take f ∷ (Invoke 0 [] ∷ []))) 25 ≡ Linked ∷ (Got (Function 0) ∷ (Got (Function 0) ∷ (Returned (Number 5 ∷ []) ∷ [])))
unfolding out-Instr denote.Hole.Carrier.out wrapped un_from un_to un_value bin_from bin_to bin_value load_to load_width loaded store_from stored
a_function_in_a_table = refl

-- A function of the environment is shown as a result by its names and its type.
an_own_function_as_a_result : events (named 1 1 (record empty { types = to_i32 ∷ (record { params = []; results = valt.Ref reft.Func ∷ [] } ∷ []); imports = offered (im.Func 0) ∷ []; funcs = code 1 (i.RefFunc 0 ∷ []) ∷ []; exports = record { name = g; desc = ex.Func 0 } ∷ [] })) all_kinds
    (Call f [] ∷ []) 25 ≡ returns (OwnFunc its to_i32 ∷ [])
unfolding out-Instr denote.Hole.Carrier.out wrapped un_from un_to un_value bin_from bin_to bin_value load_to load_width loaded store_from stored
an_own_function_as_a_result = refl

-- A function of the environment is shown as an argument in this way, too, and has no number.
an_own_function_as_an_argument : events (named 1 1 (record empty { types = nothing ∷ (takes_ref ∷ []); imports = offered (im.Func 1) ∷ []; funcs = code 0 (i.RefFunc 0 ∷ (i.Call 0 ∷ [])) ∷ []; exports = record { name = g; desc = ex.Func 0 } ∷ [] })) all_kinds
    (Call f [] ∷ (Answer [] ∷ (Take f ∷ []))) 25 ≡ Linked ∷ (Asked its takes_ref (OwnFunc its takes_ref ∷ []) ∷ (Returned [] ∷ (Got (Function 0) ∷ [])))
unfolding out-Instr denote.Hole.Carrier.out wrapped un_from un_to un_value bin_from bin_to bin_value load_to load_width loaded store_from stored
an_own_function_as_an_argument = refl

-- ---- growth ----

-- Growth of a memory by no page is asked for even at the maximum.
memory_grow_by_nothing : events (plain (record (gives (num 0 ∷ (i.MemoryGrow 0 ∷ []))) { mems = record { min = 1; max = Some 1 } ∷ [] })) [] (Call f [] ∷ (Grant ∷ [])) 25 ≡ Linked ∷ (GrowAsked Memories 1 0 ∷ (Returned (Number 1 ∷ []) ∷ []))
unfolding out-Instr denote.Hole.Carrier.out wrapped un_from un_to un_value bin_from bin_to bin_value load_to load_width loaded store_from stored
memory_grow_by_nothing = refl

-- Growth of a table by no entry is asked for even at the maximum.
table_grow_by_nothing : events (plain (record (gives (i.RefNull reft.Func ∷ (num 0 ∷ (i.TableGrow 0 ∷ [])))) { tables = record { ty = reft.Func; limits = record { min = 3; max = Some 3 } } ∷ [] })) [] (Call f [] ∷ (Grant ∷ [])) 25 ≡ Linked ∷ (GrowAsked Tables 3 0 ∷ (Returned (Number 3 ∷ []) ∷ []))
unfolding out-Instr denote.Hole.Carrier.out wrapped un_from un_to un_value bin_from bin_to bin_value load_to load_width loaded store_from stored
table_grow_by_nothing = refl

-- Growth of a memory without a maximum is asked for up to 65,536 pages.
memory_grow_to_the_greatest_size : events (plain (record (gives (num 65535 ∷ (i.MemoryGrow 0 ∷ []))) { mems = record { min = 1; max = None } ∷ [] })) [] (Call f [] ∷ (Deny ∷ [])) 25 ≡ Linked ∷ (GrowAsked Memories 1 65535 ∷ (Returned (Number 4294967295 ∷ []) ∷ []))
unfolding out-Instr denote.Hole.Carrier.out wrapped un_from un_to un_value bin_from bin_to bin_value load_to load_width loaded store_from stored
memory_grow_to_the_greatest_size = refl

-- Growth of a table without a maximum is asked for up to 4,294,967,295 entries.
table_grow_to_the_greatest_size : events (plain (record (gives (i.RefNull reft.Func ∷ (i.I32Const (negsuc 3) ∷ (i.TableGrow 0 ∷ [])))) { tables = record { ty = reft.Func; limits = record { min = 3; max = None } } ∷ [] })) [] (Call f [] ∷ (Deny ∷ [])) 25 ≡ Linked ∷
    (GrowAsked Tables 3 4294967292 ∷ (Returned (Number 4294967295 ∷ []) ∷ []))
unfolding out-Instr denote.Hole.Carrier.out wrapped un_from un_to un_value bin_from bin_to bin_value load_to load_width loaded store_from stored
table_grow_to_the_greatest_size = refl

-- A world in which f asks to grow the environment's memory by a number of pages.
abbrev growing_its_memory : World
growing_its_memory = plain (record empty { imports = its_memory ∷ []; funcs = code 1 (i.LocalGet 0 ∷ (i.MemoryGrow 0 ∷ [])) ∷ [] })

-- The maximum of the environment's memory counts, though the import does not name it.
an_imported_memory_grows_to_its_own_maximum : events growing_its_memory all_kinds (Call f (Number 2 ∷ []) ∷ (Call f (Number 1 ∷ []) ∷ (Grant ∷ (Size (MemoryOf its) ∷ (Call f (Number 1 ∷ []) ∷ []))))) 40 ≡ Linked ∷
    (Returned (Number 4294967295 ∷ []) ∷ (GrowAsked Memories 1 1 ∷ (Returned (Number 1 ∷ []) ∷ (Got (Number 2) ∷ (Returned (Number 4294967295 ∷ []) ∷ [])))))
unfolding out-Instr denote.Hole.Carrier.out wrapped un_from un_to un_value bin_from bin_to bin_value load_to load_width loaded store_from stored
an_imported_memory_grows_to_its_own_maximum = refl

-- The size to which the embedder extended the memory counts.
an_imported_memory_that_was_extended : events growing_its_memory all_kinds (Extend (MemoryOf its) 1 ∷ (Call f (Number 1 ∷ []) ∷ (Call f (Number 0 ∷ []) ∷ (Grant ∷ [])))) 40 ≡ Linked ∷ (Done ∷ (Returned (Number 4294967295 ∷ []) ∷ (GrowAsked Memories 2 0 ∷ (Returned (Number 2 ∷ []) ∷ []))))
unfolding out-Instr denote.Hole.Carrier.out wrapped un_from un_to un_value bin_from bin_to bin_value load_to load_width loaded store_from stored
an_imported_memory_that_was_extended = refl

-- ---- imports of one pair ----

-- Two imports of a memory by one pair of names are one memory.
a_memory_imported_twice : events (plain (record (gives (num 0 ∷ (num 9 ∷ (i.Store store.I32Store8 (by 0) ∷ (num 0 ∷ (i.Load load.I32Load8U (record { align = 0; offset = 0; memory = 1 }) ∷ [])))))) { imports = its_memory ∷ (its_memory ∷ []) })) all_kinds (Call f [] ∷ (Get (MemoryOf its) 0 ∷ [])) 25
    ≡ Linked ∷ (Returned (Number 9 ∷ []) ∷ (Got (Number 9) ∷ []))
unfolding out-Instr denote.Hole.Carrier.out wrapped un_from un_to un_value bin_from bin_to bin_value load_to load_width loaded store_from stored
a_memory_imported_twice = refl

-- Imports of a memory by two parts are one memory, too.
a_memory_imported_by_two_parts : events (a_and_b (record (gives (num 1 ∷ [])) { imports = its_memory ∷ []; datas = writes 4 7 ∷ [] }) (record (gives (num 4 ∷ (i.Load load.I32Load8U (by 0) ∷ []))) { imports = its_memory ∷ [] })) all_kinds
    (Call g [] ∷ (Set (MemoryOf its) 4 (Number 8) ∷ (Call g [] ∷ []))) 25 ≡ Linked ∷ (Returned (Number 7 ∷ []) ∷ (Done ∷ (Returned (Number 8 ∷ []) ∷ [])))
unfolding out-Instr denote.Hole.Carrier.out wrapped un_from un_to un_value bin_from bin_to bin_value load_to load_width loaded store_from stored
a_memory_imported_by_two_parts = refl

-- Two imports of one function call the same function.
a_function_imported_twice : events (named 2 2 (record empty { imports = offered (im.Func 0) ∷ (offered (im.Func 0) ∷ []); funcs = code 0 (i.Call 0 ∷ (i.Call 1 ∷ (i.Bin bin.I32Sub ∷ []))) ∷ [] })) all_kinds (Call f [] ∷ (Answer (Number 9 ∷ []) ∷ (Answer (Number 4 ∷ []) ∷ []))) 25 ≡ Linked ∷
    (Asked its to_i32 [] ∷ (Asked its to_i32 [] ∷ (Returned (Number 5 ∷ []) ∷ [])))
unfolding out-Instr denote.Hole.Carrier.out wrapped un_from un_to un_value bin_from bin_to bin_value load_to load_width loaded store_from stored
a_function_imported_twice = refl

-- Two imports of one function are shown as the same value.
a_function_imported_twice_is_one : events (named 0 1 (record empty { imports = offered (im.Func 0) ∷ (offered (im.Func 0) ∷ []) })) all_kinds (Take f ∷ (Take g ∷ [])) 25 ≡ Linked ∷ (Got (OwnFunc its to_i32) ∷ (Got (OwnFunc its to_i32) ∷ []))
unfolding out-Instr denote.Hole.Carrier.out wrapped un_from un_to un_value bin_from bin_to bin_value load_to load_width loaded store_from stored
a_function_imported_twice_is_one = refl

-- Imports of one pair with two types are two functions.
two_types_of_one_pair : events (named 2 2 (record empty { imports = offered (im.Func 2) ∷ (offered (im.Func 0) ∷ []); funcs = code 0 (i.Call 0 ∷ (i.Call 1 ∷ [])) ∷ [] })) all_kinds (Call f [] ∷ (Answer [] ∷ (Answer (Number 4 ∷ []) ∷ []))) 25 ≡ Linked ∷
    (Asked its nothing [] ∷ (Asked its to_i32 [] ∷ (Returned (Number 4 ∷ []) ∷ [])))
unfolding out-Instr denote.Hole.Carrier.out wrapped un_from un_to un_value bin_from bin_to bin_value load_to load_width loaded store_from stored
two_types_of_one_pair = refl

-- An import of a type that is not offered is a link fault, whatever else the pair offers.
a_type_that_is_not_offered : events (plain (record empty { imports = offered (im.Func 1) ∷ [] })) all_kinds [] 25 ≡ LinkFault ∷ []
unfolding out-Instr denote.Hole.Carrier.out wrapped un_from un_to un_value bin_from bin_to bin_value load_to load_width loaded store_from stored
a_type_that_is_not_offered = refl

-- An import that the part of its name does not export goes to the environment.
an_import_that_a_part_does_not_export : events (record calling { parts = record { name = None; «module» = importing (i.Call 0 ∷ []) } ∷ (record { name = Some e; «module» = empty } ∷ []) }) own (Call f [] ∷ (Answer (Number 4 ∷ []) ∷ [])) 25 ≡ Linked ∷
    (Asked (e, g) to_i32 [] ∷ (Returned (Number 4 ∷ []) ∷ []))
unfolding out-Instr denote.Hole.Carrier.out wrapped un_from un_to un_value bin_from bin_to bin_value load_to load_width loaded store_from stored
an_import_that_a_part_does_not_export = refl

-- An import is linked to what the part exports by its name, and does not match if that is of
-- another kind or type.
an_import_that_a_part_exports_otherwise : events (record calling { parts = record { name = None; «module» = importing (i.Call 0 ∷ []) } ∷ (record { name = Some e; «module» = record empty { funcs = code 2 [] ∷ []; exports = record { name = g; desc = ex.Func 0 } ∷ [] } } ∷ []) }) own [] 25 ≡
    LinkFault ∷ []
unfolding out-Instr denote.Hole.Carrier.out wrapped un_from un_to un_value bin_from bin_to bin_value load_to load_width loaded store_from stored
an_import_that_a_part_exports_otherwise = refl

-- ---- starts ----

-- A module whose start sets the environment's global to 7 and calls the environment's function.
abbrev setting : Module
setting = record empty { imports = its_global ∷ (offered (im.Func 2) ∷ []); funcs = code 2 (num 7 ∷ (i.GlobalSet 0 ∷ (i.Call 0 ∷ []))) ∷ []; start = Some 1 }

-- A world of this part and another after it.
abbrev setting_then : Module → World
setting_then second = record { parts = record { name = Some a; «module» = setting } ∷ (record { name = Some b; «module» = second } ∷ []); view = [] }

-- The start of the second part traps after that of the first has called, and what the first wrote
-- stays.
a_second_start_that_traps : events (setting_then (record empty { funcs = code 2 (i.Unreachable ∷ []) ∷ []; start = Some 0 })) all_kinds (Get (GlobalOf its) 0 ∷ (Answer [] ∷ (Get (GlobalOf its) 0 ∷ []))) 25 ≡ Asked its nothing [] ∷ (Got (Number 7) ∷ (InstanceTrapped ∷ (Got (Number 7) ∷ [])))
unfolding out-Instr denote.Hole.Carrier.out wrapped un_from un_to un_value bin_from bin_to bin_value load_to load_width loaded store_from stored
a_second_start_that_traps = refl

-- A start that is refused keeps the second start from running.
a_first_start_that_is_refused : events (setting_then setting) all_kinds (Set (GlobalOf its) 0 (Number 9) ∷ (Refuse ∷ (Get (GlobalOf its) 0 ∷ (Answer [] ∷ [])))) 25 ≡ Asked its nothing [] ∷ (Done ∷ (InstanceTrapped ∷ (Got (Number 9) ∷ (BadMove ∷ []))))
unfolding out-Instr denote.Hole.Carrier.out wrapped un_from un_to un_value bin_from bin_to bin_value load_to load_width loaded store_from stored
a_first_start_that_is_refused = refl

-- A segment of the second part comes before the start of the first.
segments_come_before_starts : events (record {
  parts = record { name = Some a; «module» = record empty { imports = its_memory ∷ (its_global ∷ []); funcs = code 2 (num 0 ∷ (i.Load load.I32Load8U (by 0) ∷ (i.GlobalSet 0 ∷ []))) ∷ []; start = Some 0 } } ∷
      (record { name = Some b; «module» = writing (writes 0 8 ∷ []) } ∷ []);
  view = [];
}) all_kinds (Get (GlobalOf its) 0 ∷ []) 25 ≡ Linked ∷ (Got (Number 8) ∷ [])
unfolding out-Instr denote.Hole.Carrier.out wrapped un_from un_to un_value bin_from bin_to bin_value load_to load_width loaded store_from stored
segments_come_before_starts = refl

-- The start of the first part comes first though the part imports from the second.
starts_come_by_part_also_against_imports : events (record {
  parts = record { name = Some a; «module» = record empty { imports = record { «module» = b; field = f; desc = im.Func 2 } ∷ []; funcs = code 2 (i.Call 0 ∷ []) ∷ []; start = Some 1 } } ∷
      (record { name = Some b; «module» = record setting { exports = record { name = f; desc = ex.Func 1 } ∷ [] } } ∷ []);
  view = [];
}) all_kinds (Set (GlobalOf its) 0 (Number 9) ∷ (Answer [] ∷ (Get (GlobalOf its) 0 ∷ (Answer [] ∷ [])))) 40 ≡ Asked its nothing [] ∷
    (Done ∷ (Asked its nothing [] ∷ (Got (Number 7) ∷ (Linked ∷ []))))
unfolding out-Instr denote.Hole.Carrier.out wrapped un_from un_to un_value bin_from bin_to bin_value load_to load_width loaded store_from stored
starts_come_by_part_also_against_imports = refl

-- A start may be the environment's own function.
an_own_function_as_a_start : events (record { parts = record { name = None; «module» = record empty { imports = offered (im.Func 2) ∷ []; start = Some 0 } } ∷ []; view = [] }) all_kinds (Answer [] ∷ []) 25 ≡ Asked its nothing [] ∷ (Linked ∷ [])
unfolding out-Instr denote.Hole.Carrier.out wrapped un_from un_to un_value bin_from bin_to bin_value load_to load_width loaded store_from stored
an_own_function_as_a_start = refl

-- ---- values that enter blocks ----

-- A block takes two values, the last on top.
a_block_takes_two_values : events (plain (record (gives (num 9 ∷ (i.I64Const (pos 4) ∷ (i.Block (bt.Index 1) (i.Un un.I32WrapI64 ∷ (i.Bin bin.I32Sub ∷ [])) ∷ [])))) { types = to_i32 ∷ (record { params = i32 ∷ (i64 ∷ []); results = i32 ∷ [] } ∷ []) })) [] (Call f [] ∷ []) 10 ≡ returns (Number 5 ∷ [])
unfolding wrapped un_from un_to un_value bin_from bin_to bin_value
a_block_takes_two_values = simp (i.outs-Block, i.outs-I32Const, i.outs-I64Const, i.outs-Un, i.outs-Bin) refl

-- A loop takes a value and goes on past its end.
a_loop_takes_a_value : events (plain (gives (num 5 ∷ (i.Loop (bt.Index 1) (num 1 ∷ (i.Bin bin.I32Add ∷ [])) ∷ [])))) [] (Call f [] ∷ []) 9 ≡ returns (Number 6 ∷ [])
unfolding wrapped bin_from bin_to bin_value
a_loop_takes_a_value = simp (i.outs-Loop, i.outs-I32Const, i.outs-Bin) refl

-- The first arm of an if takes a value.
an_arm_takes_a_value : events (plain (gives (num 5 ∷ (num 1 ∷ (i.If (bt.Index 1) (num 1 ∷ (i.Bin bin.I32Add ∷ [])) (num 2 ∷ (i.Bin bin.I32Add ∷ [])) ∷ []))))) [] (Call f [] ∷ []) 10 ≡ returns (Number 6 ∷ [])
unfolding wrapped bin_from bin_to bin_value
an_arm_takes_a_value = simp (i.outs-If, i.outs-I32Const, i.outs-Bin) refl

-- The second arm of an if takes a value.
the_other_arm_takes_a_value : events (plain (gives (num 5 ∷ (num 0 ∷ (i.If (bt.Index 1) (num 1 ∷ (i.Bin bin.I32Add ∷ [])) (num 2 ∷ (i.Bin bin.I32Add ∷ [])) ∷ []))))) [] (Call f [] ∷ []) 10 ≡ returns (Number 7 ∷ [])
unfolding wrapped bin_from bin_to bin_value
the_other_arm_takes_a_value = simp (i.outs-If, i.outs-I32Const, i.outs-Bin) refl
