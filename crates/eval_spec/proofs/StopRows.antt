-- Each stop, by a small module whose evaluation is stopped by it, and by a similar one that is not.
use Rattle.base_lists.proofs.Common.{◌≡◌, refl, pos, List, [], ◌∷◌, ◌++◌, Some, None}
use Rattle.wasm_tree.specs.declared.types.RefType.TheVariants.{Func as func_ref}
use Rattle.wasm_tree_spec.specs.Prelude.{I32, Instr, I32Load, Module}
use Rattle.wasm_tree.specs.declared.instr.Instr.{out-Instr}
use Rattle.wasm_tree.specs.declared.instr.Instr.TheBlock.{shown-the_row-Instr-0}
use Rattle.wasm_tree.specs.declared.instr.Instr.TheVariants as i
use Rattle.wasm_tree.specs.declared.module.ConstExpr.TheVariants as const
use Rattle.wasm_tree.specs.declared.module.DataMode.TheVariants as data'
use Rattle.wasm_tree.specs.declared.module.ElemMode.TheVariants as elem
use Rattle.wasm_tree.specs.declared.module.ImportDesc.TheVariants as im
use Rattle.wasm_num.specs.Operations.{wrapped, bin_from, bin_to, bin_value}
use Rattle.eval_spec.specs.declared.stop.Stop.TheVariants as why
use Rattle.eval_spec.specs.Prelude.{stop_of, evaluated_within, stopped_by}
use Rattle.eval_spec.proofs.Modules.{empty, func, does, page, with_page, imports, after_import, three_slots, with_slots, mutable_i32, fixed_i32, fixed_ref, with_global, data_at, num, rounds, stops, stops_within}

-- ---- an imported function is called ----

directly : stopped_by (after_import 0 (i.Call 0 ∷ [])) (1 ∷ []) ≡ Some why.Import
unfolding out-Instr denote.Hole.Carrier.out
directly = refl

through_a_table : stopped_by (with_slots (const.Func 0 ∷ []) (after_import 0 (num 1 ∷ i.CallIndirect 0 0 ∷ []))) (1 ∷ []) ≡ Some why.Import
unfolding out-Instr denote.Hole.Carrier.out wrapped
through_a_table = refl

-- A call through a table is stopped even if the type of the import is not the expected one.
of_another_type : stopped_by (with_slots (const.Func 0 ∷ []) (after_import 0 (num 1 ∷ i.CallIndirect 1 0 ∷ i.Drop ∷ []))) (1 ∷ []) ≡ Some why.Import
unfolding out-Instr denote.Hole.Carrier.out wrapped
of_another_type = refl

-- The constructor may be an import itself.
the_constructor : stopped_by (after_import 0 []) (0 ∷ []) ≡ Some why.Import
the_constructor = refl

-- ---- memory.grow, also of a memory that is imported ----

a_memory_grows : stops (with_page (does (num 0 ∷ i.MemoryGrow 0 ∷ i.Drop ∷ []))) ≡ Some why.Grow
unfolding out-Instr denote.Hole.Carrier.out wrapped
a_memory_grows = refl

an_imported_memory_grows : stops (imports (im.Memory page) (does (num 0 ∷ i.MemoryGrow 0 ∷ i.Drop ∷ []))) ≡ Some why.Grow
unfolding out-Instr denote.Hole.Carrier.out wrapped
an_imported_memory_grows = refl

-- ---- tables are written, also past the end ----

a_slot_is_set : stops (with_slots [] (does (num 0 ∷ i.RefNull func_ref ∷ i.TableSet 0 ∷ []))) ≡ Some why.TableWrite
unfolding out-Instr denote.Hole.Carrier.out wrapped
a_slot_is_set = refl

no_slot_is_set : stops (with_slots [] (does (num 9 ∷ i.RefNull func_ref ∷ i.TableSet 0 ∷ []))) ≡ Some why.TableWrite
unfolding out-Instr denote.Hole.Carrier.out wrapped
no_slot_is_set = refl

a_segment_is_dropped : stops (with_slots [] (does (i.ElemDrop 0 ∷ []))) ≡ Some why.TableWrite
unfolding out-Instr denote.Hole.Carrier.out wrapped
a_segment_is_dropped = refl

-- The other instructions that change a table.
a_table_grows : stops (with_slots [] (does (i.RefNull func_ref ∷ num 1 ∷ i.TableGrow 0 ∷ i.Drop ∷ []))) ≡ Some why.TableWrite
unfolding out-Instr denote.Hole.Carrier.out wrapped
a_table_grows = refl

slots_are_filled : stops (with_slots [] (does (num 0 ∷ i.RefNull func_ref ∷ num 1 ∷ i.TableFill 0 ∷ []))) ≡ Some why.TableWrite
unfolding out-Instr denote.Hole.Carrier.out wrapped
slots_are_filled = refl

slots_are_copied : stops (with_slots [] (does (num 0 ∷ num 1 ∷ num 1 ∷ i.TableCopy 0 0 ∷ []))) ≡ Some why.TableWrite
unfolding out-Instr denote.Hole.Carrier.out wrapped
slots_are_copied = refl

items_are_copied : stops (with_slots [] (does (num 0 ∷ num 0 ∷ num 0 ∷ i.TableInit 0 0 ∷ []))) ≡ Some why.TableWrite
unfolding out-Instr denote.Hole.Carrier.out wrapped
items_are_copied = refl

-- A write to a table is tested before the use of an unknown place.
a_slot_of_an_imported_table_is_set : stops (imports (im.Table three_slots) (does (num 0 ∷ i.RefNull func_ref ∷ i.TableSet 0 ∷ []))) ≡ Some why.TableWrite
unfolding out-Instr denote.Hole.Carrier.out wrapped
a_slot_of_an_imported_table_is_set = refl

-- ---- what is unknown is used ----

an_imported_global_is_read : stops (with_global (i.GlobalGet 0 ∷ i.Drop ∷ [])) ≡ Some why.Unknown
unfolding out-Instr denote.Hole.Carrier.out
an_imported_global_is_read = refl

an_imported_global_is_set : stops (imports (im.Global mutable_i32) (does (num 1 ∷ i.GlobalSet 0 ∷ []))) ≡ Some why.Unknown
unfolding out-Instr denote.Hole.Carrier.out wrapped
an_imported_global_is_set = refl

an_unknown_global_is_read : stops (with_global (i.GlobalGet 1 ∷ i.Drop ∷ [])) ≡ Some why.Unknown
unfolding out-Instr denote.Hole.Carrier.out
an_unknown_global_is_read = refl

-- A global that was set is known.
a_global_that_was_set_is_read : stops (with_global (num 7 ∷ i.GlobalSet 1 ∷ i.GlobalGet 1 ∷ i.Drop ∷ [])) ≡ None
unfolding out-Instr denote.Hole.Carrier.out wrapped
a_global_that_was_set_is_read = refl

an_imported_memory_is_read : stops (imports (im.Memory page) (does (num 0 ∷ i.Load I32Load (record { align = 2; offset = 0; memory = 0 }) ∷ i.Drop ∷ []))) ≡ Some why.Unknown
unfolding out-Instr denote.Hole.Carrier.out wrapped
an_imported_memory_is_read = refl

an_imported_memory_is_measured : stops (imports (im.Memory page) (does (i.MemorySize 0 ∷ i.Drop ∷ []))) ≡ Some why.Unknown
unfolding out-Instr denote.Hole.Carrier.out
an_imported_memory_is_measured = refl

an_imported_table_is_called : stops (imports (im.Table three_slots) (does (num 9 ∷ i.CallIndirect 0 0 ∷ []))) ≡ Some why.Unknown
unfolding out-Instr denote.Hole.Carrier.out wrapped
an_imported_table_is_called = refl

-- A module whose table has the value of an imported global in slot 1, and in slot 2 a function that
-- does nothing.
abbrev half_known : List Instr → Module
half_known body = with_slots (const.Global 0 ∷ const.Func 1 ∷ []) (record (imports (im.Global fixed_ref) (does body)) { funcs = func body ∷ func [] ∷ [] })

an_unknown_slot_is_read : stops (half_known (num 1 ∷ i.TableGet 0 ∷ i.Drop ∷ [])) ≡ Some why.Unknown
unfolding out-Instr denote.Hole.Carrier.out wrapped
an_unknown_slot_is_read = refl

an_unknown_slot_is_called : stops (half_known (num 1 ∷ i.CallIndirect 0 0 ∷ [])) ≡ Some why.Unknown
unfolding out-Instr denote.Hole.Carrier.out wrapped
an_unknown_slot_is_called = refl

a_known_slot_is_called : stops (half_known (num 2 ∷ i.CallIndirect 0 0 ∷ num 0 ∷ i.TableGet 0 ∷ i.Drop ∷ [])) ≡ None
unfolding out-Instr denote.Hole.Carrier.out wrapped
a_known_slot_is_called = refl

-- The module with a second segment, which copies a known item into slot 1.
abbrev filled_again : List Instr → Module
filled_again body = let m = half_known body in record m { elems = m.elems ++ record { mode = elem.Active 0 (const.I32 (pos 1)); ty = func_ref; items = const.Func 1 ∷ [] } ∷ [] }

a_slot_that_was_filled_again_is_called : stops (filled_again (num 1 ∷ i.CallIndirect 0 0 ∷ [])) ≡ None
unfolding out-Instr denote.Hole.Carrier.out wrapped
a_slot_that_was_filled_again_is_called = refl

-- The module with a third segment, which copies an unknown item into slot 2.
abbrev unknown_again : List Instr → Module
unknown_again body = let m = filled_again body in record m { elems = m.elems ++ record { mode = elem.Active 0 (const.I32 (pos 2)); ty = func_ref; items = const.Global 0 ∷ [] } ∷ [] }

a_slot_that_is_unknown_again_is_called : stops (unknown_again (num 2 ∷ i.CallIndirect 0 0 ∷ [])) ≡ Some why.Unknown
unfolding out-Instr denote.Hole.Carrier.out wrapped
a_slot_that_is_unknown_again_is_called = refl

-- A fill of an imported memory is stopped even if it fills no bytes.
an_imported_memory_is_filled : stops (imports (im.Memory page) (does (num 65537 ∷ num 0 ∷ num 0 ∷ i.MemoryFill 0 ∷ []))) ≡ Some why.Unknown
unfolding out-Instr denote.Hole.Carrier.out wrapped
an_imported_memory_is_filled = refl

-- The instruction data.drop uses no memory.
data_is_dropped : stops (record (imports (im.Memory page) (does (i.DataDrop 0 ∷ []))) { datas = record { mode = data'.Passive; bytes = [] } ∷ [] }) ≡ None
unfolding out-Instr denote.Hole.Carrier.out
data_is_dropped = refl

an_offset_is_unknown : stops (record (with_page (imports (im.Global fixed_i32) (does []))) { datas = data_at (const.Global 0) [] ∷ [] }) ≡ Some why.Unknown
an_offset_is_unknown = refl

data_goes_to_an_imported_memory : stops (record (imports (im.Memory page) (does [])) { datas = data_at (const.I32 (pos 0)) [] ∷ [] }) ≡ Some why.Unknown
unfolding wrapped
data_goes_to_an_imported_memory = refl

-- An imported memory holds nothing, but `Unknown` is tested before the bounds of the segment.
a_byte_goes_to_an_imported_memory : stops (record (imports (im.Memory page) (does [])) { datas = data_at (const.I32 (pos 0)) (1 ∷ []) ∷ [] }) ≡ Some why.Unknown
unfolding wrapped
a_byte_goes_to_an_imported_memory = refl

items_go_to_an_imported_table : stops (record (imports (im.Table three_slots) (with_slots [] (does []))) { tables = [] }) ≡ Some why.Unknown
unfolding wrapped
items_go_to_an_imported_table = refl

-- ---- traps ----

unreachable : stops (does (i.Unreachable ∷ [])) ≡ Some why.Trap
unfolding out-Instr denote.Hole.Carrier.out
unreachable = refl

an_empty_slot_is_called : stops (with_slots [] (does (num 0 ∷ i.CallIndirect 0 0 ∷ []))) ≡ Some why.Trap
unfolding out-Instr denote.Hole.Carrier.out wrapped
an_empty_slot_is_called = refl

data_past_the_end : stops (record (with_page (does [])) { datas = data_at (const.I32 (pos 65535)) (1 ∷ 2 ∷ []) ∷ [] }) ≡ Some why.Trap
unfolding wrapped
data_past_the_end = refl

items_past_the_end : stops (with_slots (const.Func 0 ∷ const.Func 0 ∷ const.Func 0 ∷ []) (does [])) ≡ Some why.Trap
unfolding wrapped
items_past_the_end = refl

-- Element segments are copied before data segments, here one with items past the end before one whose
-- offset is unknown.
items_before_data : stops (record (with_page (imports (im.Global fixed_i32) (with_slots (const.Func 0 ∷ const.Func 0 ∷ const.Func 0 ∷ []) (does [])))) { datas = data_at (const.Global 0) [] ∷ [] }) ≡ Some why.Trap
unfolding wrapped
items_before_data = refl

a_start_that_traps : stops (record (does (i.Unreachable ∷ [])) { start = Some 0 }) ≡ Some why.Trap
unfolding out-Instr denote.Hole.Carrier.out
a_start_that_traps = refl

-- Code that is not valid, to which no rule applies, stops with `Trap` too.
ill_typed : stops (does (i.Drop ∷ [])) ≡ Some why.Trap
unfolding out-Instr denote.Hole.Carrier.out
ill_typed = refl

-- ---- the constructor has a parameter or a result ----

a_result : stops (record empty { funcs = record { ty = 1; locals = []; body = num 1 ∷ [] } ∷ [] }) ≡ Some why.Signature
a_result = refl

a_parameter : stops (record empty { funcs = record { ty = 2; locals = []; body = [] } ∷ [] }) ≡ Some why.Signature
a_parameter = refl

-- The signature of a constructor is tested before the turns of its locals.
a_parameter_without_turns : stops_within 0 (record empty { funcs = record { ty = 2; locals = record { count = 64; ty = I32 } ∷ []; body = [] } ∷ [] }) ≡ Some why.Signature
a_parameter_without_turns = refl

-- The signature of a constructor is tested before `Import`.
an_imported_result : stopped_by (after_import 1 []) (0 ∷ []) ≡ Some why.Signature
an_imported_result = refl

-- ---- the turns do not suffice ----

-- A loop of three rounds takes 2 + 6 * 3 turns.
twenty_turns : stops_within 20 (rounds 3 []) ≡ None
unfolding out-Instr denote.Hole.Carrier.out shown-the_row-Instr-0 denote.Hole.Carrier.shown denote.Hole.Carrier.hidden wrapped bin_from bin_to bin_value
twenty_turns = refl

nineteen_turns : stops_within 19 (rounds 3 []) ≡ Some why.Steps
unfolding out-Instr denote.Hole.Carrier.out shown-the_row-Instr-0 denote.Hole.Carrier.shown denote.Hole.Carrier.hidden wrapped bin_from bin_to bin_value
nineteen_turns = refl

one_instruction_more : stops_within 20 (rounds 3 (i.Nop ∷ [])) ≡ Some why.Steps
unfolding out-Instr denote.Hole.Carrier.out shown-the_row-Instr-0 denote.Hole.Carrier.shown denote.Hole.Carrier.hidden wrapped bin_from bin_to bin_value
one_instruction_more = refl

-- A fill of 128 bytes takes two further turns.
a_fill : stops_within 6 (with_page (does (num 0 ∷ num 7 ∷ num 128 ∷ i.MemoryFill 0 ∷ []))) ≡ None
unfolding out-Instr denote.Hole.Carrier.out wrapped
a_fill = refl

a_fill_without_turns : stops_within 5 (with_page (does (num 0 ∷ num 7 ∷ num 128 ∷ i.MemoryFill 0 ∷ []))) ≡ Some why.Steps
unfolding out-Instr denote.Hole.Carrier.out wrapped
a_fill_without_turns = refl

-- The bounds of a fill are tested before its further turns.
a_fill_past_the_end : stops_within 4 (with_page (does (num 65535 ∷ num 7 ∷ num 128 ∷ i.MemoryFill 0 ∷ []))) ≡ Some why.Trap
unfolding out-Instr denote.Hole.Carrier.out wrapped
a_fill_past_the_end = refl

-- A module whose function 0 calls function 1, which declares 128 locals.
abbrev many_locals : Module
many_locals = record empty { funcs = func (i.Call 1 ∷ []) ∷ record { ty = 0; locals = record { count = 128; ty = I32 } ∷ []; body = [] } ∷ [] }

a_frame_with_locals : stop_of (evaluated_within many_locals 3 (0 ∷ [])) ≡ None
unfolding out-Instr denote.Hole.Carrier.out
a_frame_with_locals = refl

a_frame_without_turns : stop_of (evaluated_within many_locals 2 (0 ∷ [])) ≡ Some why.Steps
unfolding out-Instr denote.Hole.Carrier.out
a_frame_without_turns = refl

-- A call by the embedder takes the turns of the locals, and none for itself.
the_hosts_frame : stop_of (evaluated_within many_locals 2 (1 ∷ [])) ≡ None
the_hosts_frame = refl

the_hosts_frame_without_turns : stop_of (evaluated_within many_locals 1 (1 ∷ [])) ≡ Some why.Steps
the_hosts_frame_without_turns = refl

-- The one turn of an instruction is tested before all else.
growth_without_a_turn : stops_within 1 (with_page (does (num 0 ∷ i.MemoryGrow 0 ∷ i.Drop ∷ []))) ≡ Some why.Steps
unfolding out-Instr denote.Hole.Carrier.out wrapped
growth_without_a_turn = refl

-- The start spends from the budget of the evaluation.
after_a_start : stops_within 1 (record (does (i.Nop ∷ [])) { start = Some 0 }) ≡ Some why.Steps
unfolding out-Instr denote.Hole.Carrier.out
after_a_start = refl

-- Each constructor spends from the budget of the evaluation.
two_calls : stop_of (evaluated_within (does (i.Nop ∷ i.Nop ∷ [])) 4 (0 ∷ 0 ∷ [])) ≡ None
unfolding out-Instr denote.Hole.Carrier.out
two_calls = refl

two_calls_without_turns : stop_of (evaluated_within (does (i.Nop ∷ i.Nop ∷ [])) 3 (0 ∷ 0 ∷ [])) ≡ Some why.Steps
unfolding out-Instr denote.Hole.Carrier.out
two_calls_without_turns = refl

-- ---- several memories ----

two_memories : stops (record (does []) { mems = page ∷ page ∷ [] }) ≡ Some why.Memory
two_memories = refl

-- Several memories are found before a segment that is out of bounds.
two_memories_first : stops (record (imports (im.Memory page) (with_page (does []))) { datas = data_at (const.I32 (pos 65536)) (1 ∷ []) ∷ [] }) ≡ Some why.Memory
two_memories_first = refl
