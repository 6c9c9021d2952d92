-- Small runs under a loader, computed.
use Rattle.base_lists.proofs.Common.{◌≡◌, refl, ℕ, List, [], ◌∷◌, ◌++◌, Some, None, true, pos}
use Rattle.wasm_num.specs.declared.BinOp.TheVariants as bin
use Rattle.wasm_tree.specs.declared.types.RefType.TheVariants as reft
use Rattle.wasm_tree_spec.specs.Prelude.{TableType, Func, ElemSeg, Module}
use Rattle.wasm_tree.specs.declared.instr.Instr.{out-Instr}
use Rattle.wasm_tree.specs.declared.instr.Instr.TheVariants as i
use Rattle.wasm_tree.specs.declared.module.ImportDesc.TheVariants as im
use Rattle.wasm_tree.specs.declared.module.ExportDesc.TheVariants as ex
use Rattle.wasm_tree.specs.declared.module.ConstExpr.TheVariants as const
use Rattle.wasm_tree.specs.declared.module.ElemMode.TheVariants as elem
use Rattle.wasm_num.specs.Operations.{wrapped, un_from, un_to, un_value, bin_from, bin_to, bin_value}
use Rattle.wasm_meaning.specs.Access.{load_to, load_width, loaded, store_from, stored}
use Rattle.wasm_meaning.specs.Prelude.{Environment, Number, Null, Function, Event, Move, Linked, LinkFault, InstanceTrapped, Asked, Returned, Trapped, Got, BadMove, Call, Invoke, Answer, Get, Named, LoaderWorld, events_loaded}
use Rattle.wasm_meaning.proofs.SmallRuns.{f, g, a, b, e, m, i32, to_i32, nothing, empty, code, num, own}

-- ---- modules ----

-- The table of slots has one slot, and an entry that the primary module leaves empty.
abbrev two_entries : TableType
two_entries = record { ty = reft.Func; limits = record { min = 2; max = Some 2 } }

abbrev puts : (place func : ℕ) → ElemSeg
puts place func = record { mode = elem.Active 0 (const.I32 (pos place)); ty = reft.Func; items = const.Func func ∷ [] }

-- Function 0 is the environment's and function 1 the placeholder; f calls through the slot, g does
-- so after a call of the environment's function, and m calls the placeholder.
abbrev pub primary : Module
primary = record empty {
  imports = record { «module» = e; field = g; desc = im.Func 0 } ∷ (record { «module» = b; field = g; desc = im.Func 0 } ∷ []);
  funcs = code 0 (num 0 ∷ (i.CallIndirect 0 0 ∷ [])) ∷ (code 0 (i.Call 0 ∷ (i.Drop ∷ (i.Call 2 ∷ []))) ∷ (code 0 (i.Call 1 ∷ []) ∷ []));
  tables = two_entries ∷ [];
  exports = record { name = f; desc = ex.Func 2 } ∷ (record { name = a; desc = ex.Table 0 } ∷ []);
  elems = puts 0 1 ∷ [];
}

-- A primary module whose start calls through the slot.
abbrev starting : Module
starting = record primary { funcs = primary.funcs ++ code 2 (i.Call 2 ∷ (i.Drop ∷ [])) ∷ []; start = Some 5 }

-- A secondary module that imports the table of slots, and whose segments write its functions there.
abbrev secondary : List Func → List ElemSeg → Module
secondary funcs elems = record empty { imports = record { «module» = b; field = a; desc = im.Table two_entries } ∷ []; funcs = funcs; elems = elems }

-- The moved function gives 7.
abbrev pub moved : Module
moved = secondary (code 0 (num 7 ∷ []) ∷ []) (puts 0 0 ∷ [])

-- The moved function counts its calls.
abbrev counting : Module
counting = record (secondary (code 0 (i.GlobalGet 0 ∷ (num 1 ∷ (i.Bin bin.I32Add ∷ (i.GlobalSet 0 ∷ (i.GlobalGet 0 ∷ []))))) ∷ []) (puts 0 0 ∷ [])) {
  globals = record { ty = record { ty = i32; mutable = true }; init = const.I32 (pos 0) } ∷ [];
}

-- ---- runs ----

abbrev pub under : Module → Module → LoaderWorld
under first second = record {
  primary = first;
  secondaries = record { «module» = second; placeholders = ((b, g), to_i32) ∷ [] } ∷ [];
  import_namespace = b;
  slot_table = 0;
  view = (f, ex.Func 2) ∷ ((g, ex.Func 3) ∷ ((m, ex.Func 4) ∷ ((a, ex.Table 0) ∷ [])));
}

-- The events of a run with an environment that has the function g of e.
abbrev shown : LoaderWorld → List Move → List Event
shown w moves = events_loaded w own moves 60

abbrev call : List ℕ → Move
call name = Call name []

abbrev number : ℕ → Event
number n = Returned (Number n ∷ [])

the_first_call_loads : shown (under primary moved) (call f ∷ (call f ∷ [])) ≡ Linked ∷ (number 7 ∷ (number 7 ∷ []))
unfolding out-Instr denote.Hole.Carrier.out wrapped un_from un_to un_value bin_from bin_to bin_value load_to load_width loaded store_from stored
the_first_call_loads = refl

a_call_of_the_placeholder_itself_loads : shown (under primary moved) (call m ∷ (call f ∷ [])) ≡ Linked ∷ (number 7 ∷ (number 7 ∷ []))
unfolding out-Instr denote.Hole.Carrier.out wrapped un_from un_to un_value bin_from bin_to bin_value load_to load_width loaded store_from stored
a_call_of_the_placeholder_itself_loads = refl

a_moved_function_may_trap : shown (under primary (secondary (code 0 (i.Unreachable ∷ []) ∷ []) (puts 0 0 ∷ []))) (call f ∷ (call f ∷ [])) ≡ Linked ∷ (Trapped ∷ (Trapped ∷ []))
unfolding out-Instr denote.Hole.Carrier.out wrapped un_from un_to un_value bin_from bin_to bin_value load_to load_width loaded store_from stored
a_moved_function_may_trap = refl

a_call_may_load_while_another_waits : shown (under primary moved) (call g ∷ (call f ∷ (Answer (Number 1 ∷ []) ∷ []))) ≡ Linked ∷ (Asked (e, g) to_i32 [] ∷ (number 7 ∷ (number 7 ∷ [])))
unfolding out-Instr denote.Hole.Carrier.out wrapped un_from un_to un_value bin_from bin_to bin_value load_to load_width loaded store_from stored
a_call_may_load_while_another_waits = refl

a_start_may_load : shown (under starting moved) (call f ∷ []) ≡ Linked ∷ (number 7 ∷ [])
unfolding out-Instr denote.Hole.Carrier.out wrapped un_from un_to un_value bin_from bin_to bin_value load_to load_width loaded store_from stored
a_start_may_load = refl

a_start_that_loads_may_trap : shown (under starting (secondary (code 0 (i.Unreachable ∷ []) ∷ []) (puts 0 0 ∷ []))) [] ≡ InstanceTrapped ∷ []
unfolding out-Instr denote.Hole.Carrier.out wrapped un_from un_to un_value bin_from bin_to bin_value load_to load_width loaded store_from stored
a_start_that_loads_may_trap = refl

-- The secondary module has one instance, which counts on at every call of the placeholder.
the_secondary_is_instantiated_once : shown (under primary counting) (call m ∷ (call m ∷ [])) ≡ Linked ∷ (number 1 ∷ (number 2 ∷ []))
unfolding out-Instr denote.Hole.Carrier.out wrapped un_from un_to un_value bin_from bin_to bin_value load_to load_width loaded store_from stored
the_secondary_is_instantiated_once = refl

a_secondary_without_functions_leaves_the_placeholder : shown (under primary empty) (call f ∷ (call f ∷ [])) ≡ Linked ∷ (Trapped ∷ (Trapped ∷ []))
unfolding out-Instr denote.Hole.Carrier.out wrapped un_from un_to un_value bin_from bin_to bin_value load_to load_width loaded store_from stored
a_secondary_without_functions_leaves_the_placeholder = refl

-- The second segment is past the end of the table, and the first is not.
what_a_failed_load_wrote_stands : shown (under primary (secondary (code 0 (num 7 ∷ []) ∷ []) (puts 1 0 ∷ (puts 2 0 ∷ [])))) (call f ∷ (Get (Named a) 1 ∷ [])) ≡ Linked ∷ (Trapped ∷ (Got (Function 0) ∷ []))
unfolding out-Instr denote.Hole.Carrier.out wrapped un_from un_to un_value bin_from bin_to bin_value load_to load_width loaded store_from stored
what_a_failed_load_wrote_stands = refl

-- A secondary module that imports the table of slots from another namespace than that of the loader
-- does not link, and nothing of it is written.
a_secondary_of_another_namespace_does_not_link : shown (record (under primary moved) { import_namespace = e }) (call f ∷ (call m ∷ (Get (Named a) 1 ∷ []))) ≡ Linked ∷ (Trapped ∷ (Trapped ∷ (Got Null ∷ [])))
unfolding out-Instr denote.Hole.Carrier.out wrapped un_from un_to un_value bin_from bin_to bin_value load_to load_width loaded store_from stored
a_secondary_of_another_namespace_does_not_link = refl

a_function_of_another_type_is_not_called : shown (under primary (secondary (code 1 (num 7 ∷ []) ∷ []) (puts 0 0 ∷ []))) (call m ∷ []) ≡ Linked ∷ (Trapped ∷ [])
unfolding out-Instr denote.Hole.Carrier.out wrapped un_from un_to un_value bin_from bin_to bin_value load_to load_width loaded store_from stored
a_function_of_another_type_is_not_called = refl

a_placeholder_of_another_type_is_no_match : shown (record (under primary moved) { secondaries = record { «module» = moved; placeholders = ((b, g), nothing) ∷ [] } ∷ [] }) (call f ∷ []) ≡ LinkFault ∷ (BadMove ∷ [])
unfolding out-Instr denote.Hole.Carrier.out wrapped un_from un_to un_value bin_from bin_to bin_value load_to load_width loaded store_from stored
a_placeholder_of_another_type_is_no_match = refl

-- ---- the steps of a load ----

-- The same primary module, whose slot holds its own function 5, which does what the moved one does.
abbrev filled_before : Module
filled_before = record primary { funcs = primary.funcs ++ code 0 (num 7 ∷ []) ∷ []; elems = puts 0 5 ∷ [] }

-- The events of so many steps, in which f is called twice.
abbrev two_calls_in : ℕ → Module → List Event
two_calls_in n first = events_loaded (under first moved) own (call f ∷ (call f ∷ [])) n

-- A call takes six steps: the move, the constant, the indirect call, the constant of the function in
-- the slot, and the ends of both functions. The load is part of the indirect call, so the first call
-- takes no more steps than the second, nor than one of a function that was in the slot before.
the_first_call_is_not_over_in_seven_steps : two_calls_in 7 primary ≡ Linked ∷ []
unfolding out-Instr denote.Hole.Carrier.out wrapped un_from un_to un_value bin_from bin_to bin_value load_to load_width loaded store_from stored
the_first_call_is_not_over_in_seven_steps = refl

a_load_takes_no_step_of_its_own : two_calls_in 8 primary ≡ Linked ∷ (number 7 ∷ [])
unfolding out-Instr denote.Hole.Carrier.out wrapped un_from un_to un_value bin_from bin_to bin_value load_to load_width loaded store_from stored
a_load_takes_no_step_of_its_own = refl

a_filled_slot_is_not_called_in_seven_steps : two_calls_in 7 filled_before ≡ Linked ∷ []
unfolding out-Instr denote.Hole.Carrier.out wrapped un_from un_to un_value bin_from bin_to bin_value load_to load_width loaded store_from stored
a_filled_slot_is_not_called_in_seven_steps = refl

a_filled_slot_is_called_in_eight_steps : two_calls_in 8 filled_before ≡ Linked ∷ (number 7 ∷ [])
unfolding out-Instr denote.Hole.Carrier.out wrapped un_from un_to un_value bin_from bin_to bin_value load_to load_width loaded store_from stored
a_filled_slot_is_called_in_eight_steps = refl

the_second_call_is_not_over_in_thirteen_steps : two_calls_in 13 primary ≡ Linked ∷ (number 7 ∷ [])
unfolding out-Instr denote.Hole.Carrier.out wrapped un_from un_to un_value bin_from bin_to bin_value load_to load_width loaded store_from stored
the_second_call_is_not_over_in_thirteen_steps = refl

the_second_call_takes_six_steps_too : two_calls_in 14 primary ≡ Linked ∷ (number 7 ∷ (number 7 ∷ []))
unfolding out-Instr denote.Hole.Carrier.out wrapped un_from un_to un_value bin_from bin_to bin_value load_to load_width loaded store_from stored
the_second_call_takes_six_steps_too = refl

-- ---- calls that moves and starts make ----

-- A primary module whose placeholder is the f of the view, and is called by no code.
abbrev seen_placeholder : Module
seen_placeholder = record empty {
  imports = record { «module» = b; field = g; desc = im.Func 0 } ∷ [];
  tables = two_entries ∷ [];
  exports = record { name = f; desc = ex.Func 0 } ∷ (record { name = a; desc = ex.Table 0 } ∷ []);
  elems = puts 0 0 ∷ [];
}

abbrev under_view : Module → Module → LoaderWorld
under_view first second = record (under first second) { view = (f, ex.Func 0) ∷ ((a, ex.Table 0) ∷ []) }

a_move_may_call_a_placeholder : shown (under_view seen_placeholder counting) (call f ∷ (call f ∷ [])) ≡ Linked ∷ (number 1 ∷ (number 2 ∷ []))
unfolding out-Instr denote.Hole.Carrier.out wrapped un_from un_to un_value bin_from bin_to bin_value load_to load_width loaded store_from stored
a_move_may_call_a_placeholder = refl

-- The placeholder is shown as function 0 before the load, after which the slot holds another
-- function.
a_move_may_invoke_a_placeholder : shown (under_view seen_placeholder counting) (Get (Named a) 0 ∷ (Invoke 0 [] ∷ (Invoke 0 [] ∷ (Get (Named a) 0 ∷ [])))) ≡ Linked ∷ (Got (Function 0) ∷ (number 1 ∷ (number 2 ∷ (Got (Function 1) ∷ []))))
unfolding out-Instr denote.Hole.Carrier.out wrapped un_from un_to un_value bin_from bin_to bin_value load_to load_width loaded store_from stored
a_move_may_invoke_a_placeholder = refl

-- A move calls a placeholder while a call of the environment's function waits.
a_move_may_call_a_placeholder_while_another_waits : shown (record (under primary counting) { view = (g, ex.Func 3) ∷ ((f, ex.Func 1) ∷ []) }) (call g ∷ (call f ∷ (Answer (Number 1 ∷ []) ∷ []))) ≡ Linked ∷ (Asked (e, g) to_i32 [] ∷ (number 1 ∷ (number 2 ∷ [])))
unfolding out-Instr denote.Hole.Carrier.out wrapped un_from un_to un_value bin_from bin_to bin_value load_to load_width loaded store_from stored
a_move_may_call_a_placeholder_while_another_waits = refl

-- If a call waits, and a move calls a placeholder whose secondary module fails to load, only the
-- move traps: the answer goes to the call that waits, which calls the placeholder too.
a_failed_load_traps_the_move_alone : shown (record (under primary (secondary (code 0 (num 7 ∷ []) ∷ []) (puts 2 0 ∷ []))) { view = (g, ex.Func 3) ∷ ((f, ex.Func 1) ∷ []) }) (call g ∷ (call f ∷ (Answer (Number 1 ∷ []) ∷ []))) ≡ Linked ∷ (Asked (e, g) to_i32 [] ∷ (Trapped ∷ (Trapped ∷ [])))
unfolding out-Instr denote.Hole.Carrier.out wrapped un_from un_to un_value bin_from bin_to bin_value load_to load_width loaded store_from stored
a_failed_load_traps_the_move_alone = refl

-- A placeholder is not called with a value of another type, and nothing is loaded.
a_move_with_other_values_is_not_taken : shown (under_view seen_placeholder counting) (Call f (Number 1 ∷ []) ∷ (call f ∷ [])) ≡ Linked ∷ (BadMove ∷ (number 1 ∷ []))
unfolding out-Instr denote.Hole.Carrier.out wrapped un_from un_to un_value bin_from bin_to bin_value load_to load_width loaded store_from stored
a_move_with_other_values_is_not_taken = refl

-- A placeholder that is still in its slot after the load traps, whoever calls it.
a_placeholder_that_stays_traps_for_a_move : shown (under_view seen_placeholder empty) (call f ∷ (call f ∷ [])) ≡ Linked ∷ (Trapped ∷ (Trapped ∷ []))
unfolding out-Instr denote.Hole.Carrier.out wrapped un_from un_to un_value bin_from bin_to bin_value load_to load_width loaded store_from stored
a_placeholder_that_stays_traps_for_a_move = refl

-- A primary module whose start is the placeholder, of type [] to [].
abbrev placeholder_starts : Module
placeholder_starts = record seen_placeholder {
  imports = record { «module» = e; field = m; desc = im.Func 2 } ∷ (record { «module» = b; field = g; desc = im.Func 2 } ∷ []);
  exports = record { name = m; desc = ex.Func 0 } ∷ (record { name = a; desc = ex.Table 0 } ∷ []);
  start = Some 1;
  elems = puts 0 1 ∷ [];
}

abbrev under_start : Module → LoaderWorld
under_start second = record { primary = placeholder_starts; secondaries = record { «module» = second; placeholders = ((b, g), nothing) ∷ [] } ∷ []; import_namespace = b; slot_table = 0; view = (a, ex.Table 0) ∷ [] }

-- An environment with the function m of e.
abbrev own_nothing : Environment
own_nothing = record { pair = (e, m); funcs = nothing ∷ []; table = None; memory = None; global = None } ∷ []

-- The moved function calls the environment's function, by an export of the primary module.
abbrev asks_more : Module
asks_more = record empty {
  imports = record { «module» = b; field = m; desc = im.Func 2 } ∷ (record { «module» = b; field = a; desc = im.Table two_entries } ∷ []);
  funcs = code 2 (i.Call 0 ∷ []) ∷ [];
  elems = puts 0 1 ∷ [];
}

a_start_may_be_a_placeholder : events_loaded (under_start asks_more) own_nothing (Answer [] ∷ (Get (Named a) 0 ∷ [])) 60 ≡ Asked (e, m) nothing [] ∷ (Linked ∷ (Got (Function 0) ∷ []))
unfolding out-Instr denote.Hole.Carrier.out wrapped un_from un_to un_value bin_from bin_to bin_value load_to load_width loaded store_from stored
a_start_may_be_a_placeholder = refl

a_start_that_stays_a_placeholder_traps : events_loaded (under_start empty) own_nothing [] 60 ≡ InstanceTrapped ∷ []
unfolding out-Instr denote.Hole.Carrier.out wrapped un_from un_to un_value bin_from bin_to bin_value load_to load_width loaded store_from stored
a_start_that_stays_a_placeholder_traps = refl

-- ---- several secondaries ----

-- Function 0 is the placeholder of slot 0 and function 1 that of slot 1; f calls through slot 0, g
-- through slot 1, and m calls the first placeholder itself.
abbrev two_placeholders : Module
two_placeholders = record empty {
  imports = record { «module» = b; field = f; desc = im.Func 0 } ∷ (record { «module» = b; field = g; desc = im.Func 0 } ∷ []);
  funcs = code 0 (num 0 ∷ (i.CallIndirect 0 0 ∷ [])) ∷ (code 0 (num 1 ∷ (i.CallIndirect 0 0 ∷ [])) ∷ (code 0 (i.Call 0 ∷ []) ∷ []));
  tables = two_entries ∷ [];
  exports = record { name = a; desc = ex.Table 0 } ∷ [];
  elems = puts 0 0 ∷ (puts 1 1 ∷ []);
}

abbrev under_two : Module → Module → LoaderWorld
under_two first second = record {
  primary = two_placeholders;
  secondaries = record { «module» = first; placeholders = ((b, f), to_i32) ∷ [] } ∷ (record { «module» = second; placeholders = ((b, g), to_i32) ∷ [] } ∷ []);
  import_namespace = b;
  slot_table = 0;
  view = (f, ex.Func 2) ∷ ((g, ex.Func 3) ∷ ((m, ex.Func 4) ∷ ((a, ex.Table 0) ∷ [])));
}

-- The moved function counts its calls from the given number on, and fills the given slot.
abbrev counting_from : ℕ → ℕ → Module
counting_from n slot = record (secondary (code 0 (i.GlobalGet 0 ∷ (num 1 ∷ (i.Bin bin.I32Add ∷ (i.GlobalSet 0 ∷ (i.GlobalGet 0 ∷ []))))) ∷ []) (puts slot 0 ∷ [])) {
  globals = record { ty = record { ty = i32; mutable = true }; init = const.I32 (pos n) } ∷ [];
}

each_secondary_is_loaded_once_and_alone : shown (under_two (counting_from 10 0) (counting_from 20 1)) (call g ∷ (Get (Named a) 0 ∷ (Get (Named a) 1 ∷ (call f ∷ (call g ∷ (call m ∷ [])))))) ≡ Linked ∷ (number 21 ∷ (Got (Function 0) ∷ (Got (Function 1) ∷ (number 11 ∷ (number 22 ∷ (number 12 ∷ []))))))
unfolding out-Instr denote.Hole.Carrier.out wrapped un_from un_to un_value bin_from bin_to bin_value load_to load_width loaded store_from stored
each_secondary_is_loaded_once_and_alone = refl

-- The moved function of the first secondary module calls through the slot of the second.
abbrev calls_the_other : Module
calls_the_other = secondary (code 0 (num 1 ∷ (i.CallIndirect 0 0 ∷ [])) ∷ []) (puts 0 0 ∷ [])

a_secondary_may_load_another : shown (under_two calls_the_other (counting_from 20 1)) (call f ∷ (call g ∷ [])) ≡ Linked ∷ (number 21 ∷ (number 22 ∷ []))
unfolding out-Instr denote.Hole.Carrier.out wrapped un_from un_to un_value bin_from bin_to bin_value load_to load_width loaded store_from stored
a_secondary_may_load_another = refl

-- The first secondary module fails to load, and the second is loaded all the same.
a_failed_load_leaves_the_others : shown (under_two (secondary (code 0 (num 7 ∷ []) ∷ []) (puts 2 0 ∷ [])) (counting_from 20 1)) (call f ∷ (call g ∷ (call f ∷ []))) ≡ Linked ∷ (Trapped ∷ (number 21 ∷ (Trapped ∷ [])))
unfolding out-Instr denote.Hole.Carrier.out wrapped un_from un_to un_value bin_from bin_to bin_value load_to load_width loaded store_from stored
a_failed_load_leaves_the_others = refl
