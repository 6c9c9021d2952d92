-- Small evaluations, computed: which constructors are evaluated, what stops the next, and the state
-- after them.
use Rattle.base_lists.proofs.Common.{◌≡◌, refl, pos, negsuc, [], ◌∷◌, ◌++◌, Some, None, true, false, replicate, take, drop}
use Rattle.base_lists.specs.Options.{◌>>=◌}
use Rattle.wasm_tree.specs.declared.instr.Instr.{out-Instr}
use Rattle.wasm_tree.specs.declared.instr.Instr.TheVariants as i
use Rattle.wasm_tree_spec.specs.Prelude.{I32Store, I32, Module}
use Rattle.wasm_num.specs.declared.BinOp.TheVariants.{I32Shl}
use Rattle.wasm_tree.specs.declared.types.RefType.TheVariants.{Func as func_ref}
use Rattle.wasm_tree.specs.declared.module.ElemMode.TheVariants as elem
use Rattle.wasm_tree.specs.declared.module.ConstExpr.TheVariants as const
use Rattle.wasm_tree.specs.declared.module.DataMode.TheVariants as data'
use Rattle.wasm_tree.specs.declared.module.ImportDesc.TheVariants as im
use Rattle.wasm_num.specs.Operations.{wrapped, signed}
use Rattle.wasm_meaning.specs.Access.{store_from, stored, little_bytes}
use Rattle.eval_spec.specs.declared.stop.Stop.TheVariants as why
use Rattle.eval_spec.specs.Prelude.{state_of, left_behind, call_end, evaluated, done_count, stopped_by, state_at_end, memory_bytes, value_of_global, is_dropped}
use Rattle.eval_spec.proofs.Modules.{empty, func, does, with_page, after_import, with_global, data_at, num, stores, byte, turns_left}

-- ---- three constructors, of which the second calls an import ----

abbrev three : Module
three = with_page (record (after_import 0 []) { funcs = func (stores 1024 42) ∷ func (stores 1025 1 ++ i.Call 0 ∷ []) ∷ func [] ∷ [] })

one_is_done : done_count three (1 ∷ 2 ∷ 3 ∷ []) ≡ 1
unfolding out-Instr denote.Hole.Carrier.out wrapped store_from stored little_bytes
one_is_done = refl

the_second_is_stopped : stopped_by three (1 ∷ 2 ∷ 3 ∷ []) ≡ Some why.Import
unfolding out-Instr denote.Hole.Carrier.out wrapped store_from stored little_bytes
the_second_is_stopped = refl

what_the_first_stored : byte three 1024 (state_at_end three (1 ∷ 2 ∷ 3 ∷ [])) ≡ Some 42
unfolding out-Instr denote.Hole.Carrier.out wrapped store_from stored little_bytes
what_the_first_stored = refl

not_what_the_second_stored : byte three 1025 (state_at_end three (1 ∷ 2 ∷ 3 ∷ [])) ≡ Some 0
unfolding out-Instr denote.Hole.Carrier.out wrapped store_from stored little_bytes
not_what_the_second_stored = refl

three_turns_are_spent : turns_left (state_at_end three (1 ∷ 2 ∷ 3 ∷ [])) ≡ Some 49999997
unfolding out-Instr denote.Hole.Carrier.out wrapped store_from stored little_bytes
three_turns_are_spent = refl

-- The first of sixteen blocks is written.
one_block_is_written : (state_at_end three (1 ∷ []) >>= λ s. Some s.written) ≡ Some (true ∷ replicate 15 false)
unfolding out-Instr denote.Hole.Carrier.out wrapped store_from stored little_bytes
one_block_is_written = refl

-- A stopped call leaves its turns spent, and the memory as before the call.
after_the_stop : (state_of (evaluated three (1 ∷ [])) >>= λ s. Some (left_behind s (call_end three s 2)).turns) ≡ Some 49999993
unfolding out-Instr denote.Hole.Carrier.out wrapped store_from stored little_bytes
after_the_stop = refl

its_byte_is_as_before : byte three 1025 (state_of (evaluated three (1 ∷ [])) >>= λ s. Some (left_behind s (call_end three s 2))) ≡ Some 0
unfolding out-Instr denote.Hole.Carrier.out wrapped store_from stored little_bytes
its_byte_is_as_before = refl

-- ---- a trap comes first ----

none_is_done : done_count (record empty { funcs = func (i.Unreachable ∷ []) ∷ func [] ∷ [] }) (0 ∷ 1 ∷ []) ≡ 0
unfolding out-Instr denote.Hole.Carrier.out
none_is_done = refl

-- ---- segments and globals ----

abbrev segments_at : Module
segments_at = record (with_page (does (i.DataDrop 1 ∷ []))) { datas = data_at (const.I32 (pos 4095)) (7 ∷ 8 ∷ []) ∷ record { mode = data'.Passive; bytes = 9 ∷ [] } ∷ [] }

-- A data segment whose bytes lie in two blocks writes both.
two_blocks : (state_at_end segments_at [] >>= λ s. Some s.written) ≡ Some (true ∷ true ∷ replicate 14 false)
unfolding wrapped
two_blocks = refl

-- The copies of active segments take no turns.
no_turns : turns_left (state_at_end segments_at []) ≡ Some 50000000
unfolding wrapped
no_turns = refl

its_bytes : byte segments_at 4096 (state_at_end segments_at []) ≡ Some 8
unfolding wrapped
its_bytes = refl

-- An active segment is dropped once it is copied.
dropped_at_once : (state_at_end segments_at [] >>= λ s. Some (is_dropped s 0)) ≡ Some true
unfolding wrapped
dropped_at_once = refl

not_dropped : (state_at_end segments_at [] >>= λ s. Some (is_dropped s 1)) ≡ Some false
unfolding wrapped
not_dropped = refl

dropped_by_a_call : (state_at_end segments_at (0 ∷ []) >>= λ s. Some (is_dropped s 1)) ≡ Some true
unfolding out-Instr denote.Hole.Carrier.out wrapped
dropped_by_a_call = refl

an_unknown_global : (state_at_end (with_global []) [] >>= λ s. value_of_global (with_global []) s 1) ≡ None
an_unknown_global = refl

a_global_that_was_set : (state_at_end (with_global (i.I32Const (negsuc 0) ∷ i.GlobalSet 1 ∷ [])) (0 ∷ []) >>= λ s. value_of_global (with_global []) s 1) ≡ Some (const.I32 (negsuc 0))
unfolding out-Instr denote.Hole.Carrier.out wrapped signed
a_global_that_was_set = refl

-- ---- a module as a linker writes it ----

-- A module with the functions log, which is imported, ctors, init, twice and run. Its memory begins
-- with two bytes at 1024, and ctors calls init, which stores 42 at 1028.
abbrev linked : Module
linked = record empty {
  types = record { params = []; results = [] } ∷ record { params = I32 ∷ []; results = I32 ∷ [] } ∷ record { params = I32 ∷ []; results = [] } ∷ [];
  imports = record { «module» = 101 ∷ 110 ∷ 118 ∷ []; field = 108 ∷ 111 ∷ 103 ∷ []; desc = im.Func 2 } ∷ [];
  funcs = func (i.Call 2 ∷ []) ∷ func (num 0 ∷ num 42 ∷ i.Store I32Store (record { align = 2; offset = 1028; memory = 0 }) ∷ [])
      ∷ record { ty = 1; locals = []; body = i.LocalGet 0 ∷ num 1 ∷ i.Bin I32Shl ∷ [] } ∷ record { ty = 1; locals = []; body = i.LocalGet 0 ∷ i.Call 0 ∷ i.LocalGet 0 ∷ num 1 ∷ i.CallIndirect 1 0 ∷ [] } ∷ [];
  tables = record { ty = func_ref; limits = record { min = 5; max = Some 5 } } ∷ [];
  mems = record { min = 2; max = None } ∷ [];
  globals = record { ty = record { ty = I32; mutable = true }; init = const.I32 (pos 66576) } ∷ [];
  elems = record { mode = elem.Active 0 (const.I32 (pos 1)); ty = func_ref; items = const.Func 3 ∷ [] } ∷ [];
  datas = data_at (const.I32 (pos 1024)) (104 ∷ 105 ∷ []) ∷ [];
}

its_constructor_is_evaluated : done_count linked (1 ∷ []) ≡ 1
unfolding out-Instr denote.Hole.Carrier.out wrapped store_from stored little_bytes
its_constructor_is_evaluated = refl

its_memory : (state_at_end linked (1 ∷ []) >>= λ s. Some (take 5 (drop 1024 (memory_bytes linked s)))) ≡ Some (104 ∷ 105 ∷ 0 ∷ 0 ∷ 42 ∷ [])
unfolding out-Instr denote.Hole.Carrier.out wrapped store_from stored little_bytes
its_memory = refl

-- The function run calls log, but its parameter stops it before.
run_is_not_evaluated : stopped_by linked (1 ∷ 4 ∷ []) ≡ Some why.Signature
unfolding out-Instr denote.Hole.Carrier.out wrapped store_from stored little_bytes
run_is_not_evaluated = refl
