-- Runs of code that does not validate, computed: it traps where it is ill typed. No engine accepts
-- these modules. Some of them stand beside a similar module that does not trap.
use Rattle.base_lists.proofs.Common.{◌≡◌, refl, [], ◌∷◌, Some, false, pos}
use Rattle.wasm_num.specs.declared.BinOp.TheVariants as bin
use Rattle.wasm_tree.specs.declared.types.RefType.TheVariants as reft
use Rattle.wasm_tree.specs.declared.types.ValType.TheVariants as valt
use Rattle.wasm_tree.specs.declared.types.BlockType.TheVariants as bt
use Rattle.wasm_tree.specs.declared.instr.Instr.{out-Instr}
use Rattle.wasm_tree.specs.declared.instr.Instr.TheVariants as i
use Rattle.wasm_tree.specs.declared.instr.LoadOp.TheVariants as load
use Rattle.wasm_tree.specs.declared.instr.StoreOp.TheVariants as store
use Rattle.wasm_tree.specs.declared.module.ConstExpr.TheVariants as const
use Rattle.wasm_num.specs.Operations.{wrapped, un_from, un_to, un_value, bin_from, bin_to, bin_value}
use Rattle.wasm_meaning.specs.Access.{load_to, load_width, loaded, store_from, stored}
use Rattle.wasm_meaning.specs.Prelude.{Number, Linked, InstanceTrapped, Trapped, Call, events}
use Rattle.wasm_meaning.proofs.SmallRuns.{f, i32, to_i32, empty, code, code', num, gives, page, three, plain, returns, f_gives}
use Rattle.wasm_meaning.proofs.MoreRuns.{i64, by, forty, from_slot}

an_operand_is_missing : f_gives (gives (num 1 ∷ (i.Bin bin.I32Add ∷ []))) 25 ≡ Linked ∷ (Trapped ∷ [])
unfolding out-Instr denote.Hole.Carrier.out wrapped un_from un_to un_value bin_from bin_to bin_value load_to load_width loaded store_from stored
an_operand_is_missing = refl

an_operand_of_another_type : f_gives (gives (i.I64Const (pos 1) ∷ (num 1 ∷ (i.Bin bin.I32Add ∷ [])))) 25 ≡ Linked ∷ (Trapped ∷ [])
unfolding out-Instr denote.Hole.Carrier.out wrapped un_from un_to un_value bin_from bin_to bin_value load_to load_width loaded store_from stored
an_operand_of_another_type = refl

an_argument_is_missing : f_gives (record empty { funcs = code 0 (i.Call 1 ∷ []) ∷ (code 1 (i.LocalGet 0 ∷ []) ∷ []) }) 25 ≡ Linked ∷ (Trapped ∷ [])
unfolding out-Instr denote.Hole.Carrier.out wrapped un_from un_to un_value bin_from bin_to bin_value load_to load_width loaded store_from stored
an_argument_is_missing = refl

an_argument_of_another_type : f_gives (record empty { funcs = code 0 (i.I64Const (pos 1) ∷ (i.Call 1 ∷ [])) ∷ (code 1 (i.LocalGet 0 ∷ []) ∷ []) }) 25 ≡ Linked ∷ (Trapped ∷ [])
unfolding out-Instr denote.Hole.Carrier.out wrapped un_from un_to un_value bin_from bin_to bin_value load_to load_width loaded store_from stored
an_argument_of_another_type = refl

a_result_is_missing : f_gives (gives []) 25 ≡ Linked ∷ (Trapped ∷ [])
unfolding out-Instr denote.Hole.Carrier.out wrapped un_from un_to un_value bin_from bin_to bin_value load_to load_width loaded store_from stored
a_result_is_missing = refl

a_result_of_another_type : f_gives (gives (i.I64Const (pos 5) ∷ [])) 25 ≡ Linked ∷ (Trapped ∷ [])
unfolding out-Instr denote.Hole.Carrier.out wrapped un_from un_to un_value bin_from bin_to bin_value load_to load_width loaded store_from stored
a_result_of_another_type = refl

an_index_that_names_nothing : f_gives (gives (i.LocalGet 0 ∷ [])) 25 ≡ Linked ∷ (Trapped ∷ [])
unfolding out-Instr denote.Hole.Carrier.out wrapped un_from un_to un_value bin_from bin_to bin_value load_to load_width loaded store_from stored
an_index_that_names_nothing = refl

an_immutable_global_is_set : f_gives (record (gives (num 7 ∷ (i.GlobalSet 0 ∷ (num 1 ∷ [])))) { globals = record { ty = record { ty = i32; mutable = false }; init = const.I32 (pos 40) } ∷ [] }) 25 ≡ Linked ∷ (Trapped ∷ [])
unfolding out-Instr denote.Hole.Carrier.out wrapped un_from un_to un_value bin_from bin_to bin_value load_to load_width loaded store_from stored
an_immutable_global_is_set = refl

a_select_of_two_types : f_gives (gives (num 1 ∷ (num 2 ∷ (num 0 ∷ (i.SelectTyped (valt.I32 ∷ (valt.I32 ∷ [])) ∷ []))))) 25 ≡ Linked ∷ (Trapped ∷ [])
unfolding out-Instr denote.Hole.Carrier.out wrapped un_from un_to un_value bin_from bin_to bin_value load_to load_width loaded store_from stored
a_select_of_two_types = refl

another_call_is_made_after_it : events (plain (gives (i.Drop ∷ []))) [] (Call f [] ∷ (Call f [] ∷ [])) 25 ≡ Linked ∷ (Trapped ∷ (Trapped ∷ []))
unfolding out-Instr denote.Hole.Carrier.out wrapped un_from un_to un_value bin_from bin_to bin_value load_to load_width loaded store_from stored
another_call_is_made_after_it = refl

a_start_that_gives_a_result : events (plain (record (gives (num 5 ∷ [])) { start = Some 0 })) [] [] 25 ≡ InstanceTrapped ∷ []
unfolding out-Instr denote.Hole.Carrier.out wrapped un_from un_to un_value bin_from bin_to bin_value load_to load_width loaded store_from stored
a_start_that_gives_a_result = refl

-- The values that a block leaves besides its results are dropped at its end.
surplus_values_are_dropped : f_gives (gives (num 7 ∷ (i.Block (bt.Value valt.I32) (num 4 ∷ (num 5 ∷ [])) ∷ (i.Bin bin.I32Add ∷ [])))) 12 ≡ returns (Number 12 ∷ [])
unfolding wrapped bin_from bin_to bin_value
surplus_values_are_dropped = simp (i.outs-Block, i.outs-I32Const, i.outs-Bin) refl

-- ---- labels that are not taken ----

-- The value that a branch would take is missing, and the branch is not taken.
a_branch_not_taken_takes_nothing : f_gives (gives (num 0 ∷ (i.BrIf 0 ∷ (num 6 ∷ [])))) 25 ≡ returns (Number 6 ∷ [])
unfolding out-Instr denote.Hole.Carrier.out wrapped un_from un_to un_value bin_from bin_to bin_value load_to load_width loaded store_from stored
a_branch_not_taken_takes_nothing = refl

-- The label of a branch is missing, and the branch is not taken.
a_branch_not_taken_wants_no_label : f_gives (gives (num 5 ∷ (num 0 ∷ (i.BrIf 1 ∷ [])))) 25 ≡ returns (Number 5 ∷ [])
unfolding out-Instr denote.Hole.Carrier.out wrapped un_from un_to un_value bin_from bin_to bin_value load_to load_width loaded store_from stored
a_branch_not_taken_wants_no_label = refl

-- The same label is missing, and the branch is taken.
a_branch_that_is_taken_wants_its_label : f_gives (gives (num 5 ∷ (num 1 ∷ (i.BrIf 1 ∷ [])))) 25 ≡ Linked ∷ (Trapped ∷ [])
unfolding out-Instr denote.Hole.Carrier.out wrapped un_from un_to un_value bin_from bin_to bin_value load_to load_width loaded store_from stored
a_branch_that_is_taken_wants_its_label = refl

-- The value that a branch takes is missing, and the branch is taken.
a_branch_that_is_taken_wants_its_values : f_gives (gives (num 1 ∷ (i.BrIf 0 ∷ (num 6 ∷ [])))) 25 ≡ Linked ∷ (Trapped ∷ [])
unfolding out-Instr denote.Hole.Carrier.out wrapped un_from un_to un_value bin_from bin_to bin_value load_to load_width loaded store_from stored
a_branch_that_is_taken_wants_its_values = refl

-- A label of a table that is not chosen is missing, and so is the last label.
a_label_that_is_not_chosen_is_not_wanted : f_gives (gives (num 5 ∷ (num 0 ∷ (i.BrTable (0 ∷ (1 ∷ [])) 1 ∷ [])))) 25 ≡ returns (Number 5 ∷ [])
unfolding out-Instr denote.Hole.Carrier.out wrapped un_from un_to un_value bin_from bin_to bin_value load_to load_width loaded store_from stored
a_label_that_is_not_chosen_is_not_wanted = refl

-- The label of a table that is chosen is missing.
the_label_that_is_chosen_is_wanted : f_gives (gives (num 5 ∷ (num 1 ∷ (i.BrTable (0 ∷ (1 ∷ [])) 0 ∷ [])))) 25 ≡ Linked ∷ (Trapped ∷ [])
unfolding out-Instr denote.Hole.Carrier.out wrapped un_from un_to un_value bin_from bin_to bin_value load_to load_width loaded store_from stored
the_label_that_is_chosen_is_wanted = refl

-- ---- values that enter a block, a loop or an if ----

-- An i64 enters a block that takes an i32, and would be dropped there.
a_block_takes_another_type : f_gives (gives (i.I64Const (pos 5) ∷ (i.Block (bt.Index 1) (i.Drop ∷ (num 6 ∷ [])) ∷ []))) 7 ≡ Linked ∷ (Trapped ∷ [])
unfolding wrapped
a_block_takes_another_type = simp (i.outs-Block, i.outs-I64Const) refl

-- An i32 enters the block, which goes on.
a_block_of_its_type : f_gives (gives (num 5 ∷ (i.Block (bt.Index 1) (i.Drop ∷ (num 6 ∷ [])) ∷ []))) 9 ≡ returns (Number 6 ∷ [])
unfolding wrapped
a_block_of_its_type = simp (i.outs-Block, i.outs-I32Const, i.outs-Drop) refl

-- An i64 enters a loop that takes an i32.
a_loop_takes_another_type : f_gives (gives (i.I64Const (pos 5) ∷ (i.Loop (bt.Index 1) (i.Drop ∷ (num 6 ∷ [])) ∷ []))) 7 ≡ Linked ∷ (Trapped ∷ [])
unfolding wrapped
a_loop_takes_another_type = simp (i.outs-Loop, i.outs-I64Const) refl

-- An i32 enters the loop, which goes on.
a_loop_of_its_type : f_gives (gives (num 5 ∷ (i.Loop (bt.Index 1) (i.Drop ∷ (num 6 ∷ [])) ∷ []))) 9 ≡ returns (Number 6 ∷ [])
unfolding wrapped
a_loop_of_its_type = simp (i.outs-Loop, i.outs-I32Const, i.outs-Drop) refl

-- An i64 enters the first arm of an if that takes an i32.
an_arm_takes_another_type : f_gives (gives (i.I64Const (pos 5) ∷ (num 1 ∷ (i.If (bt.Index 1) (i.Drop ∷ (num 6 ∷ [])) (i.Drop ∷ (num 7 ∷ [])) ∷ [])))) 8 ≡ Linked ∷ (Trapped ∷ [])
unfolding wrapped
an_arm_takes_another_type = simp (i.outs-If, i.outs-I64Const, i.outs-I32Const) refl

-- An i64 enters the second arm of an if that takes an i32.
the_other_arm_takes_another_type : f_gives (gives (i.I64Const (pos 5) ∷ (num 0 ∷ (i.If (bt.Index 1) (i.Drop ∷ (num 6 ∷ [])) (i.Drop ∷ (num 7 ∷ [])) ∷ [])))) 8 ≡ Linked ∷ (Trapped ∷ [])
unfolding wrapped
the_other_arm_takes_another_type = simp (i.outs-If, i.outs-I64Const, i.outs-I32Const) refl

-- An i32 enters the first arm, which goes on.
an_arm_of_its_type : f_gives (gives (num 5 ∷ (num 1 ∷ (i.If (bt.Index 1) (i.Drop ∷ (num 6 ∷ [])) (i.Drop ∷ (num 7 ∷ [])) ∷ [])))) 10 ≡ returns (Number 6 ∷ [])
unfolding wrapped
an_arm_of_its_type = simp (i.outs-If, i.outs-I32Const, i.outs-Drop) refl

-- An i64 enters an if that takes an i32 and has no second arm.
no_second_arm_takes_another_type : f_gives (gives (i.I64Const (pos 5) ∷ (num 0 ∷ (i.If (bt.Index 1) (i.Drop ∷ (num 6 ∷ [])) [] ∷ [])))) 8 ≡ Linked ∷ (Trapped ∷ [])
unfolding wrapped
no_second_arm_takes_another_type = simp (i.outs-If, i.outs-I64Const, i.outs-I32Const) refl

-- The parameter of a block is missing.
a_block_without_its_value : f_gives (gives (i.Block (bt.Index 1) (num 6 ∷ []) ∷ [])) 6 ≡ Linked ∷ (Trapped ∷ [])
unfolding wrapped
a_block_without_its_value = simp (i.outs-Block) refl

-- An i64 below an i32 enters a block that takes an i32 below an i64.
a_block_takes_two_types_in_another_order : f_gives (record (gives (i.I64Const (pos 5) ∷ (num 9 ∷ (i.Block (bt.Index 1) (i.Return ∷ []) ∷ [])))) { types = to_i32 ∷ (record { params = i32 ∷ (i64 ∷ []); results = i32 ∷ [] } ∷ []) }) 8 ≡ Linked ∷ (Trapped ∷ [])
unfolding wrapped
a_block_takes_two_types_in_another_order = simp (i.outs-Block, i.outs-I64Const, i.outs-I32Const) refl

-- A branch to a loop takes a value of another type than the loop does.
a_branch_to_a_loop_counts_its_values : f_gives (gives (num 5 ∷ (i.Loop (bt.Index 1) (i.Drop ∷ (i.I64Const (pos 7) ∷ (i.Br 0 ∷ []))) ∷ []))) 8 ≡ Linked ∷ []
unfolding wrapped
a_branch_to_a_loop_counts_its_values = simp (i.outs-Loop, i.outs-I64Const, i.outs-I32Const, i.outs-Drop, i.outs-Br) refl

-- The step in which the loop begins again with this value traps.
a_loop_begins_again_with_another_type : f_gives (gives (num 5 ∷ (i.Loop (bt.Index 1) (i.Drop ∷ (i.I64Const (pos 7) ∷ (i.Br 0 ∷ []))) ∷ []))) 9 ≡ Linked ∷ (Trapped ∷ [])
unfolding wrapped
a_loop_begins_again_with_another_type = simp (i.outs-Loop, i.outs-I64Const, i.outs-I32Const, i.outs-Drop, i.outs-Br) refl

-- The condition of an if is an i64.
a_condition_of_another_type : f_gives (gives (i.I64Const (pos 1) ∷ (i.If (bt.Value valt.I32) (num 6 ∷ []) (num 7 ∷ []) ∷ []))) 7 ≡ Linked ∷ (Trapped ∷ [])
unfolding wrapped
a_condition_of_another_type = simp (i.outs-If, i.outs-I64Const) refl

-- ---- values of another type elsewhere ----

-- An i32 local is set to an i64.
a_local_is_set_to_another_type : f_gives (record empty { funcs = code' 0 (i.I64Const (pos 5) ∷ (i.LocalSet 0 ∷ (num 1 ∷ []))) ∷ [] }) 25 ≡ Linked ∷ (Trapped ∷ [])
unfolding out-Instr denote.Hole.Carrier.out wrapped un_from un_to un_value bin_from bin_to bin_value load_to load_width loaded store_from stored
a_local_is_set_to_another_type = refl

-- An i32 local is set to an i64 that stays on the stack.
a_local_is_left_with_another_type : f_gives (record empty { funcs = code' 0 (i.I64Const (pos 5) ∷ (i.LocalTee 0 ∷ (i.Drop ∷ (num 1 ∷ [])))) ∷ [] }) 25 ≡ Linked ∷ (Trapped ∷ [])
unfolding out-Instr denote.Hole.Carrier.out wrapped un_from un_to un_value bin_from bin_to bin_value load_to load_width loaded store_from stored
a_local_is_left_with_another_type = refl

-- A mutable i32 global is set to an i64.
a_global_is_set_to_another_type : f_gives (forty (i.I64Const (pos 5) ∷ (i.GlobalSet 0 ∷ (num 1 ∷ [])))) 25 ≡ Linked ∷ (Trapped ∷ [])
unfolding out-Instr denote.Hole.Carrier.out wrapped un_from un_to un_value bin_from bin_to bin_value load_to load_width loaded store_from stored
a_global_is_set_to_another_type = refl

-- An entry of a table of functions is set to an extern reference.
a_table_is_set_to_another_type : f_gives (three (gives (num 0 ∷ (i.RefNull reft.Extern ∷ (i.TableSet 0 ∷ (num 1 ∷ [])))))) 25 ≡ Linked ∷ (Trapped ∷ [])
unfolding out-Instr denote.Hole.Carrier.out wrapped un_from un_to un_value bin_from bin_to bin_value load_to load_width loaded store_from stored
a_table_is_set_to_another_type = refl

-- A table of functions is filled with an extern reference.
a_table_is_filled_with_another_type : f_gives (three (gives (num 0 ∷ (i.RefNull reft.Extern ∷ (num 1 ∷ (i.TableFill 0 ∷ (num 1 ∷ []))))))) 25 ≡ Linked ∷ (Trapped ∷ [])
unfolding out-Instr denote.Hole.Carrier.out wrapped un_from un_to un_value bin_from bin_to bin_value load_to load_width loaded store_from stored
a_table_is_filled_with_another_type = refl

-- A table of functions is to grow by an extern reference: the embedder is not asked.
a_table_grows_by_another_type : f_gives (three (gives (i.RefNull reft.Extern ∷ (num 1 ∷ (i.TableGrow 0 ∷ []))))) 25 ≡ Linked ∷ (Trapped ∷ [])
unfolding out-Instr denote.Hole.Carrier.out wrapped un_from un_to un_value bin_from bin_to bin_value load_to load_width loaded store_from stored
a_table_grows_by_another_type = refl

-- An i64 is stored as an i32.
a_store_of_another_type : f_gives (page (gives (num 0 ∷ (i.I64Const (pos 5) ∷ (i.Store store.I32Store (by 0) ∷ (num 1 ∷ [])))))) 25 ≡ Linked ∷ (Trapped ∷ [])
unfolding out-Instr denote.Hole.Carrier.out wrapped un_from un_to un_value bin_from bin_to bin_value load_to load_width loaded store_from stored
a_store_of_another_type = refl

-- An i64 is used as an address.
an_address_of_another_type : f_gives (page (gives (i.I64Const (pos 0) ∷ (i.Load load.I32Load (by 0) ∷ [])))) 25 ≡ Linked ∷ (Trapped ∷ [])
unfolding out-Instr denote.Hole.Carrier.out wrapped un_from un_to un_value bin_from bin_to bin_value load_to load_width loaded store_from stored
an_address_of_another_type = refl

-- An i64 is passed through a table to a function that takes an i32, and would drop it.
an_indirect_argument_of_another_type : f_gives (three (record empty { funcs = code 0 (i.I64Const (pos 5) ∷ (num 0 ∷ (i.CallIndirect 1 0 ∷ []))) ∷ (code 1 (num 6 ∷ []) ∷ []); elems = record { mode = from_slot 0; ty = reft.Func; items = const.Func 1 ∷ [] } ∷ [] })) 25 ≡ Linked ∷ (Trapped ∷ [])
unfolding out-Instr denote.Hole.Carrier.out wrapped un_from un_to un_value bin_from bin_to bin_value load_to load_width loaded store_from stored
an_indirect_argument_of_another_type = refl

-- An i64 is passed to a function that takes an i32, called by its index.
an_unused_argument_of_another_type : f_gives (record empty { funcs = code 0 (i.I64Const (pos 5) ∷ (i.Call 1 ∷ [])) ∷ (code 1 (num 6 ∷ []) ∷ []) }) 25 ≡ Linked ∷ (Trapped ∷ [])
unfolding out-Instr denote.Hole.Carrier.out wrapped un_from un_to un_value bin_from bin_to bin_value load_to load_width loaded store_from stored
an_unused_argument_of_another_type = refl

-- A function that gives an i32 returns an i64.
return_gives_another_type : f_gives (gives (i.I64Const (pos 5) ∷ (i.Return ∷ []))) 25 ≡ Linked ∷ (Trapped ∷ [])
unfolding out-Instr denote.Hole.Carrier.out wrapped un_from un_to un_value bin_from bin_to bin_value load_to load_width loaded store_from stored
return_gives_another_type = refl

-- A function that gives an i32 branches to its end with an i64.
a_branch_gives_another_type : f_gives (gives (i.I64Const (pos 5) ∷ (i.Br 0 ∷ []))) 25 ≡ Linked ∷ (Trapped ∷ [])
unfolding out-Instr denote.Hole.Carrier.out wrapped un_from un_to un_value bin_from bin_to bin_value load_to load_width loaded store_from stored
a_branch_gives_another_type = refl

-- A function that gives an i32 gives an i64 to its caller, which would drop it.
a_called_function_gives_another_type : f_gives (record empty { funcs = code 0 (i.Call 1 ∷ (i.Drop ∷ (num 6 ∷ []))) ∷ (code 0 (i.I64Const (pos 5) ∷ []) ∷ []) }) 25 ≡ Linked ∷ (Trapped ∷ [])
unfolding out-Instr denote.Hole.Carrier.out wrapped un_from un_to un_value bin_from bin_to bin_value load_to load_width loaded store_from stored
a_called_function_gives_another_type = refl

-- A select chooses between an i32 and an i64.
a_select_between_two_types : f_gives (gives (num 1 ∷ (i.I64Const (pos 5) ∷ (num 1 ∷ (i.Select ∷ []))))) 25 ≡ Linked ∷ (Trapped ∷ [])
unfolding out-Instr denote.Hole.Carrier.out wrapped un_from un_to un_value bin_from bin_to bin_value load_to load_width loaded store_from stored
a_select_between_two_types = refl

-- A select that names no type chooses between references.
a_select_of_references : f_gives (gives (i.RefNull reft.Func ∷ (i.RefNull reft.Func ∷ (num 1 ∷ (i.Select ∷ (i.Drop ∷ (num 6 ∷ []))))))) 25 ≡ Linked ∷ (Trapped ∷ [])
unfolding out-Instr denote.Hole.Carrier.out wrapped un_from un_to un_value bin_from bin_to bin_value load_to load_width loaded store_from stored
a_select_of_references = refl
