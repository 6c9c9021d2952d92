-- More small runs, computed: branches with a condition, segments and copies at their bounds, loads
-- and stores of each width, numbers of 64 bits, and references.
use Rattle.base_lists.proofs.Common.{◌≡◌, refl, ℕ, List, [], ◌∷◌, Some, None, true, pos, negsuc}
use Rattle.wasm_tree_spec.specs.Prelude.{Tables, Memories, RefType, ValType, FuncType, MemArg, Instr, LoadOp, ElemMode, DataMode, Module}
use Rattle.wasm_num.specs.declared.BinOp.TheVariants as bin
use Rattle.wasm_num.specs.declared.UnOp.TheVariants as un
use Rattle.wasm_tree.specs.declared.types.RefType.TheVariants as reft
use Rattle.wasm_tree.specs.declared.types.ValType.TheVariants as valt
use Rattle.wasm_tree.specs.declared.types.BlockType.TheVariants as bt
use Rattle.wasm_tree.specs.declared.instr.Instr.{out-Instr}
use Rattle.wasm_tree.specs.declared.instr.Instr.TheVariants as i
use Rattle.wasm_tree.specs.declared.instr.LoadOp.TheVariants as load
use Rattle.wasm_tree.specs.declared.instr.StoreOp.TheVariants as store
use Rattle.wasm_tree.specs.declared.module.ImportDesc.TheVariants as im
use Rattle.wasm_tree.specs.declared.module.ConstExpr.TheVariants as const
use Rattle.wasm_tree.specs.declared.module.ElemMode.TheVariants as elem
use Rattle.wasm_tree.specs.declared.module.DataMode.TheVariants as data'
use Rattle.wasm_num.specs.Operations.{wrapped, un_from, un_to, un_value, bin_from, bin_to, bin_value}
use Rattle.wasm_meaning.specs.Access.{load_to, load_width, loaded, store_from, stored}
use Rattle.wasm_meaning.specs.Prelude.{Environment, Number, Null, ExternNumber, World, Linked, LinkFault, InstanceTrapped, Returned, Trapped, Asked, GrowAsked, Got, Call, Answer, Grant, Deny, Get, Named, events}
use Rattle.wasm_meaning.proofs.SmallRuns.{f, g, a, b, e, m, i32, nothing, to_nothing, empty, code, code', num, gives, page, three, alone, plain, returns, f_gives}

-- ---- modules ----

abbrev pub i64 : ValType
i64 = valt.I64

-- The immediate of a load or store with this offset and no alignment.
abbrev pub by : ℕ → MemArg
by offset = record { align = 0; offset = offset; memory = 0 }

-- A module whose one function has this type.
abbrev pub typed : FuncType → List Instr → Module
typed t body = record empty { types = t ∷ []; funcs = code 0 body ∷ [] }

abbrev pub gives_i64 : List Instr → Module
gives_i64 body = typed (record { params = []; results = i64 ∷ [] }) body

-- A module with a memory that begins with the bytes 128, 129, .. 135.
abbrev pub eight : Module → Module
eight x = record (page x) { datas = record { mode = data'.Active 0 (const.I32 (pos 0)); bytes = 128 ∷ (129 ∷ (130 ∷ (131 ∷ (132 ∷ (133 ∷ (134 ∷ (135 ∷ []))))))) } ∷ [] }

abbrev pub loads : LoadOp → ℕ → List Instr
loads op place = num place ∷ (i.Load op (by 0) ∷ [])

-- A module with a memory, and a segment of the bytes 5, 6 and 7.
abbrev pub bytes_in : DataMode → List Instr → Module
bytes_in mode body = record (page (gives body)) { datas = record { mode = mode; bytes = 5 ∷ (6 ∷ (7 ∷ [])) } ∷ [] }

-- The mode of a segment that is written at the start of memory 0.
abbrev pub at_first : DataMode
at_first = data'.Active 0 (const.I32 (pos 0))

-- A module with a table of three entries, functions 1 and 2, which add 1 and 2, and a segment of
-- both.
abbrev pub funcs_in : ElemMode → List Instr → Module
funcs_in mode body = three (record empty {
  funcs = code 0 body ∷ (code 1 (i.LocalGet 0 ∷ (num 1 ∷ (i.Bin bin.I32Add ∷ []))) ∷ (code 1 (i.LocalGet 0 ∷ (num 2 ∷ (i.Bin bin.I32Add ∷ []))) ∷ []));
  elems = record { mode = mode; ty = reft.Func; items = const.Func 1 ∷ (const.Func 2 ∷ []) } ∷ [];
})

-- The mode of a segment that is written into table 0 from this entry on.
abbrev pub from_slot : ℕ → ElemMode
from_slot n = elem.Active 0 (const.I32 (pos n))

-- A module with a mutable global that is 40 at first.
abbrev pub forty : List Instr → Module
forty body = record (gives body) { globals = record { ty = record { ty = i32; mutable = true }; init = const.I32 (pos 40) } ∷ [] }

-- A module whose start calls the function g of e with a number.
abbrev pub starting : ℕ → Module
starting n = record {
  types = nothing ∷ (to_nothing ∷ []);
  imports = record { «module» = e; field = g; desc = im.Func 1 } ∷ [];
  funcs = code 0 (num n ∷ (i.Call 0 ∷ [])) ∷ [];
  tables = [];
  mems = [];
  globals = [];
  exports = [];
  start = Some 1;
  elems = [];
  datas = [];
}

abbrev pub two_starts : World
two_starts = record { parts = record { name = Some a; «module» = starting 1 } ∷ (record { name = Some b; «module» = starting 2 } ∷ []); view = [] }

abbrev pub hearing : Environment
hearing = record { pair = (e, g); funcs = to_nothing ∷ []; table = None; memory = None; global = None } ∷ []

-- ---- runs ----

-- Control instructions.

a_branch_if_is_taken : f_gives (gives (i.Block (bt.Value valt.I32) (num 5 ∷ (num 1 ∷ (i.BrIf 0 ∷ (i.Drop ∷ (num 6 ∷ []))))) ∷ [])) 8 ≡ returns (Number 5 ∷ [])
unfolding wrapped
a_branch_if_is_taken = simp (i.outs-Block, i.outs-I32Const, i.outs-BrIf) refl

a_branch_if_is_not_taken : f_gives (gives (num 5 ∷ (num 0 ∷ (i.BrIf 0 ∷ (i.Drop ∷ (num 6 ∷ [])))))) 25 ≡ returns (Number 6 ∷ [])
unfolding out-Instr denote.Hole.Carrier.out wrapped un_from un_to un_value bin_from bin_to bin_value load_to load_width loaded store_from stored
a_branch_if_is_not_taken = refl

a_branch_if_ends_the_function : f_gives (gives (num 5 ∷ (num 1 ∷ (i.BrIf 0 ∷ (i.Drop ∷ (num 6 ∷ [])))))) 25 ≡ returns (Number 5 ∷ [])
unfolding out-Instr denote.Hole.Carrier.out wrapped un_from un_to un_value bin_from bin_to bin_value load_to load_width loaded store_from stored
a_branch_if_ends_the_function = refl

a_table_of_branches_at_its_first : f_gives (gives (i.Block bt.Empty (i.Block bt.Empty (num 0 ∷ (i.BrTable (0 ∷ (1 ∷ [])) 1 ∷ [])) ∷ (num 5 ∷ (i.Return ∷ []))) ∷ (num 6 ∷ []))) 9 ≡ returns (Number 5 ∷ [])
unfolding wrapped
a_table_of_branches_at_its_first = simp (i.outs-Block, i.outs-I32Const, i.outs-BrTable, i.outs-Return) refl

a_table_of_branches_at_its_last : f_gives (gives (i.Block bt.Empty (i.Block bt.Empty (num 1 ∷ (i.BrTable (0 ∷ (1 ∷ [])) 0 ∷ [])) ∷ (num 5 ∷ (i.Return ∷ []))) ∷ (num 6 ∷ []))) 9 ≡ returns (Number 6 ∷ [])
unfolding wrapped
a_table_of_branches_at_its_last = simp (i.outs-Block, i.outs-I32Const, i.outs-BrTable) refl

a_table_of_branches_past_its_last : f_gives (gives (i.Block bt.Empty (i.Block bt.Empty (num 2 ∷ (i.BrTable (1 ∷ (1 ∷ [])) 0 ∷ [])) ∷ (num 5 ∷ (i.Return ∷ []))) ∷ (num 6 ∷ []))) 9 ≡ returns (Number 5 ∷ [])
unfolding wrapped
a_table_of_branches_past_its_last = simp (i.outs-Block, i.outs-I32Const, i.outs-BrTable, i.outs-Return) refl

a_table_of_branches_far_past_its_last : f_gives (gives (i.Block bt.Empty (i.Block bt.Empty (i.I32Const (negsuc 0) ∷ (i.BrTable (0 ∷ (0 ∷ [])) 1 ∷ [])) ∷ (num 5 ∷ (i.Return ∷ []))) ∷ (num 6 ∷ []))) 9 ≡ returns (Number 6 ∷ [])
unfolding wrapped
a_table_of_branches_far_past_its_last = simp (i.outs-Block, i.outs-I32Const, i.outs-BrTable) refl

a_branch_ends_the_function : f_gives (gives (num 5 ∷ (i.Br 0 ∷ (i.Unreachable ∷ [])))) 25 ≡ returns (Number 5 ∷ [])
unfolding out-Instr denote.Hole.Carrier.out wrapped un_from un_to un_value bin_from bin_to bin_value load_to load_width loaded store_from stored
a_branch_ends_the_function = refl

a_branch_drops_what_lies_below : f_gives (gives (i.Block (bt.Value valt.I32) (num 4 ∷ (num 5 ∷ (i.Br 0 ∷ []))) ∷ [])) 9 ≡ returns (Number 5 ∷ [])
unfolding wrapped
a_branch_drops_what_lies_below = simp (i.outs-Block, i.outs-I32Const, i.outs-Br) refl

a_block_takes_a_value : f_gives (gives (num 5 ∷ (i.Block (bt.Index 1) (num 1 ∷ (i.Bin bin.I32Add ∷ [])) ∷ []))) 10 ≡ returns (Number 6 ∷ [])
unfolding wrapped bin_from bin_to bin_value
a_block_takes_a_value = simp (i.outs-Block, i.outs-I32Const, i.outs-Bin) refl

a_loop_takes_its_value_again : f_gives (gives (num 5 ∷ (i.Loop (bt.Index 1) (i.Br 0 ∷ []) ∷ []))) 8 ≡ Linked ∷ []
unfolding wrapped
a_loop_takes_its_value_again = simp (i.outs-Loop, i.outs-I32Const, i.outs-Br) refl

return_leaves_two_blocks : f_gives (gives (i.Block bt.Empty (i.Block bt.Empty (num 5 ∷ (i.Return ∷ [])) ∷ []) ∷ (num 6 ∷ []))) 9 ≡ returns (Number 5 ∷ [])
unfolding wrapped
return_leaves_two_blocks = simp (i.outs-Block, i.outs-I32Const, i.outs-Return) refl

operands_come_in_order : events (plain (typed (record { params = i32 ∷ (i32 ∷ []); results = i32 ∷ [] }) (i.LocalGet 0 ∷ (i.LocalGet 1 ∷ (i.Bin bin.I32Sub ∷ []))))) [] (Call f (Number 7 ∷ (Number 2 ∷ [])) ∷ []) 25 ≡ returns (Number 5 ∷ [])
unfolding out-Instr denote.Hole.Carrier.out wrapped un_from un_to un_value bin_from bin_to bin_value load_to load_width loaded store_from stored
operands_come_in_order = refl

two_results_come_in_order : f_gives (typed (record { params = []; results = i32 ∷ (i64 ∷ []) }) (num 7 ∷ (i.I64Const (pos 8) ∷ []))) 25 ≡ returns (Number 7 ∷ (Number 8 ∷ []))
unfolding out-Instr denote.Hole.Carrier.out wrapped un_from un_to un_value bin_from bin_to bin_value load_to load_width loaded store_from stored
two_results_come_in_order = refl

select_of_numbers_by_type : f_gives (gives (num 1 ∷ (num 2 ∷ (num 0 ∷ (i.SelectTyped (valt.I32 ∷ []) ∷ []))))) 25 ≡ returns (Number 2 ∷ [])
unfolding out-Instr denote.Hole.Carrier.out wrapped un_from un_to un_value bin_from bin_to bin_value load_to load_width loaded store_from stored
select_of_numbers_by_type = refl

select_of_references_by_type : f_gives (gives (i.RefFunc 0 ∷ (i.RefNull reft.Func ∷ (num 1 ∷ (i.SelectTyped (valt.Ref reft.Func ∷ []) ∷ (i.RefIsNull ∷ [])))))) 25 ≡ returns (Number 0 ∷ [])
unfolding out-Instr denote.Hole.Carrier.out wrapped un_from un_to un_value bin_from bin_to bin_value load_to load_width loaded store_from stored
select_of_references_by_type = refl

select_of_i64 : f_gives (gives_i64 (i.I64Const (pos 1) ∷ (i.I64Const (pos 2) ∷ (num 1 ∷ (i.Select ∷ []))))) 25 ≡ returns (Number 1 ∷ [])
unfolding out-Instr denote.Hole.Carrier.out wrapped un_from un_to un_value bin_from bin_to bin_value load_to load_width loaded store_from stored
select_of_i64 = refl

local_set : f_gives (record empty { funcs = code' 0 (num 4 ∷ (i.LocalSet 0 ∷ (i.LocalGet 0 ∷ []))) ∷ [] }) 25 ≡ returns (Number 4 ∷ [])
unfolding out-Instr denote.Hole.Carrier.out wrapped un_from un_to un_value bin_from bin_to bin_value load_to load_width loaded store_from stored
local_set = refl

local_tee_leaves_its_value : f_gives (record empty { funcs = code' 0 (num 4 ∷ (i.LocalTee 0 ∷ [])) ∷ [] }) 25 ≡ returns (Number 4 ∷ [])
unfolding out-Instr denote.Hole.Carrier.out wrapped un_from un_to un_value bin_from bin_to bin_value load_to load_width loaded store_from stored
local_tee_leaves_its_value = refl

global_get : f_gives (forty (i.GlobalGet 0 ∷ [])) 25 ≡ returns (Number 40 ∷ [])
unfolding out-Instr denote.Hole.Carrier.out wrapped un_from un_to un_value bin_from bin_to bin_value load_to load_width loaded store_from stored
global_get = refl

global_set : f_gives (forty (num 7 ∷ (i.GlobalSet 0 ∷ (i.GlobalGet 0 ∷ [])))) 25 ≡ returns (Number 7 ∷ [])
unfolding out-Instr denote.Hole.Carrier.out wrapped un_from un_to un_value bin_from bin_to bin_value load_to load_width loaded store_from stored
global_set = refl

a_global_stays_set : events (plain (forty (i.GlobalGet 0 ∷ (num 1 ∷ (i.Bin bin.I32Add ∷ (i.GlobalSet 0 ∷ (i.GlobalGet 0 ∷ []))))))) [] (Call f [] ∷ (Call f [] ∷ [])) 25 ≡ Linked ∷ (Returned (Number 41 ∷ []) ∷ (Returned (Number 42 ∷ []) ∷ []))
unfolding out-Instr denote.Hole.Carrier.out wrapped un_from un_to un_value bin_from bin_to bin_value load_to load_width loaded store_from stored
a_global_stays_set = refl

a_trap_leaves_what_was_written : events (alone (page (gives (num 0 ∷ (num 9 ∷ (i.Store store.I32Store8 (by 0) ∷ (i.Unreachable ∷ []))))))) [] (Call f [] ∷ (Get (Named m) 0 ∷ [])) 25 ≡ Linked ∷ (Trapped ∷ (Got (Number 9) ∷ []))
unfolding out-Instr denote.Hole.Carrier.out wrapped un_from un_to un_value bin_from bin_to bin_value load_to load_width loaded store_from stored
a_trap_leaves_what_was_written = refl

a_trap_ends_all_frames : events (plain (record empty { funcs = code 0 (i.Call 1 ∷ []) ∷ (code 0 (i.Unreachable ∷ []) ∷ []) })) [] (Call f [] ∷ (Call f [] ∷ [])) 25 ≡ Linked ∷ (Trapped ∷ (Trapped ∷ []))
unfolding out-Instr denote.Hole.Carrier.out wrapped un_from un_to un_value bin_from bin_to bin_value load_to load_width loaded store_from stored
a_trap_ends_all_frames = refl

-- References.

an_extern_null : f_gives (typed (record { params = []; results = valt.Ref reft.Extern ∷ [] }) (i.RefNull reft.Extern ∷ [])) 25 ≡ returns (Null ∷ [])
unfolding out-Instr denote.Hole.Carrier.out wrapped un_from un_to un_value bin_from bin_to bin_value load_to load_width loaded store_from stored
an_extern_null = refl

an_extern_comes_back : events (plain (typed (record { params = valt.Ref reft.Extern ∷ []; results = valt.Ref reft.Extern ∷ [] }) (i.LocalGet 0 ∷ []))) [] (Call f (ExternNumber 7 ∷ []) ∷ []) 25 ≡ returns (ExternNumber 7 ∷ [])
unfolding out-Instr denote.Hole.Carrier.out wrapped un_from un_to un_value bin_from bin_to bin_value load_to load_width loaded store_from stored
an_extern_comes_back = refl

an_extern_is_not_null : events (plain (typed (record { params = valt.Ref reft.Extern ∷ []; results = i32 ∷ [] }) (i.LocalGet 0 ∷ (i.RefIsNull ∷ [])))) [] (Call f (ExternNumber 7 ∷ []) ∷ []) 25 ≡ returns (Number 0 ∷ [])
unfolding out-Instr denote.Hole.Carrier.out wrapped un_from un_to un_value bin_from bin_to bin_value load_to load_width loaded store_from stored
an_extern_is_not_null = refl

-- Numbers of 64 bits.

an_i64_constant : f_gives (gives_i64 (i.I64Const (negsuc 0) ∷ [])) 25 ≡ returns (Number 18446744073709551615 ∷ [])
unfolding out-Instr denote.Hole.Carrier.out wrapped un_from un_to un_value bin_from bin_to bin_value load_to load_width loaded store_from stored
an_i64_constant = refl

an_i64_sum_wraps : f_gives (gives_i64 (i.I64Const (negsuc 0) ∷ (i.I64Const (pos 6) ∷ (i.Bin bin.I64Add ∷ [])))) 25 ≡ returns (Number 5 ∷ [])
unfolding out-Instr denote.Hole.Carrier.out wrapped un_from un_to un_value bin_from bin_to bin_value load_to load_width loaded store_from stored
an_i64_sum_wraps = refl

an_i64_without_its_upper_half : f_gives (gives (i.I64Const (pos 4294967301) ∷ (i.Un un.I32WrapI64 ∷ []))) 25 ≡ returns (Number 5 ∷ [])
unfolding out-Instr denote.Hole.Carrier.out wrapped un_from un_to un_value bin_from bin_to bin_value load_to load_width loaded store_from stored
an_i64_without_its_upper_half = refl

an_i32_extended_without_sign : f_gives (gives_i64 (i.I32Const (negsuc 0) ∷ (i.Un un.I64ExtendI32U ∷ []))) 25 ≡ returns (Number 4294967295 ∷ [])
unfolding out-Instr denote.Hole.Carrier.out wrapped un_from un_to un_value bin_from bin_to bin_value load_to load_width loaded store_from stored
an_i32_extended_without_sign = refl

an_i32_extended_with_sign : f_gives (gives_i64 (i.I32Const (negsuc 0) ∷ (i.Un un.I64ExtendI32S ∷ []))) 25 ≡ returns (Number 18446744073709551615 ∷ [])
unfolding out-Instr denote.Hole.Carrier.out wrapped un_from un_to un_value bin_from bin_to bin_value load_to load_width loaded store_from stored
an_i32_extended_with_sign = refl

an_i64_less_with_sign : f_gives (gives (i.I64Const (negsuc 0) ∷ (i.I64Const (pos 1) ∷ (i.Bin bin.I64LtS ∷ [])))) 25 ≡ returns (Number 1 ∷ [])
unfolding out-Instr denote.Hole.Carrier.out wrapped un_from un_to un_value bin_from bin_to bin_value load_to load_width loaded store_from stored
an_i64_less_with_sign = refl

an_i64_less_without_sign : f_gives (gives (i.I64Const (negsuc 0) ∷ (i.I64Const (pos 1) ∷ (i.Bin bin.I64LtU ∷ [])))) 25 ≡ returns (Number 0 ∷ [])
unfolding out-Instr denote.Hole.Carrier.out wrapped un_from un_to un_value bin_from bin_to bin_value load_to load_width loaded store_from stored
an_i64_less_without_sign = refl

an_i64_test : f_gives (gives (i.I64Const (pos 4294967296) ∷ (i.Un un.I64Eqz ∷ []))) 25 ≡ returns (Number 0 ∷ [])
unfolding out-Instr denote.Hole.Carrier.out wrapped un_from un_to un_value bin_from bin_to bin_value load_to load_width loaded store_from stored
an_i64_test = refl

an_i64_quotient_that_is_too_great_traps : f_gives (gives_i64 (i.I64Const (negsuc 9223372036854775807) ∷ (i.I64Const (negsuc 0) ∷ (i.Bin bin.I64DivS ∷ [])))) 25 ≡ Linked ∷ (Trapped ∷ [])
unfolding out-Instr denote.Hole.Carrier.out wrapped un_from un_to un_value bin_from bin_to bin_value load_to load_width loaded store_from stored
an_i64_quotient_that_is_too_great_traps = refl

-- Loads.

load_a_byte_without_sign : f_gives (eight (gives (loads load.I32Load8U 0))) 25 ≡ returns (Number 128 ∷ [])
unfolding out-Instr denote.Hole.Carrier.out wrapped un_from un_to un_value bin_from bin_to bin_value load_to load_width loaded store_from stored
load_a_byte_without_sign = refl

load_two_bytes_without_sign : f_gives (eight (gives (loads load.I32Load16U 0))) 25 ≡ returns (Number 33152 ∷ [])
unfolding out-Instr denote.Hole.Carrier.out wrapped un_from un_to un_value bin_from bin_to bin_value load_to load_width loaded store_from stored
load_two_bytes_without_sign = refl

load_two_bytes_with_sign : f_gives (eight (gives (loads load.I32Load16S 0))) 25 ≡ returns (Number 4294934912 ∷ [])
unfolding out-Instr denote.Hole.Carrier.out wrapped un_from un_to un_value bin_from bin_to bin_value load_to load_width loaded store_from stored
load_two_bytes_with_sign = refl

load_four_bytes : f_gives (eight (gives (loads load.I32Load 0))) 25 ≡ returns (Number 2206368128 ∷ [])
unfolding out-Instr denote.Hole.Carrier.out wrapped un_from un_to un_value bin_from bin_to bin_value load_to load_width loaded store_from stored
load_four_bytes = refl

load_a_byte_with_sign_to_i64 : f_gives (eight (gives_i64 (loads load.I64Load8S 0))) 25 ≡ returns (Number 18446744073709551488 ∷ [])
unfolding out-Instr denote.Hole.Carrier.out wrapped un_from un_to un_value bin_from bin_to bin_value load_to load_width loaded store_from stored
load_a_byte_with_sign_to_i64 = refl

load_a_byte_without_sign_to_i64 : f_gives (eight (gives_i64 (loads load.I64Load8U 0))) 25 ≡ returns (Number 128 ∷ [])
unfolding out-Instr denote.Hole.Carrier.out wrapped un_from un_to un_value bin_from bin_to bin_value load_to load_width loaded store_from stored
load_a_byte_without_sign_to_i64 = refl

load_two_bytes_with_sign_to_i64 : f_gives (eight (gives_i64 (loads load.I64Load16S 0))) 25 ≡ returns (Number 18446744073709519232 ∷ [])
unfolding out-Instr denote.Hole.Carrier.out wrapped un_from un_to un_value bin_from bin_to bin_value load_to load_width loaded store_from stored
load_two_bytes_with_sign_to_i64 = refl

load_two_bytes_without_sign_to_i64 : f_gives (eight (gives_i64 (loads load.I64Load16U 0))) 25 ≡ returns (Number 33152 ∷ [])
unfolding out-Instr denote.Hole.Carrier.out wrapped un_from un_to un_value bin_from bin_to bin_value load_to load_width loaded store_from stored
load_two_bytes_without_sign_to_i64 = refl

load_four_bytes_with_sign_to_i64 : f_gives (eight (gives_i64 (loads load.I64Load32S 0))) 25 ≡ returns (Number 18446744071620952448 ∷ [])
unfolding out-Instr denote.Hole.Carrier.out wrapped un_from un_to un_value bin_from bin_to bin_value load_to load_width loaded store_from stored
load_four_bytes_with_sign_to_i64 = refl

load_four_bytes_without_sign_to_i64 : f_gives (eight (gives_i64 (loads load.I64Load32U 0))) 25 ≡ returns (Number 2206368128 ∷ [])
unfolding out-Instr denote.Hole.Carrier.out wrapped un_from un_to un_value bin_from bin_to bin_value load_to load_width loaded store_from stored
load_four_bytes_without_sign_to_i64 = refl

load_eight_bytes : f_gives (eight (gives_i64 (loads load.I64Load 0))) 25 ≡ returns (Number 9765639646188044672 ∷ [])
unfolding out-Instr denote.Hole.Carrier.out wrapped un_from un_to un_value bin_from bin_to bin_value load_to load_width loaded store_from stored
load_eight_bytes = refl

load_eight_bytes_at_the_last_bound : f_gives (eight (gives_i64 (loads load.I64Load 65528))) 25 ≡ returns (Number 0 ∷ [])
unfolding out-Instr denote.Hole.Carrier.out wrapped un_from un_to un_value bin_from bin_to bin_value load_to load_width loaded store_from stored
load_eight_bytes_at_the_last_bound = refl

load_eight_bytes_past_the_bound_traps : f_gives (eight (gives_i64 (loads load.I64Load 65529))) 25 ≡ Linked ∷ (Trapped ∷ [])
unfolding out-Instr denote.Hole.Carrier.out wrapped un_from un_to un_value bin_from bin_to bin_value load_to load_width loaded store_from stored
load_eight_bytes_past_the_bound_traps = refl

load_two_bytes_at_the_last_bound : f_gives (eight (gives (loads load.I32Load16U 65534))) 25 ≡ returns (Number 0 ∷ [])
unfolding out-Instr denote.Hole.Carrier.out wrapped un_from un_to un_value bin_from bin_to bin_value load_to load_width loaded store_from stored
load_two_bytes_at_the_last_bound = refl

load_two_bytes_past_the_bound_traps : f_gives (eight (gives (loads load.I32Load16U 65535))) 25 ≡ Linked ∷ (Trapped ∷ [])
unfolding out-Instr denote.Hole.Carrier.out wrapped un_from un_to un_value bin_from bin_to bin_value load_to load_width loaded store_from stored
load_two_bytes_past_the_bound_traps = refl

load_a_byte_at_the_last_bound : f_gives (eight (gives (loads load.I32Load8U 65535))) 25 ≡ returns (Number 0 ∷ [])
unfolding out-Instr denote.Hole.Carrier.out wrapped un_from un_to un_value bin_from bin_to bin_value load_to load_width loaded store_from stored
load_a_byte_at_the_last_bound = refl

load_a_byte_past_the_bound_traps : f_gives (eight (gives (loads load.I32Load8U 65536))) 25 ≡ Linked ∷ (Trapped ∷ [])
unfolding out-Instr denote.Hole.Carrier.out wrapped un_from un_to un_value bin_from bin_to bin_value load_to load_width loaded store_from stored
load_a_byte_past_the_bound_traps = refl

a_load_adds_its_offset : f_gives (eight (gives (num 2 ∷ (i.Load load.I32Load8U (by 3) ∷ [])))) 25 ≡ returns (Number 133 ∷ [])
unfolding out-Instr denote.Hole.Carrier.out wrapped un_from un_to un_value bin_from bin_to bin_value load_to load_width loaded store_from stored
a_load_adds_its_offset = refl

a_load_adds_its_offset_to_the_last_bound : f_gives (eight (gives (num 65533 ∷ (i.Load load.I32Load16U (by 1) ∷ [])))) 25 ≡ returns (Number 0 ∷ [])
unfolding out-Instr denote.Hole.Carrier.out wrapped un_from un_to un_value bin_from bin_to bin_value load_to load_width loaded store_from stored
a_load_adds_its_offset_to_the_last_bound = refl

a_load_with_its_offset_past_the_bound_traps : f_gives (eight (gives (num 65533 ∷ (i.Load load.I32Load16U (by 2) ∷ [])))) 25 ≡ Linked ∷ (Trapped ∷ [])
unfolding out-Instr denote.Hole.Carrier.out wrapped un_from un_to un_value bin_from bin_to bin_value load_to load_width loaded store_from stored
a_load_with_its_offset_past_the_bound_traps = refl

-- Stores.

store_the_lowest_byte : f_gives (page (gives (num 0 ∷ (num 511 ∷ (i.Store store.I32Store8 (by 0) ∷ (num 0 ∷ (i.Load load.I32Load (by 0) ∷ []))))))) 25 ≡ returns (Number 255 ∷ [])
unfolding out-Instr denote.Hole.Carrier.out wrapped un_from un_to un_value bin_from bin_to bin_value load_to load_width loaded store_from stored
store_the_lowest_byte = refl

store_the_two_lowest_bytes : f_gives (page (gives (num 0 ∷ (num 74565 ∷ (i.Store store.I32Store16 (by 0) ∷ (num 0 ∷ (i.Load load.I32Load (by 0) ∷ []))))))) 25 ≡ returns (Number 9029 ∷ [])
unfolding out-Instr denote.Hole.Carrier.out wrapped un_from un_to un_value bin_from bin_to bin_value load_to load_width loaded store_from stored
store_the_two_lowest_bytes = refl

store_the_lowest_byte_of_an_i64 : f_gives (page (gives_i64 (num 0 ∷ (i.I64Const (negsuc 0) ∷ (i.Store store.I64Store8 (by 0) ∷ (num 0 ∷ (i.Load load.I64Load (by 0) ∷ []))))))) 25 ≡ returns (Number 255 ∷ [])
unfolding out-Instr denote.Hole.Carrier.out wrapped un_from un_to un_value bin_from bin_to bin_value load_to load_width loaded store_from stored
store_the_lowest_byte_of_an_i64 = refl

store_the_two_lowest_bytes_of_an_i64 : f_gives (page (gives_i64 (num 0 ∷ (i.I64Const (negsuc 0) ∷ (i.Store store.I64Store16 (by 0) ∷ (num 0 ∷ (i.Load load.I64Load (by 0) ∷ []))))))) 25 ≡ returns (Number 65535 ∷ [])
unfolding out-Instr denote.Hole.Carrier.out wrapped un_from un_to un_value bin_from bin_to bin_value load_to load_width loaded store_from stored
store_the_two_lowest_bytes_of_an_i64 = refl

store_the_four_lowest_bytes_of_an_i64 : f_gives (page (gives_i64 (num 0 ∷ (i.I64Const (pos 4886718345) ∷ (i.Store store.I64Store32 (by 0) ∷ (num 0 ∷ (i.Load load.I64Load (by 0) ∷ []))))))) 25 ≡ returns (Number 591751049 ∷ [])
unfolding out-Instr denote.Hole.Carrier.out wrapped un_from un_to un_value bin_from bin_to bin_value load_to load_width loaded store_from stored
store_the_four_lowest_bytes_of_an_i64 = refl

store_eight_bytes : f_gives (page (gives_i64 (num 0 ∷ (i.I64Const (pos 72623859790382856) ∷ (i.Store store.I64Store (by 0) ∷ (num 0 ∷ (i.Load load.I64Load (by 0) ∷ []))))))) 25 ≡ returns (Number 72623859790382856 ∷ [])
unfolding out-Instr denote.Hole.Carrier.out wrapped un_from un_to un_value bin_from bin_to bin_value load_to load_width loaded store_from stored
store_eight_bytes = refl

store_eight_bytes_at_the_last_bound : f_gives (page (gives_i64 (num 65528 ∷ (i.I64Const (pos 3) ∷ (i.Store store.I64Store (by 0) ∷ (num 65528 ∷ (i.Load load.I64Load (by 0) ∷ []))))))) 25 ≡ returns (Number 3 ∷ [])
unfolding out-Instr denote.Hole.Carrier.out wrapped un_from un_to un_value bin_from bin_to bin_value load_to load_width loaded store_from stored
store_eight_bytes_at_the_last_bound = refl

store_eight_bytes_past_the_bound_traps : f_gives (page (gives_i64 (num 65529 ∷ (i.I64Const (pos 3) ∷ (i.Store store.I64Store (by 0) ∷ (i.I64Const (pos 1) ∷ [])))))) 25 ≡ Linked ∷ (Trapped ∷ [])
unfolding out-Instr denote.Hole.Carrier.out wrapped un_from un_to un_value bin_from bin_to bin_value load_to load_width loaded store_from stored
store_eight_bytes_past_the_bound_traps = refl

store_a_byte_at_the_last_bound : f_gives (page (gives (num 65535 ∷ (num 3 ∷ (i.Store store.I32Store8 (by 0) ∷ (num 65535 ∷ (i.Load load.I32Load8U (by 0) ∷ []))))))) 25 ≡ returns (Number 3 ∷ [])
unfolding out-Instr denote.Hole.Carrier.out wrapped un_from un_to un_value bin_from bin_to bin_value load_to load_width loaded store_from stored
store_a_byte_at_the_last_bound = refl

store_a_byte_past_the_bound_traps : f_gives (page (gives (num 65536 ∷ (num 3 ∷ (i.Store store.I32Store8 (by 0) ∷ (num 1 ∷ [])))))) 25 ≡ Linked ∷ (Trapped ∷ [])
unfolding out-Instr denote.Hole.Carrier.out wrapped un_from un_to un_value bin_from bin_to bin_value load_to load_width loaded store_from stored
store_a_byte_past_the_bound_traps = refl

a_store_adds_its_offset : f_gives (page (gives (num 2 ∷ (num 9 ∷ (i.Store store.I32Store8 (by 3) ∷ (num 5 ∷ (i.Load load.I32Load8U (by 0) ∷ []))))))) 25 ≡ returns (Number 9 ∷ [])
unfolding out-Instr denote.Hole.Carrier.out wrapped un_from un_to un_value bin_from bin_to bin_value load_to load_width loaded store_from stored
a_store_adds_its_offset = refl

the_offset_of_a_store_does_not_wrap : f_gives (page (gives (i.I32Const (negsuc 0) ∷ (num 9 ∷ (i.Store store.I32Store8 (by 1) ∷ (num 1 ∷ [])))))) 25 ≡ Linked ∷ (Trapped ∷ [])
unfolding out-Instr denote.Hole.Carrier.out wrapped un_from un_to un_value bin_from bin_to bin_value load_to load_width loaded store_from stored
the_offset_of_a_store_does_not_wrap = refl

-- Memories and data segments.

memory_init_at_the_last_bounds : f_gives (bytes_in data'.Passive (num 65533 ∷ (num 0 ∷ (num 3 ∷ (i.MemoryInit 0 0 ∷ (num 65535 ∷ (i.Load load.I32Load8U (by 0) ∷ []))))))) 25 ≡ returns (Number 7 ∷ [])
unfolding out-Instr denote.Hole.Carrier.out wrapped un_from un_to un_value bin_from bin_to bin_value load_to load_width loaded store_from stored
memory_init_at_the_last_bounds = refl

memory_init_past_the_memory_traps : f_gives (bytes_in data'.Passive (num 65534 ∷ (num 0 ∷ (num 3 ∷ (i.MemoryInit 0 0 ∷ (num 1 ∷ [])))))) 25 ≡ Linked ∷ (Trapped ∷ [])
unfolding out-Instr denote.Hole.Carrier.out wrapped un_from un_to un_value bin_from bin_to bin_value load_to load_width loaded store_from stored
memory_init_past_the_memory_traps = refl

memory_init_writes_nothing_where_it_traps : events (alone (bytes_in data'.Passive (num 65534 ∷ (num 0 ∷ (num 3 ∷ (i.MemoryInit 0 0 ∷ (num 1 ∷ []))))))) [] (Call f [] ∷ (Get (Named m) 65534 ∷ (Get (Named m) 65535 ∷ []))) 25 ≡ Linked ∷ (Trapped ∷ (Got (Number 0) ∷ (Got (Number 0) ∷ [])))
unfolding out-Instr denote.Hole.Carrier.out wrapped un_from un_to un_value bin_from bin_to bin_value load_to load_width loaded store_from stored
memory_init_writes_nothing_where_it_traps = refl

memory_init_of_nothing_at_the_last_bounds : f_gives (bytes_in data'.Passive (num 65536 ∷ (num 3 ∷ (num 0 ∷ (i.MemoryInit 0 0 ∷ (num 1 ∷ [])))))) 25 ≡ returns (Number 1 ∷ [])
unfolding out-Instr denote.Hole.Carrier.out wrapped un_from un_to un_value bin_from bin_to bin_value load_to load_width loaded store_from stored
memory_init_of_nothing_at_the_last_bounds = refl

memory_init_of_nothing_past_the_segment_traps : f_gives (bytes_in data'.Passive (num 0 ∷ (num 4 ∷ (num 0 ∷ (i.MemoryInit 0 0 ∷ (num 1 ∷ [])))))) 25 ≡ Linked ∷ (Trapped ∷ [])
unfolding out-Instr denote.Hole.Carrier.out wrapped un_from un_to un_value bin_from bin_to bin_value load_to load_width loaded store_from stored
memory_init_of_nothing_past_the_segment_traps = refl

memory_init_of_nothing_past_the_memory_traps : f_gives (bytes_in data'.Passive (num 65537 ∷ (num 0 ∷ (num 0 ∷ (i.MemoryInit 0 0 ∷ (num 1 ∷ [])))))) 25 ≡ Linked ∷ (Trapped ∷ [])
unfolding out-Instr denote.Hole.Carrier.out wrapped un_from un_to un_value bin_from bin_to bin_value load_to load_width loaded store_from stored
memory_init_of_nothing_past_the_memory_traps = refl

memory_init_of_an_active_segment_traps : f_gives (bytes_in at_first (num 0 ∷ (num 0 ∷ (num 1 ∷ (i.MemoryInit 0 0 ∷ (num 1 ∷ [])))))) 25 ≡ Linked ∷ (Trapped ∷ [])
unfolding out-Instr denote.Hole.Carrier.out wrapped un_from un_to un_value bin_from bin_to bin_value load_to load_width loaded store_from stored
memory_init_of_an_active_segment_traps = refl

memory_copy_to_the_last_bound : f_gives (bytes_in at_first (num 65533 ∷ (num 0 ∷ (num 3 ∷ (i.MemoryCopy 0 0 ∷ (num 65534 ∷ (i.Load load.I32Load8U (by 0) ∷ []))))))) 25 ≡ returns (Number 6 ∷ [])
unfolding out-Instr denote.Hole.Carrier.out wrapped un_from un_to un_value bin_from bin_to bin_value load_to load_width loaded store_from stored
memory_copy_to_the_last_bound = refl

memory_copy_from_the_last_bound : f_gives (bytes_in at_first (num 0 ∷ (num 65533 ∷ (num 3 ∷ (i.MemoryCopy 0 0 ∷ (num 2 ∷ (i.Load load.I32Load8U (by 0) ∷ []))))))) 25 ≡ returns (Number 0 ∷ [])
unfolding out-Instr denote.Hole.Carrier.out wrapped un_from un_to un_value bin_from bin_to bin_value load_to load_width loaded store_from stored
memory_copy_from_the_last_bound = refl

memory_copy_past_its_end_traps : f_gives (bytes_in at_first (num 65534 ∷ (num 0 ∷ (num 3 ∷ (i.MemoryCopy 0 0 ∷ (num 1 ∷ [])))))) 25 ≡ Linked ∷ (Trapped ∷ [])
unfolding out-Instr denote.Hole.Carrier.out wrapped un_from un_to un_value bin_from bin_to bin_value load_to load_width loaded store_from stored
memory_copy_past_its_end_traps = refl

memory_copy_from_past_its_end_traps : f_gives (bytes_in at_first (num 0 ∷ (num 65534 ∷ (num 3 ∷ (i.MemoryCopy 0 0 ∷ (num 1 ∷ [])))))) 25 ≡ Linked ∷ (Trapped ∷ [])
unfolding out-Instr denote.Hole.Carrier.out wrapped un_from un_to un_value bin_from bin_to bin_value load_to load_width loaded store_from stored
memory_copy_from_past_its_end_traps = refl

memory_copy_of_nothing_at_the_end : f_gives (bytes_in at_first (num 65536 ∷ (num 65536 ∷ (num 0 ∷ (i.MemoryCopy 0 0 ∷ (num 1 ∷ [])))))) 25 ≡ returns (Number 1 ∷ [])
unfolding out-Instr denote.Hole.Carrier.out wrapped un_from un_to un_value bin_from bin_to bin_value load_to load_width loaded store_from stored
memory_copy_of_nothing_at_the_end = refl

memory_copy_of_nothing_past_the_end_traps : f_gives (bytes_in at_first (num 65537 ∷ (num 0 ∷ (num 0 ∷ (i.MemoryCopy 0 0 ∷ (num 1 ∷ [])))))) 25 ≡ Linked ∷ (Trapped ∷ [])
unfolding out-Instr denote.Hole.Carrier.out wrapped un_from un_to un_value bin_from bin_to bin_value load_to load_width loaded store_from stored
memory_copy_of_nothing_past_the_end_traps = refl

memory_copy_of_nothing_from_past_the_end_traps : f_gives (bytes_in at_first (num 0 ∷ (num 65537 ∷ (num 0 ∷ (i.MemoryCopy 0 0 ∷ (num 1 ∷ [])))))) 25 ≡ Linked ∷ (Trapped ∷ [])
unfolding out-Instr denote.Hole.Carrier.out wrapped un_from un_to un_value bin_from bin_to bin_value load_to load_width loaded store_from stored
memory_copy_of_nothing_from_past_the_end_traps = refl

memory_copy_down_that_overlaps : f_gives (bytes_in at_first (num 0 ∷ (num 1 ∷ (num 2 ∷ (i.MemoryCopy 0 0 ∷ (num 1 ∷ (i.Load load.I32Load8U (by 0) ∷ []))))))) 25 ≡ returns (Number 7 ∷ [])
unfolding out-Instr denote.Hole.Carrier.out wrapped un_from un_to un_value bin_from bin_to bin_value load_to load_width loaded store_from stored
memory_copy_down_that_overlaps = refl

memory_fill_of_the_first_bytes : f_gives (bytes_in at_first (num 0 ∷ (num 263 ∷ (num 2 ∷ (i.MemoryFill 0 ∷ (num 0 ∷ (i.Load load.I32Load (by 0) ∷ []))))))) 25 ≡ returns (Number 460551 ∷ [])
unfolding out-Instr denote.Hole.Carrier.out wrapped un_from un_to un_value bin_from bin_to bin_value load_to load_width loaded store_from stored
memory_fill_of_the_first_bytes = refl

memory_fill_of_nothing_past_the_end_traps : f_gives (bytes_in at_first (num 65537 ∷ (num 7 ∷ (num 0 ∷ (i.MemoryFill 0 ∷ (num 1 ∷ [])))))) 25 ≡ Linked ∷ (Trapped ∷ [])
unfolding out-Instr denote.Hole.Carrier.out wrapped un_from un_to un_value bin_from bin_to bin_value load_to load_width loaded store_from stored
memory_fill_of_nothing_past_the_end_traps = refl

a_granted_memory_is_longer_and_zero : events (plain (page (gives (num 65532 ∷ (num 9 ∷ (i.Store store.I32Store (by 0) ∷ (num 1 ∷ (i.MemoryGrow 0 ∷ (i.Drop ∷ (num 65534 ∷ (i.Load load.I32Load (by 0) ∷ (i.MemorySize 0 ∷ (i.Bin bin.I32Add ∷ []))))))))))))) [] (Call f [] ∷ (Grant ∷ [])) 25 ≡ Linked ∷
    (GrowAsked Memories 1 1 ∷ (Returned (Number 2 ∷ []) ∷ []))
unfolding out-Instr denote.Hole.Carrier.out wrapped un_from un_to un_value bin_from bin_to bin_value load_to load_width loaded store_from stored
a_granted_memory_is_longer_and_zero = refl

-- Tables and element segments.

table_init_copies : f_gives (funcs_in elem.Passive (num 2 ∷ (num 1 ∷ (num 1 ∷ (i.TableInit 0 0 ∷ (num 10 ∷ (num 2 ∷ (i.CallIndirect 1 0 ∷ [])))))))) 30 ≡ returns (Number 12 ∷ [])
unfolding out-Instr denote.Hole.Carrier.out wrapped un_from un_to un_value bin_from bin_to bin_value load_to load_width loaded store_from stored
table_init_copies = refl

table_init_leaves_the_others : f_gives (funcs_in elem.Passive (num 1 ∷ (num 0 ∷ (num 2 ∷ (i.TableInit 0 0 ∷ (num 0 ∷ (i.TableGet 0 ∷ (i.RefIsNull ∷ [])))))))) 30 ≡ returns (Number 1 ∷ [])
unfolding out-Instr denote.Hole.Carrier.out wrapped un_from un_to un_value bin_from bin_to bin_value load_to load_width loaded store_from stored
table_init_leaves_the_others = refl

table_init_past_the_table_traps : f_gives (funcs_in elem.Passive (num 2 ∷ (num 0 ∷ (num 2 ∷ (i.TableInit 0 0 ∷ (num 1 ∷ [])))))) 30 ≡ Linked ∷ (Trapped ∷ [])
unfolding out-Instr denote.Hole.Carrier.out wrapped un_from un_to un_value bin_from bin_to bin_value load_to load_width loaded store_from stored
table_init_past_the_table_traps = refl

table_init_past_the_segment_traps : f_gives (funcs_in elem.Passive (num 0 ∷ (num 1 ∷ (num 2 ∷ (i.TableInit 0 0 ∷ (num 1 ∷ [])))))) 30 ≡ Linked ∷ (Trapped ∷ [])
unfolding out-Instr denote.Hole.Carrier.out wrapped un_from un_to un_value bin_from bin_to bin_value load_to load_width loaded store_from stored
table_init_past_the_segment_traps = refl

table_init_of_nothing_at_the_last_bounds : f_gives (funcs_in elem.Passive (num 3 ∷ (num 2 ∷ (num 0 ∷ (i.TableInit 0 0 ∷ (num 1 ∷ [])))))) 30 ≡ returns (Number 1 ∷ [])
unfolding out-Instr denote.Hole.Carrier.out wrapped un_from un_to un_value bin_from bin_to bin_value load_to load_width loaded store_from stored
table_init_of_nothing_at_the_last_bounds = refl

table_init_of_nothing_past_the_table_traps : f_gives (funcs_in elem.Passive (num 4 ∷ (num 0 ∷ (num 0 ∷ (i.TableInit 0 0 ∷ (num 1 ∷ [])))))) 30 ≡ Linked ∷ (Trapped ∷ [])
unfolding out-Instr denote.Hole.Carrier.out wrapped un_from un_to un_value bin_from bin_to bin_value load_to load_width loaded store_from stored
table_init_of_nothing_past_the_table_traps = refl

table_init_of_nothing_past_the_segment_traps : f_gives (funcs_in elem.Passive (num 0 ∷ (num 3 ∷ (num 0 ∷ (i.TableInit 0 0 ∷ (num 1 ∷ [])))))) 30 ≡ Linked ∷ (Trapped ∷ [])
unfolding out-Instr denote.Hole.Carrier.out wrapped un_from un_to un_value bin_from bin_to bin_value load_to load_width loaded store_from stored
table_init_of_nothing_past_the_segment_traps = refl

elem_drop_then_table_init_traps : f_gives (funcs_in elem.Passive (i.ElemDrop 0 ∷ (num 0 ∷ (num 0 ∷ (num 1 ∷ (i.TableInit 0 0 ∷ (num 1 ∷ []))))))) 30 ≡ Linked ∷ (Trapped ∷ [])
unfolding out-Instr denote.Hole.Carrier.out wrapped un_from un_to un_value bin_from bin_to bin_value load_to load_width loaded store_from stored
elem_drop_then_table_init_traps = refl

elem_drop_then_table_init_of_nothing : f_gives (funcs_in elem.Passive (i.ElemDrop 0 ∷ (num 0 ∷ (num 0 ∷ (num 0 ∷ (i.TableInit 0 0 ∷ (num 1 ∷ []))))))) 30 ≡ returns (Number 1 ∷ [])
unfolding out-Instr denote.Hole.Carrier.out wrapped un_from un_to un_value bin_from bin_to bin_value load_to load_width loaded store_from stored
elem_drop_then_table_init_of_nothing = refl

table_init_of_a_declarative_segment_traps : f_gives (funcs_in elem.Declarative (num 0 ∷ (num 0 ∷ (num 1 ∷ (i.TableInit 0 0 ∷ (num 1 ∷ [])))))) 30 ≡ Linked ∷ (Trapped ∷ [])
unfolding out-Instr denote.Hole.Carrier.out wrapped un_from un_to un_value bin_from bin_to bin_value load_to load_width loaded store_from stored
table_init_of_a_declarative_segment_traps = refl

table_copy_up_that_overlaps : f_gives (funcs_in (from_slot 0) (num 1 ∷ (num 0 ∷ (num 2 ∷ (i.TableCopy 0 0 ∷ (num 10 ∷ (num 2 ∷ (i.CallIndirect 1 0 ∷ [])))))))) 30 ≡ returns (Number 12 ∷ [])
unfolding out-Instr denote.Hole.Carrier.out wrapped un_from un_to un_value bin_from bin_to bin_value load_to load_width loaded store_from stored
table_copy_up_that_overlaps = refl

table_copy_down_that_overlaps : f_gives (funcs_in (from_slot 1) (num 0 ∷ (num 1 ∷ (num 2 ∷ (i.TableCopy 0 0 ∷ (num 10 ∷ (num 0 ∷ (i.CallIndirect 1 0 ∷ [])))))))) 30 ≡ returns (Number 11 ∷ [])
unfolding out-Instr denote.Hole.Carrier.out wrapped un_from un_to un_value bin_from bin_to bin_value load_to load_width loaded store_from stored
table_copy_down_that_overlaps = refl

table_copy_past_its_end_traps : f_gives (funcs_in (from_slot 0) (num 2 ∷ (num 0 ∷ (num 2 ∷ (i.TableCopy 0 0 ∷ (num 1 ∷ [])))))) 30 ≡ Linked ∷ (Trapped ∷ [])
unfolding out-Instr denote.Hole.Carrier.out wrapped un_from un_to un_value bin_from bin_to bin_value load_to load_width loaded store_from stored
table_copy_past_its_end_traps = refl

table_copy_from_past_its_end_traps : f_gives (funcs_in (from_slot 0) (num 0 ∷ (num 2 ∷ (num 2 ∷ (i.TableCopy 0 0 ∷ (num 1 ∷ [])))))) 30 ≡ Linked ∷ (Trapped ∷ [])
unfolding out-Instr denote.Hole.Carrier.out wrapped un_from un_to un_value bin_from bin_to bin_value load_to load_width loaded store_from stored
table_copy_from_past_its_end_traps = refl

table_copy_of_nothing_at_the_end : f_gives (funcs_in (from_slot 0) (num 3 ∷ (num 3 ∷ (num 0 ∷ (i.TableCopy 0 0 ∷ (num 1 ∷ [])))))) 30 ≡ returns (Number 1 ∷ [])
unfolding out-Instr denote.Hole.Carrier.out wrapped un_from un_to un_value bin_from bin_to bin_value load_to load_width loaded store_from stored
table_copy_of_nothing_at_the_end = refl

table_copy_of_nothing_past_the_end_traps : f_gives (funcs_in (from_slot 0) (num 4 ∷ (num 0 ∷ (num 0 ∷ (i.TableCopy 0 0 ∷ (num 1 ∷ [])))))) 30 ≡ Linked ∷ (Trapped ∷ [])
unfolding out-Instr denote.Hole.Carrier.out wrapped un_from un_to un_value bin_from bin_to bin_value load_to load_width loaded store_from stored
table_copy_of_nothing_past_the_end_traps = refl

table_fill_of_nothing_past_the_end_traps : f_gives (funcs_in (from_slot 0) (num 4 ∷ (i.RefFunc 0 ∷ (num 0 ∷ (i.TableFill 0 ∷ (num 1 ∷ [])))))) 30 ≡ Linked ∷ (Trapped ∷ [])
unfolding out-Instr denote.Hole.Carrier.out wrapped un_from un_to un_value bin_from bin_to bin_value load_to load_width loaded store_from stored
table_fill_of_nothing_past_the_end_traps = refl

memory_grow_past_the_greatest_size : f_gives (record (gives (num 65536 ∷ (i.MemoryGrow 0 ∷ []))) { mems = record { min = 1; max = None } ∷ [] }) 25 ≡ returns (Number 4294967295 ∷ [])
unfolding out-Instr denote.Hole.Carrier.out wrapped un_from un_to un_value bin_from bin_to bin_value load_to load_width loaded store_from stored
memory_grow_past_the_greatest_size = refl

table_grow_denied : events (plain (three (gives (i.RefFunc 0 ∷ (num 1 ∷ (i.TableGrow 0 ∷ [])))))) [] (Call f [] ∷ (Deny ∷ [])) 25 ≡ Linked ∷ (GrowAsked Tables 3 1 ∷ (Returned (Number 4294967295 ∷ []) ∷ []))
unfolding out-Instr denote.Hole.Carrier.out wrapped un_from un_to un_value bin_from bin_to bin_value load_to load_width loaded store_from stored
table_grow_denied = refl

a_granted_table_holds_the_reference : events (plain (three (gives (i.RefFunc 0 ∷ (num 1 ∷ (i.TableGrow 0 ∷ (i.Drop ∷ (num 3 ∷ (i.TableGet 0 ∷ (i.RefIsNull ∷ (i.TableSize 0 ∷ (i.Bin bin.I32Add ∷ [])))))))))))) [] (Call f [] ∷ (Grant ∷ [])) 25 ≡ Linked ∷
    (GrowAsked Tables 3 1 ∷ (Returned (Number 4 ∷ []) ∷ []))
unfolding out-Instr denote.Hole.Carrier.out wrapped un_from un_to un_value bin_from bin_to bin_value load_to load_width loaded store_from stored
a_granted_table_holds_the_reference = refl

table_grow_past_the_greatest_size : f_gives (record (gives (i.RefFunc 0 ∷ (i.I32Const (negsuc 0) ∷ (i.TableGrow 0 ∷ [])))) { tables = record { ty = reft.Func; limits = record { min = 3; max = None } } ∷ [] }) 25 ≡ returns (Number 4294967295 ∷ [])
unfolding out-Instr denote.Hole.Carrier.out wrapped un_from un_to un_value bin_from bin_to bin_value load_to load_width loaded store_from stored
table_grow_past_the_greatest_size = refl

a_call_of_another_type_traps_where_its_operands_fit : f_gives (three (record empty { funcs = code 0 (num 9 ∷ (num 0 ∷ (i.CallIndirect 1 0 ∷ []))) ∷ (code 0 (num 5 ∷ []) ∷ []); elems = record { mode = from_slot 0; ty = reft.Func; items = const.Func 1 ∷ [] } ∷ [] })) 25 ≡ Linked ∷ (Trapped ∷ [])
unfolding out-Instr denote.Hole.Carrier.out wrapped un_from un_to un_value bin_from bin_to bin_value load_to load_width loaded store_from stored
a_call_of_another_type_traps_where_its_operands_fit = refl

an_element_segment_out_of_bounds : events (plain (funcs_in (from_slot 2) (num 1 ∷ []))) [] [] 25 ≡ InstanceTrapped ∷ []
unfolding out-Instr denote.Hole.Carrier.out wrapped un_from un_to un_value bin_from bin_to bin_value load_to load_width loaded store_from stored
an_element_segment_out_of_bounds = refl

-- Starts.

starts_come_by_part : events two_starts hearing (Answer [] ∷ (Answer [] ∷ [])) 25 ≡ Asked (e, g) to_nothing (Number 1 ∷ []) ∷ (Asked (e, g) to_nothing (Number 2 ∷ []) ∷ (Linked ∷ []))
unfolding out-Instr denote.Hole.Carrier.out wrapped un_from un_to un_value bin_from bin_to bin_value load_to load_width loaded store_from stored
starts_come_by_part = refl

-- A table of the environment is matched with its size.

abbrev needs_a_table : ℕ → Module
needs_a_table n = record (gives (num 1 ∷ [])) { imports = record { «module» = e; field = m; desc = im.Table (record { ty = reft.Func; limits = record { min = n; max = Some 3 } }) } ∷ [] }

abbrev table_of : RefType → Environment
table_of ty = record { pair = (e, m); funcs = []; table = Some (record { ty = ty; limits = record { min = 1; max = Some 3 }; entries = Null ∷ [] }); memory = None; global = None } ∷ []

a_table_that_fits : events (plain (needs_a_table 1)) (table_of reft.Func) (Call f [] ∷ []) 25 ≡ returns (Number 1 ∷ [])
unfolding out-Instr denote.Hole.Carrier.out wrapped un_from un_to un_value bin_from bin_to bin_value load_to load_width loaded store_from stored
a_table_that_fits = refl

a_table_that_is_too_small : events (plain (needs_a_table 2)) (table_of reft.Func) [] 25 ≡ LinkFault ∷ []
unfolding out-Instr denote.Hole.Carrier.out wrapped un_from un_to un_value bin_from bin_to bin_value load_to load_width loaded store_from stored
a_table_that_is_too_small = refl

a_table_of_other_references : events (plain (needs_a_table 1)) (table_of reft.Extern) [] 25 ≡ LinkFault ∷ []
unfolding out-Instr denote.Hole.Carrier.out wrapped un_from un_to un_value bin_from bin_to bin_value load_to load_width loaded store_from stored
a_table_of_other_references = refl
