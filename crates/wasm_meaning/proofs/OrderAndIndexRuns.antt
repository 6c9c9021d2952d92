-- Runs that distinguish the definitions from wrong ones, computed: each gives something else under
-- a definition that is wrong in one place. They are about the order of two values, indices other
-- than 0, the addresses of a second part, locals, and equal types under other indices.
use Rattle.base_lists.proofs.Common.{◌≡◌, refl, ℕ, List, [], ◌∷◌, Some, None, true, pos}
use Rattle.wasm_tree_spec.specs.Prelude.{Tables, Memories, ValType, FuncType, Limits, TableType, Instr, Func, Import, ImportDesc, ConstExpr, GlobalDef, LocalGroup, ElemSeg, DataSeg, Module}
use Rattle.wasm_num.specs.declared.BinOp.TheVariants as bin
use Rattle.wasm_num.specs.declared.UnOp.TheVariants as un
use Rattle.wasm_tree.specs.declared.types.RefType.TheVariants as reft
use Rattle.wasm_tree.specs.declared.types.ValType.TheVariants as valt
use Rattle.wasm_tree.specs.declared.types.BlockType.TheVariants as bt
use Rattle.wasm_tree.specs.declared.instr.Instr.{out-Instr}
use Rattle.wasm_tree.specs.declared.instr.Instr.TheBlock.{shown-the_row-Instr-0}
use Rattle.wasm_tree.specs.declared.instr.Instr.TheVariants as i
use Rattle.wasm_tree.specs.declared.instr.LoadOp.TheVariants as load
use Rattle.wasm_tree.specs.declared.instr.StoreOp.TheVariants as store
use Rattle.wasm_tree.specs.declared.module.ImportDesc.TheVariants as im
use Rattle.wasm_tree.specs.declared.module.ExportDesc.TheVariants as ex
use Rattle.wasm_tree.specs.declared.module.ConstExpr.TheVariants as const
use Rattle.wasm_tree.specs.declared.module.ElemMode.TheVariants as elem
use Rattle.wasm_tree.specs.declared.module.DataMode.TheVariants as data'
use Rattle.wasm_num.specs.Operations.{wrapped, un_from, un_to, un_value, bin_from, bin_to, bin_value}
use Rattle.wasm_meaning.specs.Access.{load_to, load_width, loaded, store_from, stored}
use Rattle.wasm_meaning.specs.Prelude.{Environment, Number, Null, ExternNumber, World, Event, Move, Linked, Returned, Trapped, Asked, GrowAsked, Call, Answer, Grant, events, events_sequential}
use Rattle.wasm_meaning.proofs.SmallRuns.{f, g, a, b, e, i32, to_i32, from_i32, nothing, empty, code, num, gives, plain, returns}
use Rattle.wasm_meaning.proofs.MoreRuns.{i64}

-- ---- modules ----

abbrev pub funcref : ValType
funcref = valt.Ref reft.Func

abbrev pub externref : ValType
externref = valt.Ref reft.Extern

abbrev pub takes_two : FuncType
takes_two = record { params = i32 ∷ (i32 ∷ []); results = i32 ∷ [] }

abbrev gives_two : FuncType
gives_two = record { params = []; results = i32 ∷ (i32 ∷ []) }

abbrev pub two_to_two : FuncType
two_to_two = record { params = i32 ∷ (i32 ∷ []); results = i32 ∷ (i32 ∷ []) }

-- The types 0 to 4 are [] to [i32], [i32 i32] to [i32], [] to [i32 i32], [i32 i32] to [i32 i32],
-- and [] to [].
abbrev pub pairs : Module
pairs = record empty { types = to_i32 ∷ (takes_two ∷ (gives_two ∷ (two_to_two ∷ (nothing ∷ [])))) }

-- A module whose function 0 gives an i32, and which has other functions.
abbrev pub first_and : List Instr → List Func → Module
first_and body others = record pairs { funcs = code 0 body ∷ others }

-- Code that pushes 7 and 2 and then goes on with this.
abbrev pub seven_two : List Instr → List Instr
seven_two rest = num 7 ∷ (num 2 ∷ rest)

-- The events of a call of the one function of a module, which has this code.
abbrev body_gives : List Instr → List Event
body_gives body = events (plain (first_and body [])) [] (Call f [] ∷ []) 40

-- The events of a call of function 0 of a module.
abbrev pub gives_in : Module → List Event
gives_in x = events (plain x) [] (Call f [] ∷ []) 40

abbrev minus : Instr
minus = i.Bin bin.I32Sub

abbrev pub plus : Instr
plus = i.Bin bin.I32Add

-- A function that gives the difference of its two arguments.
abbrev pub difference : Func
difference = code 1 (i.LocalGet 0 ∷ (i.LocalGet 1 ∷ (minus ∷ [])))

-- ---- the order of two values ----

-- The values 7 and 2 enter a block, which subtracts.
a_block_takes_two_in_order : body_gives (seven_two (i.Block (bt.Index 1) (minus ∷ []) ∷ [])) ≡ returns (Number 5 ∷ [])
unfolding out-Instr denote.Hole.Carrier.out shown-the_row-Instr-0 denote.Hole.Carrier.shown denote.Hole.Carrier.hidden wrapped un_from un_to un_value bin_from bin_to bin_value
a_block_takes_two_in_order = refl

-- The values 7 and 2 enter a loop, which subtracts.
a_loop_takes_two_in_order : body_gives (seven_two (i.Loop (bt.Index 1) (minus ∷ []) ∷ [])) ≡ returns (Number 5 ∷ [])
unfolding out-Instr denote.Hole.Carrier.out shown-the_row-Instr-0 denote.Hole.Carrier.shown denote.Hole.Carrier.hidden wrapped un_from un_to un_value bin_from bin_to bin_value
a_loop_takes_two_in_order = refl

-- The values 7 and 2 enter the first arm of an if, which subtracts.
the_first_arm_takes_two_in_order : body_gives (seven_two (num 1 ∷ (i.If (bt.Index 1) (minus ∷ []) (i.Drop ∷ []) ∷ []))) ≡ returns (Number 5 ∷ [])
unfolding out-Instr denote.Hole.Carrier.out shown-the_row-Instr-0 denote.Hole.Carrier.shown denote.Hole.Carrier.hidden wrapped un_from un_to un_value bin_from bin_to bin_value
the_first_arm_takes_two_in_order = refl

-- The values 7 and 2 enter the second arm of an if, which subtracts.
the_second_arm_takes_two_in_order : body_gives (seven_two (num 0 ∷ (i.If (bt.Index 1) (i.Drop ∷ []) (minus ∷ []) ∷ []))) ≡ returns (Number 5 ∷ [])
unfolding out-Instr denote.Hole.Carrier.out shown-the_row-Instr-0 denote.Hole.Carrier.shown denote.Hole.Carrier.hidden wrapped un_from un_to un_value bin_from bin_to bin_value
the_second_arm_takes_two_in_order = refl

-- A branch hands on the upper two of three values, in order.
a_branch_hands_on_two_in_order : body_gives (i.Block (bt.Index 2) (num 9 ∷ (num 7 ∷ (num 2 ∷ (i.Br 0 ∷ [])))) ∷ (minus ∷ [])) ≡ returns (Number 5 ∷ [])
unfolding out-Instr denote.Hole.Carrier.out shown-the_row-Instr-0 denote.Hole.Carrier.shown denote.Hole.Carrier.hidden wrapped un_from un_to un_value bin_from bin_to bin_value
a_branch_hands_on_two_in_order = refl

-- A branch that leaves two blocks hands on the upper two of three values, in order.
a_branch_out_of_two_hands_on_two_in_order : body_gives (i.Block (bt.Index 2) (i.Block bt.Empty (num 9 ∷ (num 7 ∷ (num 2 ∷ (i.Br 1 ∷ [])))) ∷ (i.Unreachable ∷ [])) ∷ (minus ∷ [])) ≡ returns (Number 5 ∷ [])
unfolding out-Instr denote.Hole.Carrier.out shown-the_row-Instr-0 denote.Hole.Carrier.shown denote.Hole.Carrier.hidden wrapped un_from un_to un_value bin_from bin_to bin_value
a_branch_out_of_two_hands_on_two_in_order = refl

-- The end of a block hands on two values in order, above a value that was there.
a_block_gives_two_in_order : body_gives (num 9 ∷ (i.Block (bt.Index 2) (num 7 ∷ (num 2 ∷ [])) ∷ (minus ∷ (minus ∷ [])))) ≡ returns (Number 4 ∷ [])
unfolding out-Instr denote.Hole.Carrier.out shown-the_row-Instr-0 denote.Hole.Carrier.shown denote.Hole.Carrier.hidden wrapped un_from un_to un_value bin_from bin_to bin_value
a_block_gives_two_in_order = refl

-- An arm of an if gives two values in order.
an_arm_gives_two_in_order : body_gives (num 1 ∷ (i.If (bt.Index 2) (num 7 ∷ (num 2 ∷ [])) (num 2 ∷ (num 7 ∷ [])) ∷ (minus ∷ []))) ≡ returns (Number 5 ∷ [])
unfolding out-Instr denote.Hole.Carrier.out shown-the_row-Instr-0 denote.Hole.Carrier.shown denote.Hole.Carrier.hidden wrapped un_from un_to un_value bin_from bin_to bin_value
an_arm_gives_two_in_order = refl

-- A branch begins a loop again with two values in order, and is not taken the second time.
a_branch_to_a_loop_takes_two_in_order : events (plain (record pairs { funcs = record { ty = 0; locals = record { count = 1; ty = i32 } ∷ []; body = seven_two (i.Loop (bt.Index 1) (i.LocalGet 0 ∷ (i.Un un.I32Eqz ∷ (num 1 ∷ (i.LocalSet 0 ∷ (i.BrIf 0 ∷ (minus ∷ [])))))) ∷ []) } ∷ [] })) []
    (Call f [] ∷ []) 40 ≡ returns (Number 5 ∷ [])
unfolding out-Instr denote.Hole.Carrier.out shown-the_row-Instr-0 denote.Hole.Carrier.shown denote.Hole.Carrier.hidden wrapped un_from un_to un_value bin_from bin_to bin_value
a_branch_to_a_loop_takes_two_in_order = refl

-- A br_if that is taken hands on two values in order.
a_branch_if_hands_on_two_in_order : body_gives (i.Block (bt.Index 2) (num 9 ∷ (num 7 ∷ (num 2 ∷ (num 1 ∷ (i.BrIf 0 ∷ (i.Unreachable ∷ [])))))) ∷ (minus ∷ [])) ≡ returns (Number 5 ∷ [])
unfolding out-Instr denote.Hole.Carrier.out shown-the_row-Instr-0 denote.Hole.Carrier.shown denote.Hole.Carrier.hidden wrapped un_from un_to un_value bin_from bin_to bin_value
a_branch_if_hands_on_two_in_order = refl

-- A br_if that is not taken leaves two values in order.
a_branch_if_leaves_two_in_order : body_gives (i.Block (bt.Index 2) (num 7 ∷ (num 2 ∷ (num 0 ∷ (i.BrIf 0 ∷ (minus ∷ (num 3 ∷ [])))))) ∷ (minus ∷ [])) ≡ returns (Number 2 ∷ [])
unfolding out-Instr denote.Hole.Carrier.out shown-the_row-Instr-0 denote.Hole.Carrier.shown denote.Hole.Carrier.hidden wrapped un_from un_to un_value bin_from bin_to bin_value
a_branch_if_leaves_two_in_order = refl

-- A br_table to a label of its list hands on two values in order.
a_table_of_branches_hands_on_two_in_order : body_gives (i.Block (bt.Index 2) (i.Block (bt.Index 2) (num 9 ∷ (num 7 ∷ (num 2 ∷ (num 0 ∷ (i.BrTable (1 ∷ []) 0 ∷ []))))) ∷ (i.Drop ∷ (i.Drop ∷ (num 9 ∷ (num 3 ∷ []))))) ∷ (minus ∷ [])) ≡ returns (Number 5 ∷ [])
unfolding out-Instr denote.Hole.Carrier.out shown-the_row-Instr-0 denote.Hole.Carrier.shown denote.Hole.Carrier.hidden wrapped un_from un_to un_value bin_from bin_to bin_value
a_table_of_branches_hands_on_two_in_order = refl

-- A br_table to its last label hands on two values in order.
a_table_of_branches_hands_on_two_to_its_last : body_gives (i.Block (bt.Index 2) (i.Block (bt.Index 2) (num 9 ∷ (num 7 ∷ (num 2 ∷ (num 1 ∷ (i.BrTable (1 ∷ []) 0 ∷ []))))) ∷ (i.Drop ∷ (i.Drop ∷ (num 9 ∷ (num 3 ∷ []))))) ∷ (minus ∷ [])) ≡ returns (Number 6 ∷ [])
unfolding out-Instr denote.Hole.Carrier.out shown-the_row-Instr-0 denote.Hole.Carrier.shown denote.Hole.Carrier.hidden wrapped un_from un_to un_value bin_from bin_to bin_value
a_table_of_branches_hands_on_two_to_its_last = refl

-- A block that is entered and left inside another does not change how many values the other gives.
a_block_gives_its_own_count : body_gives (i.Block (bt.Index 2) (i.Block bt.Empty (i.Nop ∷ []) ∷ (num 7 ∷ (num 2 ∷ []))) ∷ (minus ∷ [])) ≡ returns (Number 5 ∷ [])
unfolding out-Instr denote.Hole.Carrier.out shown-the_row-Instr-0 denote.Hole.Carrier.shown denote.Hole.Carrier.hidden wrapped un_from un_to un_value bin_from bin_to bin_value
a_block_gives_its_own_count = refl

-- A block inside another does not change how many values a branch to the other takes.
a_branch_takes_its_own_count : body_gives (i.Block (bt.Index 2) (i.Block bt.Empty (i.Nop ∷ []) ∷ (num 9 ∷ (num 7 ∷ (num 2 ∷ (i.Br 0 ∷ []))))) ∷ (minus ∷ [])) ≡ returns (Number 5 ∷ [])
unfolding out-Instr denote.Hole.Carrier.out shown-the_row-Instr-0 denote.Hole.Carrier.shown denote.Hole.Carrier.hidden wrapped un_from un_to un_value bin_from bin_to bin_value
a_branch_takes_its_own_count = refl

-- A block inside a loop does not change what a branch to the loop begins again: the branch is taken
-- three times.
a_loop_is_begun_again_after_a_block : gives_in (record empty {
  funcs = record {
    ty = 0;
    locals = record { count = 1; ty = i32 } ∷ [];
    body = i.Loop bt.Empty (i.Block bt.Empty (i.Nop ∷ []) ∷ (i.LocalGet 0 ∷ (num 1 ∷ (plus ∷ (i.LocalTee 0 ∷ (num 3 ∷ (i.Bin bin.I32LtU ∷ (i.BrIf 0 ∷ [])))))))) ∷
        (i.LocalGet 0 ∷ []);
  } ∷ [];
}) ≡ returns (Number 3 ∷ [])
unfolding out-Instr denote.Hole.Carrier.out shown-the_row-Instr-0 denote.Hole.Carrier.shown denote.Hole.Carrier.hidden wrapped un_from un_to un_value bin_from bin_to bin_value
a_loop_is_begun_again_after_a_block = refl

-- A call takes its arguments in order.
a_call_takes_two_in_order : gives_in (first_and (seven_two (i.Call 1 ∷ [])) (difference ∷ [])) ≡ returns (Number 5 ∷ [])
unfolding out-Instr denote.Hole.Carrier.out wrapped un_from un_to un_value bin_from bin_to bin_value load_to load_width loaded store_from stored
a_call_takes_two_in_order = refl

-- A call through a table takes its arguments in order.
a_call_through_a_table_takes_two_in_order : gives_in (record (first_and (seven_two (num 0 ∷ (i.CallIndirect 1 0 ∷ []))) (difference ∷ []))
    { tables = record { ty = reft.Func; limits = record { min = 1; max = None } } ∷ []; elems = record { mode = elem.Active 0 (const.I32 (pos 0)); ty = reft.Func; items = const.Func 1 ∷ [] } ∷ [] }) ≡ returns (Number 5 ∷ [])
unfolding out-Instr denote.Hole.Carrier.out wrapped un_from un_to un_value bin_from bin_to bin_value load_to load_width loaded store_from stored
a_call_through_a_table_takes_two_in_order = refl

-- The end of a frame gives two results in order, above a value that was there.
a_call_gives_two_in_order : gives_in (first_and (num 9 ∷ (i.Call 1 ∷ (minus ∷ (minus ∷ [])))) (code 2 (num 7 ∷ (num 2 ∷ [])) ∷ [])) ≡ returns (Number 4 ∷ [])
unfolding out-Instr denote.Hole.Carrier.out wrapped un_from un_to un_value bin_from bin_to bin_value load_to load_width loaded store_from stored
a_call_gives_two_in_order = refl

-- A return gives the upper two of three values, in order.
return_gives_two_in_order : gives_in (first_and (num 9 ∷ (i.Call 1 ∷ (minus ∷ (minus ∷ [])))) (code 2 (num 8 ∷ (num 7 ∷ (num 2 ∷ (i.Return ∷ [])))) ∷ [])) ≡ returns (Number 4 ∷ [])
unfolding out-Instr denote.Hole.Carrier.out wrapped un_from un_to un_value bin_from bin_to bin_value load_to load_width loaded store_from stored
return_gives_two_in_order = refl

-- A branch to the label of the body gives the upper two of three values, in order.
a_branch_to_the_body_gives_two_in_order : gives_in (first_and (num 9 ∷ (i.Call 1 ∷ (minus ∷ (minus ∷ [])))) (code 2 (num 8 ∷ (num 7 ∷ (num 2 ∷ (i.Br 0 ∷ [])))) ∷ [])) ≡ returns (Number 4 ∷ [])
unfolding out-Instr denote.Hole.Carrier.out wrapped un_from un_to un_value bin_from bin_to bin_value load_to load_width loaded store_from stored
a_branch_to_the_body_gives_two_in_order = refl

-- An import from e by the name g, and the environment that offers functions of these types there.
abbrev pub from_e : ImportDesc → Import
from_e desc = record { «module» = e; field = g; desc = desc }

abbrev pub offering : List FuncType → Environment
offering types = record { pair = (e, g); funcs = types; table = None; memory = None; global = None } ∷ []

-- A world in which function 0 is the environment's, of this type, and f is function 1.
abbrev asking : ℕ → List Instr → World
asking ty body = record { parts = record { name = None; «module» = record pairs { imports = from_e (im.Func ty) ∷ []; funcs = code 0 body ∷ [] } } ∷ []; view = (f, record { part = 0; what = ex.Func 1 }) ∷ [] }

-- The arguments of the environment's function are shown in order, and its results come in order.
an_own_call_shows_and_is_answered_two_in_order : events (asking 3 (num 9 ∷ (num 7 ∷ (num 2 ∷ (i.Call 0 ∷ (minus ∷ (minus ∷ []))))))) (offering (two_to_two ∷ [])) (Call f [] ∷ (Answer (Number 8 ∷ (Number 3 ∷ [])) ∷ [])) 40 ≡ Linked ∷
    (Asked (e, g) two_to_two (Number 7 ∷ (Number 2 ∷ [])) ∷ (Returned (Number 4 ∷ []) ∷ []))
unfolding out-Instr denote.Hole.Carrier.out wrapped un_from un_to un_value bin_from bin_to bin_value load_to load_width loaded store_from stored
an_own_call_shows_and_is_answered_two_in_order = refl

-- The embedder passes arguments and gets results in order.
the_embedder_passes_and_gets_two_in_order : events (plain (record pairs { funcs = code 3 (i.LocalGet 1 ∷ (i.LocalGet 0 ∷ [])) ∷ [] })) [] (Call f (Number 7 ∷ (Number 2 ∷ [])) ∷ []) 40 ≡ returns (Number 2 ∷ (Number 7 ∷ []))
unfolding out-Instr denote.Hole.Carrier.out wrapped un_from un_to un_value bin_from bin_to bin_value load_to load_width loaded store_from stored
the_embedder_passes_and_gets_two_in_order = refl

-- ---- indices other than 0 ----

-- A function that gives a number.
abbrev pub giving : ℕ → Func
giving n = code 0 (num n ∷ [])

-- The type of a table of functions.
abbrev pub func_table : ℕ → TableType
func_table n = record { ty = reft.Func; limits = record { min = n; max = None } }

abbrev pub put_at : (table place : ℕ) → List ConstExpr → ElemSeg
put_at table place items = record { mode = elem.Active table (const.I32 (pos place)); ty = reft.Func; items = items }

abbrev kept : List ConstExpr → ElemSeg
kept items = record { mode = elem.Passive; ty = reft.Func; items = items }

-- A module in which table 0 has two entries and table 1 has three, and function n gives n.
abbrev two_tables : List ElemSeg → List Instr → Module
two_tables elems body = record (first_and body (giving 1 ∷ (giving 2 ∷ (giving 3 ∷ (giving 4 ∷ (giving 5 ∷ [])))))) { tables = func_table 2 ∷ (func_table 3 ∷ []); elems = elems }

-- A module with functions 1 and 2 in table 0, and functions 3 to 5 in table 1.
abbrev both_full : List Instr → Module
both_full = two_tables (put_at 0 0 (const.Func 1 ∷ (const.Func 2 ∷ [])) ∷ (put_at 1 0 (const.Func 3 ∷ (const.Func 4 ∷ (const.Func 5 ∷ []))) ∷ []))

-- A module with two tables of nulls, in which segment 0 has function 1, and segment 1 has functions
-- 2 and 3.
abbrev both_empty : List Instr → Module
both_empty = two_tables (kept (const.Func 1 ∷ []) ∷ (kept (const.Func 2 ∷ (const.Func 3 ∷ [])) ∷ []))

abbrev pub data_at : (memory place : ℕ) → List ℕ → DataSeg
data_at memory place bytes = record { mode = data'.Active memory (const.I32 (pos place)); bytes = bytes }

abbrev held : List ℕ → DataSeg
held bytes = record { mode = data'.Passive; bytes = bytes }

abbrev pub pages : ℕ → Limits
pages n = record { min = n; max = None }

-- A module with memories of these limits.
abbrev memories : List Limits → List DataSeg → List Instr → Module
memories mems datas body = record (gives body) { mems = mems; datas = datas }

abbrev pub one_memory : List DataSeg → List Instr → Module
one_memory = memories (pages 1 ∷ [])

abbrev two_memories : List DataSeg → List Instr → Module
two_memories = memories (pages 1 ∷ (pages 1 ∷ []))

-- An instruction that loads the byte of a memory at the place on top of the stack.
abbrev pub byte_in : ℕ → Instr
byte_in memory = i.Load load.I32Load8U (record { align = 0; offset = 0; memory = memory })

-- Two entries fit at 1 of table 1, and not of table 0.
table_copy_to_the_longer : gives_in (both_full (num 1 ∷ (num 0 ∷ (num 2 ∷ (i.TableCopy 1 0 ∷ (num 2 ∷ (i.CallIndirect 0 1 ∷ []))))))) ≡ returns (Number 2 ∷ [])
unfolding out-Instr denote.Hole.Carrier.out wrapped un_from un_to un_value bin_from bin_to bin_value load_to load_width loaded store_from stored
table_copy_to_the_longer = refl

-- Two entries stand from 1 on in table 1, and not in table 0.
table_copy_from_the_longer : gives_in (both_full (num 0 ∷ (num 1 ∷ (num 2 ∷ (i.TableCopy 0 1 ∷ (num 1 ∷ (i.CallIndirect 0 0 ∷ []))))))) ≡ returns (Number 5 ∷ [])
unfolding out-Instr denote.Hole.Carrier.out wrapped un_from un_to un_value bin_from bin_to bin_value load_to load_width loaded store_from stored
table_copy_from_the_longer = refl

-- The entries that would fit the other way round are past the end of table 0.
table_copy_to_the_shorter_traps : gives_in (both_full (num 1 ∷ (num 0 ∷ (num 2 ∷ (i.TableCopy 0 1 ∷ (num 1 ∷ [])))))) ≡ Linked ∷ (Trapped ∷ [])
unfolding out-Instr denote.Hole.Carrier.out wrapped un_from un_to un_value bin_from bin_to bin_value load_to load_width loaded store_from stored
table_copy_to_the_shorter_traps = refl

-- The entries that could be read the other way round are past the end of table 0.
table_copy_from_the_shorter_traps : gives_in (both_full (num 0 ∷ (num 1 ∷ (num 2 ∷ (i.TableCopy 1 0 ∷ (num 1 ∷ [])))))) ≡ Linked ∷ (Trapped ∷ [])
unfolding out-Instr denote.Hole.Carrier.out wrapped un_from un_to un_value bin_from bin_to bin_value load_to load_width loaded store_from stored
table_copy_from_the_shorter_traps = refl

-- Segment 1 is written into table 0.
table_init_from_segment_1 : gives_in (both_empty (num 0 ∷ (num 0 ∷ (num 2 ∷ (i.TableInit 1 0 ∷ (num 1 ∷ (i.CallIndirect 0 0 ∷ []))))))) ≡ returns (Number 3 ∷ [])
unfolding out-Instr denote.Hole.Carrier.out wrapped un_from un_to un_value bin_from bin_to bin_value load_to load_width loaded store_from stored
table_init_from_segment_1 = refl

-- Segment 0 is written into table 1.
table_init_into_table_1 : gives_in (both_empty (num 2 ∷ (num 0 ∷ (num 1 ∷ (i.TableInit 0 1 ∷ (num 2 ∷ (i.CallIndirect 0 1 ∷ []))))))) ≡ returns (Number 1 ∷ [])
unfolding out-Instr denote.Hole.Carrier.out wrapped un_from un_to un_value bin_from bin_to bin_value load_to load_width loaded store_from stored
table_init_into_table_1 = refl

-- Segment 0 stays where segment 1 is dropped.
elem_drop_of_segment_1 : gives_in (both_empty (i.ElemDrop 1 ∷ (num 0 ∷ (num 0 ∷ (num 1 ∷ (i.TableInit 0 0 ∷ (num 0 ∷ (i.CallIndirect 0 0 ∷ [])))))))) ≡ returns (Number 1 ∷ [])
unfolding out-Instr denote.Hole.Carrier.out wrapped un_from un_to un_value bin_from bin_to bin_value load_to load_width loaded store_from stored
elem_drop_of_segment_1 = refl

-- An entry of table 1 is set, and the size of table 1 is 3.
an_entry_of_table_1 : gives_in (both_full (num 2 ∷ (i.RefNull reft.Func ∷ (i.TableSet 1 ∷ (num 2 ∷ (i.TableGet 1 ∷ (i.RefIsNull ∷ (i.TableSize 1 ∷ (plus ∷ []))))))))) ≡ returns (Number 4 ∷ [])
unfolding out-Instr denote.Hole.Carrier.out wrapped un_from un_to un_value bin_from bin_to bin_value load_to load_width loaded store_from stored
an_entry_of_table_1 = refl

-- The last two entries of table 1 are filled.
a_fill_of_table_1 : gives_in (both_full (num 1 ∷ (i.RefNull reft.Func ∷ (num 2 ∷ (i.TableFill 1 ∷ (num 2 ∷ (i.TableGet 1 ∷ (i.RefIsNull ∷ [])))))))) ≡ returns (Number 1 ∷ [])
unfolding out-Instr denote.Hole.Carrier.out wrapped un_from un_to un_value bin_from bin_to bin_value load_to load_width loaded store_from stored
a_fill_of_table_1 = refl

-- Table 1 grows, and table 0 does not.
a_growth_of_table_1 : events (plain (both_full (i.RefNull reft.Func ∷ (num 1 ∷ (i.TableGrow 1 ∷ (i.Drop ∷ (i.TableSize 1 ∷ (i.TableSize 0 ∷ (minus ∷ []))))))))) [] (Call f [] ∷ (Grant ∷ [])) 40 ≡ Linked ∷ (GrowAsked Tables 3 1 ∷ (Returned (Number 2 ∷ []) ∷ []))
unfolding out-Instr denote.Hole.Carrier.out wrapped un_from un_to un_value bin_from bin_to bin_value load_to load_width loaded store_from stored
a_growth_of_table_1 = refl

-- Segment 1 has two bytes, and segment 0 has not.
memory_init_from_segment_1 : gives_in (one_memory (held (5 ∷ []) ∷ (held (6 ∷ (7 ∷ [])) ∷ [])) (num 0 ∷ (num 0 ∷ (num 2 ∷ (i.MemoryInit 1 0 ∷ (num 1 ∷ (byte_in 0 ∷ []))))))) ≡ returns (Number 7 ∷ [])
unfolding out-Instr denote.Hole.Carrier.out wrapped un_from un_to un_value bin_from bin_to bin_value load_to load_width loaded store_from stored
memory_init_from_segment_1 = refl

-- Segment 0 stays where segment 1 is dropped.
data_drop_of_segment_1 : gives_in (one_memory (held (5 ∷ []) ∷ (held (6 ∷ (7 ∷ [])) ∷ [])) (i.DataDrop 1 ∷ (num 0 ∷ (num 0 ∷ (num 1 ∷ (i.MemoryInit 0 0 ∷ (num 0 ∷ (byte_in 0 ∷ [])))))))) ≡ returns (Number 5 ∷ [])
unfolding out-Instr denote.Hole.Carrier.out wrapped un_from un_to un_value bin_from bin_to bin_value load_to load_width loaded store_from stored
data_drop_of_segment_1 = refl

-- Segment 0 is written into memory 1, and not into memory 0.
memory_init_into_memory_1 : gives_in (two_memories (held (5 ∷ []) ∷ (held (6 ∷ (7 ∷ [])) ∷ [])) (num 3 ∷ (num 0 ∷ (num 1 ∷ (i.MemoryInit 0 1 ∷ (num 3 ∷ (byte_in 1 ∷ (num 3 ∷ (byte_in 0 ∷ (minus ∷ [])))))))))) ≡ returns (Number 5 ∷ [])
unfolding out-Instr denote.Hole.Carrier.out wrapped un_from un_to un_value bin_from bin_to bin_value load_to load_width loaded store_from stored
memory_init_into_memory_1 = refl

-- Bytes are copied from memory 0, where a segment wrote them.
memory_copy_into_memory_1 : gives_in (two_memories (data_at 0 0 (5 ∷ (6 ∷ (7 ∷ []))) ∷ []) (num 4 ∷ (num 0 ∷ (num 3 ∷ (i.MemoryCopy 1 0 ∷ (num 6 ∷ (byte_in 1 ∷ (num 6 ∷ (byte_in 0 ∷ (minus ∷ [])))))))))) ≡ returns (Number 7 ∷ [])
unfolding out-Instr denote.Hole.Carrier.out wrapped un_from un_to un_value bin_from bin_to bin_value load_to load_width loaded store_from stored
memory_copy_into_memory_1 = refl

-- Bytes are copied from memory 1, where a segment wrote them.
memory_copy_from_memory_1 : gives_in (two_memories (data_at 1 0 (5 ∷ (6 ∷ (7 ∷ []))) ∷ []) (num 4 ∷ (num 0 ∷ (num 3 ∷ (i.MemoryCopy 0 1 ∷ (num 6 ∷ (byte_in 0 ∷ (num 6 ∷ (byte_in 1 ∷ (minus ∷ [])))))))))) ≡ returns (Number 7 ∷ [])
unfolding out-Instr denote.Hole.Carrier.out wrapped un_from un_to un_value bin_from bin_to bin_value load_to load_width loaded store_from stored
memory_copy_from_memory_1 = refl

-- No bytes are copied to 1 of memory 0, which has a page, from memory 1, which has none.
memory_copy_to_the_longer : gives_in (memories (pages 1 ∷ (pages 0 ∷ [])) [] (num 1 ∷ (num 0 ∷ (num 0 ∷ (i.MemoryCopy 0 1 ∷ (num 3 ∷ [])))))) ≡ returns (Number 3 ∷ [])
unfolding out-Instr denote.Hole.Carrier.out wrapped un_from un_to un_value bin_from bin_to bin_value load_to load_width loaded store_from stored
memory_copy_to_the_longer = refl

-- The place 1 is past the end of memory 1, which has no page.
memory_copy_to_the_shorter_traps : gives_in (memories (pages 1 ∷ (pages 0 ∷ [])) [] (num 1 ∷ (num 0 ∷ (num 0 ∷ (i.MemoryCopy 1 0 ∷ (num 3 ∷ [])))))) ≡ Linked ∷ (Trapped ∷ [])
unfolding out-Instr denote.Hole.Carrier.out wrapped un_from un_to un_value bin_from bin_to bin_value load_to load_width loaded store_from stored
memory_copy_to_the_shorter_traps = refl

-- Memory 1 is filled, stored into and loaded from, and memory 0 stays.
memory_1_is_filled_stored_and_loaded : gives_in (two_memories [] (num 0 ∷ (num 9 ∷ (num 2 ∷ (i.MemoryFill 1 ∷
    (num 1 ∷ (num 4 ∷ (i.Store store.I32Store8 (record { align = 0; offset = 0; memory = 1 }) ∷ (num 0 ∷ (byte_in 1 ∷ (num 1 ∷ (byte_in 1 ∷ (minus ∷ (num 0 ∷ (byte_in 0 ∷ (minus ∷ (num 1 ∷ (byte_in 0 ∷ (minus ∷ []))))))))))))))))))) ≡ returns (Number 5 ∷ [])
unfolding out-Instr denote.Hole.Carrier.out wrapped un_from un_to un_value bin_from bin_to bin_value load_to load_width loaded store_from stored
memory_1_is_filled_stored_and_loaded = refl

-- Memory 1 grows by two pages, and memory 0 does not.
a_growth_of_memory_1 : events (plain (memories (pages 1 ∷ (pages 0 ∷ [])) [] (num 2 ∷ (i.MemoryGrow 1 ∷ (i.Drop ∷ (i.MemorySize 1 ∷ (i.MemorySize 0 ∷ (minus ∷ [])))))))) [] (Call f [] ∷ (Grant ∷ [])) 40 ≡ Linked ∷ (GrowAsked Memories 0 2 ∷ (Returned (Number 1 ∷ []) ∷ []))
unfolding out-Instr denote.Hole.Carrier.out wrapped un_from un_to un_value bin_from bin_to bin_value load_to load_width loaded store_from stored
a_growth_of_memory_1 = refl

-- ---- the addresses of a second part ----

-- A world with function 0 of the first part by the name g, and of the second by the name f.
abbrev pub both_parts : Module → Module → World
both_parts first second = record {
  parts = record { name = Some a; «module» = first } ∷ (record { name = Some b; «module» = second } ∷ []);
  view = (f, record { part = 1; what = ex.Func 0 }) ∷ ((g, record { part = 0; what = ex.Func 0 }) ∷ []);
}

-- Both parts have a memory and a segment: g drops its own segment and gives byte 0 of its own
-- memory, and f writes its own segment.
abbrev with_bytes : World
with_bytes = both_parts (one_memory (held (5 ∷ []) ∷ []) (i.DataDrop 0 ∷ (num 0 ∷ (byte_in 0 ∷ [])))) (one_memory (held (6 ∷ []) ∷ []) (num 0 ∷ (num 0 ∷ (num 1 ∷ (i.MemoryInit 0 0 ∷ (num 0 ∷ (byte_in 0 ∷ [])))))))

-- Both parts have a table and a segment with their function 1: g drops its own segment and tells
-- whether its entry 0 is null, and f writes its own segment and calls the function.
abbrev with_entry : ℕ → List Instr → Module
with_entry n body = record (first_and body (giving n ∷ [])) { tables = func_table 1 ∷ []; elems = kept (const.Func 1 ∷ []) ∷ [] }

abbrev with_entries : World
with_entries = both_parts (with_entry 1 (i.ElemDrop 0 ∷ (num 0 ∷ (i.TableGet 0 ∷ (i.RefIsNull ∷ []))))) (with_entry 2 (num 0 ∷ (num 0 ∷ (num 1 ∷ (i.TableInit 0 0 ∷ (num 0 ∷ (i.CallIndirect 0 0 ∷ [])))))))

-- A mutable global with this value.
abbrev pub counter : ℕ → GlobalDef
counter n = record { ty = record { ty = i32; mutable = true }; init = const.I32 (pos n) }

-- Both parts have a global, and f adds 1 to its own.
abbrev with_globals : World
with_globals = both_parts (record (first_and (i.GlobalGet 0 ∷ []) []) { globals = counter 40 ∷ [] }) (record (first_and (num 1 ∷ (i.GlobalGet 0 ∷ (plus ∷ (i.GlobalSet 0 ∷ (i.GlobalGet 0 ∷ []))))) []) { globals = counter 50 ∷ [] })

-- The events of calls of f and g, either f or g first.
abbrev f_then_g : World → List Event
f_then_g w = events w [] (Call f [] ∷ (Call g [] ∷ [])) 40

abbrev g_then_f : World → List Event
g_then_f w = events w [] (Call g [] ∷ (Call f [] ∷ [])) 40

-- The events of two calls that return a number each.
abbrev return_both : ℕ → ℕ → List Event
return_both x y = Linked ∷ (Returned (Number x ∷ []) ∷ (Returned (Number y ∷ []) ∷ []))

-- The second part writes its own segment into its own memory.
memory_init_in_the_second_part : f_then_g with_bytes ≡ return_both 6 0
unfolding out-Instr denote.Hole.Carrier.out wrapped un_from un_to un_value bin_from bin_to bin_value load_to load_width loaded store_from stored
memory_init_in_the_second_part = refl

-- The segment of the second part stays.
data_drop_in_the_first_part : g_then_f with_bytes ≡ return_both 0 6
unfolding out-Instr denote.Hole.Carrier.out wrapped un_from un_to un_value bin_from bin_to bin_value load_to load_width loaded store_from stored
data_drop_in_the_first_part = refl

-- The second part writes its own segment into its own table.
table_init_in_the_second_part : f_then_g with_entries ≡ return_both 2 1
unfolding out-Instr denote.Hole.Carrier.out wrapped un_from un_to un_value bin_from bin_to bin_value load_to load_width loaded store_from stored
table_init_in_the_second_part = refl

-- The segment of the second part stays.
elem_drop_in_the_first_part : g_then_f with_entries ≡ return_both 1 2
unfolding out-Instr denote.Hole.Carrier.out wrapped un_from un_to un_value bin_from bin_to bin_value load_to load_width loaded store_from stored
elem_drop_in_the_first_part = refl

-- The second part reads and sets its own global.
a_global_of_the_second_part : f_then_g with_globals ≡ return_both 51 40
unfolding out-Instr denote.Hole.Carrier.out wrapped un_from un_to un_value bin_from bin_to bin_value load_to load_width loaded store_from stored
a_global_of_the_second_part = refl

-- The second part calls its own function 1.
a_call_in_the_second_part : f_then_g (both_parts (first_and (i.Call 1 ∷ []) (giving 1 ∷ [])) (first_and (i.Call 1 ∷ []) (giving 2 ∷ []))) ≡ return_both 2 1
unfolding out-Instr denote.Hole.Carrier.out wrapped un_from un_to un_value bin_from bin_to bin_value load_to load_width loaded store_from stored
a_call_in_the_second_part = refl

-- The events of calls of f and then g, if the parts are instantiated sequentially.
abbrev one_by_one_events : World → List Event
one_by_one_events w = events_sequential w [] (Call f [] ∷ (Call g [] ∷ [])) 40

-- The second part, instantiated after the first, writes its own segment into its own memory.
bytes_of_the_second_part_in_turn : one_by_one_events with_bytes ≡ return_both 6 0
unfolding out-Instr denote.Hole.Carrier.out wrapped un_from un_to un_value bin_from bin_to bin_value load_to load_width loaded store_from stored
bytes_of_the_second_part_in_turn = refl

-- The second part, instantiated after the first, writes its own segment into its own table.
entries_of_the_second_part_in_turn : one_by_one_events with_entries ≡ return_both 2 1
unfolding out-Instr denote.Hole.Carrier.out wrapped un_from un_to un_value bin_from bin_to bin_value load_to load_width loaded store_from stored
entries_of_the_second_part_in_turn = refl

-- The second part, instantiated after the first, reads and sets its own global.
a_global_of_the_second_part_in_turn : one_by_one_events with_globals ≡ return_both 51 40
unfolding out-Instr denote.Hole.Carrier.out wrapped un_from un_to un_value bin_from bin_to bin_value load_to load_width loaded store_from stored
a_global_of_the_second_part_in_turn = refl

-- ---- locals, and entries that are null at first ----

-- A module whose one function has this type and these locals.
abbrev pub declaring : FuncType → List LocalGroup → List Instr → Module
declaring t locals body = record empty { types = t ∷ []; funcs = record { ty = 0; locals = locals; body = body } ∷ [] }

-- The events of these moves on a module alone.
abbrev pub f_of : Module → List Move → List Event
f_of x moves = events (plain x) [] moves 40

abbrev locals_of : ℕ → ValType → LocalGroup
locals_of count ty = record { count = count; ty = ty }

abbrev from_i32_to : List ValType → FuncType
from_i32_to results = record { params = i32 ∷ []; results = results }

-- Local 0 is the argument, and local 1 is declared.
arguments_come_before_locals : f_of (declaring (from_i32_to (i32 ∷ [])) (locals_of 1 i32 ∷ []) (i.LocalGet 0 ∷ (i.LocalGet 1 ∷ (minus ∷ [])))) (Call f (Number 7 ∷ []) ∷ []) ≡ returns (Number 7 ∷ [])
unfolding out-Instr denote.Hole.Carrier.out wrapped un_from un_to un_value bin_from bin_to bin_value load_to load_width loaded store_from stored
arguments_come_before_locals = refl

-- Two locals of type i32 and one of i64 follow the argument.
locals_come_by_group : f_of (declaring (from_i32_to (i64 ∷ [])) (locals_of 2 i32 ∷ (locals_of 1 i64 ∷ [])) (i.I64Const (pos 9) ∷ (i.LocalSet 3 ∷ (i.LocalGet 3 ∷ [])))) (Call f (Number 7 ∷ []) ∷ []) ≡ returns (Number 9 ∷ [])
unfolding out-Instr denote.Hole.Carrier.out wrapped un_from un_to un_value bin_from bin_to bin_value load_to load_width loaded store_from stored
locals_come_by_group = refl

-- The locals are an empty group, an i64, and a reference of each type.
locals_are_zero_or_null : f_of (declaring (from_i32_to (i64 ∷ (funcref ∷ (externref ∷ [])))) (locals_of 0 i32 ∷ (locals_of 1 i64 ∷ (locals_of 1 funcref ∷ (locals_of 1 externref ∷ [])))) (i.LocalGet 1 ∷ (i.LocalGet 2 ∷ (i.LocalGet 3 ∷ [])))) (Call f (Number 7 ∷ []) ∷ []) ≡
    returns (Number 0 ∷ (Null ∷ (Null ∷ [])))
unfolding out-Instr denote.Hole.Carrier.out wrapped un_from un_to un_value bin_from bin_to bin_value load_to load_width loaded store_from stored
locals_are_zero_or_null = refl

-- A local that a call sets is zero in the next call.
locals_are_new_in_each_call : f_of (declaring to_i32 (locals_of 1 i32 ∷ []) (i.LocalGet 0 ∷ (num 4 ∷ (i.LocalSet 0 ∷ [])))) (Call f [] ∷ (Call f [] ∷ [])) ≡ return_both 0 0
unfolding out-Instr denote.Hole.Carrier.out wrapped un_from un_to un_value bin_from bin_to bin_value load_to load_width loaded store_from stored
locals_are_new_in_each_call = refl

-- A local that a call sets is another than that of its caller.
locals_stay_over_a_call : gives_in (record empty { funcs = record { ty = 0; locals = locals_of 1 i32 ∷ []; body = num 7 ∷ (i.LocalSet 0 ∷ (i.Call 1 ∷ (i.LocalGet 0 ∷ (minus ∷ [])))) } ∷ (record { ty = 0; locals = locals_of 1 i32 ∷ []; body = num 9 ∷ (i.LocalSet 0 ∷ (i.LocalGet 0 ∷ [])) } ∷ []) }) ≡
    returns (Number 2 ∷ [])
unfolding out-Instr denote.Hole.Carrier.out wrapped un_from un_to un_value bin_from bin_to bin_value load_to load_width loaded store_from stored
locals_stay_over_a_call = refl

-- An entry that is set, and an entry that is null at first, are extern references.
a_table_of_extern_references : f_of (record (declaring (record { params = externref ∷ []; results = externref ∷ (externref ∷ []) }) [] (num 0 ∷ (i.LocalGet 0 ∷ (i.TableSet 0 ∷ (num 0 ∷ (i.TableGet 0 ∷ (num 1 ∷ (i.TableGet 0 ∷ []))))))))
    { tables = record { ty = reft.Extern; limits = record { min = 2; max = None } } ∷ [] }) (Call f (ExternNumber 7 ∷ []) ∷ []) ≡ returns (ExternNumber 7 ∷ (Null ∷ []))
unfolding out-Instr denote.Hole.Carrier.out wrapped un_from un_to un_value bin_from bin_to bin_value load_to load_width loaded store_from stored
a_table_of_extern_references = refl

-- ---- equal types under other indices ----

-- A module whose function gives 5 and has type 1, which is equal to type 0 of other modules.
abbrev other_types : Module
other_types = record empty { types = nothing ∷ (to_i32 ∷ []); funcs = code 1 (num 5 ∷ []) ∷ []; exports = record { name = f; desc = ex.Func 0 } ∷ [] }

-- An import from a by the name f.
abbrev pub from_a : ImportDesc → Import
from_a desc = record { «module» = a; field = f; desc = desc }

-- A world of a part named a, and another part with one import from a, whose function may be used.
abbrev pub taking : Module → ImportDesc → ℕ → List Instr → World
taking first desc index body = record {
  parts = record { name = Some a; «module» = first } ∷ (record { name = None; «module» = record (first_and body []) { imports = from_a desc ∷ [] } } ∷ []);
  view = (f, record { part = 1; what = ex.Func index }) ∷ [];
}

-- A function of type 3 is called by type 0, which is equal.
a_call_through_a_table_by_an_equal_type : gives_in (record empty { types = to_i32 ∷ (from_i32 ∷ (nothing ∷ (to_i32 ∷ []))); funcs = code 0 (num 0 ∷ (i.CallIndirect 0 0 ∷ [])) ∷ (code 3 (num 5 ∷ []) ∷ []); tables = func_table 1 ∷ []; elems = put_at 0 0 (const.Func 1 ∷ []) ∷ [] }) ≡
    returns (Number 5 ∷ [])
unfolding out-Instr denote.Hole.Carrier.out wrapped un_from un_to un_value bin_from bin_to bin_value load_to load_width loaded store_from stored
a_call_through_a_table_by_an_equal_type = refl

-- An import of type 0 is linked to an export of type 1, which is equal.
an_import_by_an_equal_type : events (taking other_types (im.Func 0) 1 (i.Call 0 ∷ [])) [] (Call f [] ∷ []) 40 ≡ returns (Number 5 ∷ [])
unfolding out-Instr denote.Hole.Carrier.out wrapped un_from un_to un_value bin_from bin_to bin_value load_to load_width loaded store_from stored
an_import_by_an_equal_type = refl

-- The second type that the environment offers is asked for.
an_environment_with_two_types : events (asking 0 (i.Call 0 ∷ [])) (offering (nothing ∷ (to_i32 ∷ []))) (Call f [] ∷ (Answer (Number 4 ∷ []) ∷ [])) 40 ≡ Linked ∷ (Asked (e, g) to_i32 [] ∷ (Returned (Number 4 ∷ []) ∷ []))
unfolding out-Instr denote.Hole.Carrier.out wrapped un_from un_to un_value bin_from bin_to bin_value load_to load_width loaded store_from stored
an_environment_with_two_types = refl
