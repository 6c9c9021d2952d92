-- Small runs, computed: the definitions give the events that the standard asks for.
use Rattle.base_lists.proofs.Common.{◌≡◌, refl, ℕ, List, [], ◌∷◌, Some, None, true, false, pos, negsuc}
use Rattle.wasm_tree_spec.specs.Prelude.{Tables, Memories, ValType, FuncType, Instr, Func, Module}
use Rattle.wasm_num.specs.declared.BinOp.TheVariants as bin
use Rattle.wasm_num.specs.declared.UnOp.TheVariants as un
use Rattle.wasm_tree.specs.declared.types.RefType.TheVariants as reft
use Rattle.wasm_tree.specs.declared.types.ValType.TheVariants as valt
use Rattle.wasm_tree.specs.declared.types.BlockType.TheVariants as bt
use Rattle.wasm_tree.specs.declared.instr.Instr.{out-Instr}
use Rattle.wasm_tree.specs.declared.instr.Instr.TheVariants as i
use Rattle.wasm_tree.specs.declared.instr.LoadOp.TheVariants as load
use Rattle.wasm_tree.specs.declared.instr.StoreOp.TheVariants as store
use Rattle.wasm_tree.specs.declared.module.ImportDesc.TheVariants as im
use Rattle.wasm_tree.specs.declared.module.ExportDesc.TheVariants as ex
use Rattle.wasm_tree.specs.declared.module.ConstExpr.TheVariants as const
use Rattle.wasm_tree.specs.declared.module.ElemMode.TheVariants as elem
use Rattle.wasm_tree.specs.declared.module.DataMode.TheVariants as data'
use Rattle.wasm_num.specs.Operations.{wrapped, un_from, un_to, un_value, bin_from, bin_to, bin_value}
use Rattle.wasm_meaning.specs.Prelude.{Text, Environment, Shown, Number, Null, Function, World, Event, Linked, LinkFault, InstanceTrapped, Returned, Trapped, Asked, GrowAsked, Got, Done, BadMove, Call, Invoke, Take, Answer, Refuse, Grant, Deny, Get, Size, Set, MemoryOf, GlobalOf, Named, events}
use Rattle.wasm_meaning.specs.Access.{load_to, load_width, loaded, store_from, stored}

-- ---- modules ----

-- The names f, g, a, b, e and m.
abbrev pub f : Text
f = 102 ∷ []

abbrev pub g : Text
g = 103 ∷ []

abbrev pub a : Text
a = 97 ∷ []

abbrev pub b : Text
b = 98 ∷ []

abbrev pub e : Text
e = 101 ∷ []

abbrev pub m : Text
m = 109 ∷ []

abbrev pub i32 : ValType
i32 = valt.I32

abbrev pub to_i32 : FuncType
to_i32 = record { params = []; results = i32 ∷ [] }

abbrev pub from_i32 : FuncType
from_i32 = record { params = i32 ∷ []; results = i32 ∷ [] }

abbrev pub nothing : FuncType
nothing = record { params = []; results = [] }

-- The types 0 to 2 are [] to [i32], [i32] to [i32], and [] to [].
abbrev pub empty : Module
empty = record { types = to_i32 ∷ (from_i32 ∷ (nothing ∷ [])); imports = []; funcs = []; tables = []; mems = []; globals = []; exports = []; start = None; elems = []; datas = [] }

abbrev pub code : ℕ → List Instr → Func
code ty body = record { ty = ty; locals = []; body = body }

-- A function with one local of type i32.
abbrev pub code' : ℕ → List Instr → Func
code' ty body = record { ty = ty; locals = record { count = 1; ty = i32 } ∷ []; body = body }

abbrev pub num : ℕ → Instr
num n = i.I32Const (pos n)

-- A module whose function 0 gives an i32.
abbrev pub gives : List Instr → Module
gives body = record empty { funcs = code 0 body ∷ [] }

abbrev pub page : Module → Module
page x = record x { mems = record { min = 1; max = Some 2 } ∷ [] }

abbrev pub three : Module → Module
three x = record x { tables = record { ty = reft.Func; limits = record { min = 3; max = Some 4 } } ∷ [] }

-- ---- worlds and runs ----

abbrev pub alone : Module → World
alone x = record { parts = record { name = None; «module» = x } ∷ []; view = (f, record { part = 0; what = ex.Func 0 }) ∷ ((m, record { part = 0; what = ex.Memory 0 }) ∷ []) }

abbrev pub plain : Module → World
plain x = record { parts = record { name = None; «module» = x } ∷ []; view = (f, record { part = 0; what = ex.Func 0 }) ∷ [] }

-- An environment with a function g of e, of type [] to [i32].
abbrev pub own : Environment
own = record { pair = (e, g); funcs = to_i32 ∷ []; table = None; memory = None; global = None } ∷ []

abbrev pub importing : List Instr → Module
importing body = record empty { imports = record { «module» = e; field = g; desc = im.Func 0 } ∷ []; funcs = code 0 body ∷ [] }

abbrev pub calling : World
calling = record { parts = record { name = None; «module» = importing (i.Call 0 ∷ (num 1 ∷ (i.Bin bin.I32Add ∷ []))) } ∷ []; view = (f, record { part = 0; what = ex.Func 1 }) ∷ [] }

abbrev pub returns : List Shown → List Event
returns xs = Linked ∷ (Returned xs ∷ [])

abbrev pub f_gives : Module → ℕ → List Event
f_gives x n = events (plain x) [] (Call f [] ∷ []) n

-- The part a exports f, which gives 3, and an immutable global g; the part b imports both, and its
-- f adds them.
abbrev pub giver : Module
giver = record (gives (num 3 ∷ [])) { globals = record { ty = record { ty = i32; mutable = false }; init = const.I32 (pos 40) } ∷ []; exports = record { name = f; desc = ex.Func 0 } ∷ (record { name = g; desc = ex.Global 0 } ∷ []) }

abbrev pub taker : Module
taker = record empty {
  imports = record { «module» = a; field = f; desc = im.Func 0 } ∷ (record { «module» = a; field = g; desc = im.Global (record { ty = i32; mutable = false }) } ∷ []);
  funcs = code 0 (i.Call 0 ∷ (i.GlobalGet 1 ∷ (i.Bin bin.I32Add ∷ []))) ∷ [];
  globals = record { ty = record { ty = i32; mutable = true }; init = const.Global 0 } ∷ [];
}

abbrev pub two : Module → World
two x = record { parts = record { name = Some b; «module» = taker } ∷ (record { name = Some a; «module» = x } ∷ []); view = (f, record { part = 0; what = ex.Func 1 }) ∷ [] }

-- A module as a linker leaves it: it logs, and calls through its table.
abbrev pub env : Text
env = 101 ∷ (110 ∷ (118 ∷ []))

abbrev pub log : Text
log = 108 ∷ (111 ∷ (103 ∷ []))

abbrev pub to_nothing : FuncType
to_nothing = record { params = i32 ∷ []; results = [] }

abbrev pub linked_by_hand : Module
linked_by_hand = record {
  types = nothing ∷ (from_i32 ∷ (to_nothing ∷ []));
  imports = record { «module» = env; field = log; desc = im.Func 2 } ∷ [];
  funcs = code 0 (i.Call 2 ∷ []) ∷ (code 0 (num 0 ∷ (num 42 ∷ (i.Store store.I32Store (record { align = 2; offset = 1028; memory = 0 }) ∷ [])))
      ∷ (code 1 (i.LocalGet 0 ∷ (num 1 ∷ (i.Bin bin.I32Shl ∷ []))) ∷ (code 1 (i.LocalGet 0 ∷ (i.Call 0 ∷ (i.LocalGet 0 ∷ (num 1 ∷ (i.CallIndirect 1 0 ∷ []))))) ∷ [])));
  tables = record { ty = reft.Func; limits = record { min = 5; max = Some 5 } } ∷ [];
  mems = record { min = 2; max = None } ∷ [];
  globals = record { ty = record { ty = i32; mutable = true }; init = const.I32 (pos 66576) } ∷ [];
  exports = [];
  start = None;
  elems = record { mode = elem.Active 0 (const.I32 (pos 1)); ty = reft.Func; items = const.Func 3 ∷ [] } ∷ [];
  datas = record { mode = data'.Active 0 (const.I32 (pos 1024)); bytes = 104 ∷ (105 ∷ []) } ∷ [];
}

abbrev pub logging : Environment
logging = record { pair = (env, log); funcs = to_nothing ∷ []; table = None; memory = None; global = None } ∷ []

-- The view has the constructors of the module, its function and its memory.
abbrev pub its_view : World
its_view = record { parts = record { name = None; «module» = linked_by_hand } ∷ []; view = (g, record { part = 0; what = ex.Func 1 }) ∷ ((f, record { part = 0; what = ex.Func 4 }) ∷ ((m, record { part = 0; what = ex.Memory 0 }) ∷ [])) }

a_constant : f_gives (gives (num 5 ∷ [])) 25 ≡ returns (Number 5 ∷ [])
unfolding out-Instr denote.Hole.Carrier.out wrapped un_from un_to un_value bin_from bin_to bin_value load_to load_width loaded store_from stored
a_constant = refl

unreachable_traps : f_gives (gives (i.Unreachable ∷ [])) 25 ≡ Linked ∷ (Trapped ∷ [])
unfolding out-Instr denote.Hole.Carrier.out wrapped un_from un_to un_value bin_from bin_to bin_value load_to load_width loaded store_from stored
unreachable_traps = refl

nop_and_drop : f_gives (gives (num 5 ∷ (num 6 ∷ (i.Nop ∷ (i.Drop ∷ []))))) 25 ≡ returns (Number 5 ∷ [])
unfolding out-Instr denote.Hole.Carrier.out wrapped un_from un_to un_value bin_from bin_to bin_value load_to load_width loaded store_from stored
nop_and_drop = refl

select_the_second : f_gives (gives (num 1 ∷ (num 2 ∷ (num 0 ∷ (i.Select ∷ []))))) 25 ≡ returns (Number 2 ∷ [])
unfolding out-Instr denote.Hole.Carrier.out wrapped un_from un_to un_value bin_from bin_to bin_value load_to load_width loaded store_from stored
select_the_second = refl

select_the_first : f_gives (gives (num 1 ∷ (num 2 ∷ (num 7 ∷ (i.Select ∷ []))))) 25 ≡ returns (Number 1 ∷ [])
unfolding out-Instr denote.Hole.Carrier.out wrapped un_from un_to un_value bin_from bin_to bin_value load_to load_width loaded store_from stored
select_the_first = refl

an_operation : f_gives (gives (num 2 ∷ (num 3 ∷ (i.Bin bin.I32Sub ∷ [])))) 25 ≡ returns (Number 4294967295 ∷ [])
unfolding out-Instr denote.Hole.Carrier.out wrapped un_from un_to un_value bin_from bin_to bin_value load_to load_width loaded store_from stored
an_operation = refl

a_quotient_by_zero_traps : f_gives (gives (num 2 ∷ (num 0 ∷ (i.Bin bin.I32DivU ∷ [])))) 25 ≡ Linked ∷ (Trapped ∷ [])
unfolding out-Instr denote.Hole.Carrier.out wrapped un_from un_to un_value bin_from bin_to bin_value load_to load_width loaded store_from stored
a_quotient_by_zero_traps = refl

a_test : f_gives (gives (num 0 ∷ (i.Un un.I32Eqz ∷ []))) 25 ≡ returns (Number 1 ∷ [])
unfolding out-Instr denote.Hole.Carrier.out wrapped un_from un_to un_value bin_from bin_to bin_value load_to load_width loaded store_from stored
a_test = refl

locals_are_zero_and_set : f_gives (record empty { funcs = code' 0 (i.LocalGet 0 ∷ (num 4 ∷ (i.LocalTee 0 ∷ (i.Bin bin.I32Add ∷ (i.LocalGet 0 ∷ (i.Bin bin.I32Add ∷ [])))))) ∷ [] }) 25 ≡ returns (Number 8 ∷ [])
unfolding out-Instr denote.Hole.Carrier.out wrapped un_from un_to un_value bin_from bin_to bin_value load_to load_width loaded store_from stored
locals_are_zero_and_set = refl

an_argument : events (plain (record empty { funcs = code 1 (i.LocalGet 0 ∷ (num 1 ∷ (i.Bin bin.I32Add ∷ []))) ∷ [] })) [] (Call f (Number 7 ∷ []) ∷ []) 25 ≡ returns (Number 8 ∷ [])
unfolding out-Instr denote.Hole.Carrier.out wrapped un_from un_to un_value bin_from bin_to bin_value load_to load_width loaded store_from stored
an_argument = refl

an_argument_missing : events (plain (record empty { funcs = code 1 (i.LocalGet 0 ∷ []) ∷ [] })) [] (Call f [] ∷ []) 25 ≡ Linked ∷ (BadMove ∷ [])
unfolding out-Instr denote.Hole.Carrier.out wrapped un_from un_to un_value bin_from bin_to bin_value load_to load_width loaded store_from stored
an_argument_missing = refl

return_ends : f_gives (gives (num 5 ∷ (i.Return ∷ (num 6 ∷ [])))) 25 ≡ returns (Number 5 ∷ [])
unfolding out-Instr denote.Hole.Carrier.out wrapped un_from un_to un_value bin_from bin_to bin_value load_to load_width loaded store_from stored
return_ends = refl

references_are_null : f_gives (gives (i.RefNull reft.Extern ∷ (i.RefIsNull ∷ []))) 25 ≡ returns (Number 1 ∷ [])
unfolding out-Instr denote.Hole.Carrier.out wrapped un_from un_to un_value bin_from bin_to bin_value load_to load_width loaded store_from stored
references_are_null = refl

a_function_reference_is_not_null : f_gives (gives (i.RefFunc 0 ∷ (i.RefIsNull ∷ []))) 25 ≡ returns (Number 0 ∷ [])
unfolding out-Instr denote.Hole.Carrier.out wrapped un_from un_to un_value bin_from bin_to bin_value load_to load_width loaded store_from stored
a_function_reference_is_not_null = refl

a_call : f_gives (record empty { funcs = code 0 (num 3 ∷ (i.Call 1 ∷ [])) ∷ (code 1 (i.LocalGet 0 ∷ (num 1 ∷ (i.Bin bin.I32Add ∷ []))) ∷ []) }) 25 ≡ returns (Number 4 ∷ [])
unfolding out-Instr denote.Hole.Carrier.out wrapped un_from un_to un_value bin_from bin_to bin_value load_to load_width loaded store_from stored
a_call = refl

a_block : f_gives (gives (i.Block (bt.Value valt.I32) (num 5 ∷ []) ∷ [])) 8 ≡ returns (Number 5 ∷ [])
unfolding wrapped
a_block = simp (i.outs-Block, i.outs-I32Const) refl

a_branch_out_with_a_value : f_gives (gives (i.Block (bt.Value valt.I32) (num 5 ∷ (i.Br 0 ∷ (i.Unreachable ∷ []))) ∷ [])) 7 ≡ returns (Number 5 ∷ [])
unfolding wrapped
a_branch_out_with_a_value = simp (i.outs-Block, i.outs-I32Const, i.outs-Br) refl

a_branch_out_of_two : f_gives (gives (i.Block (bt.Value valt.I32) (i.Block bt.Empty (num 6 ∷ (i.Br 1 ∷ [])) ∷ (i.Unreachable ∷ [])) ∷ [])) 8 ≡ returns (Number 6 ∷ [])
unfolding wrapped
a_branch_out_of_two = simp (i.outs-Block, i.outs-I32Const, i.outs-Br) refl

a_branch_begins_a_loop_again : f_gives (gives (i.Loop bt.Empty (i.Br 0 ∷ []) ∷ (num 5 ∷ []))) 7 ≡ Linked ∷ []
unfolding wrapped
a_branch_begins_a_loop_again = simp (i.outs-Loop, i.outs-Br) refl

a_branch_out_of_a_loop : f_gives (gives (i.Block (bt.Value valt.I32) (i.Loop bt.Empty (num 5 ∷ (i.Br 1 ∷ [])) ∷ (i.Unreachable ∷ [])) ∷ [])) 8 ≡ returns (Number 5 ∷ [])
unfolding wrapped
a_branch_out_of_a_loop = simp (i.outs-Block, i.outs-Loop, i.outs-I32Const, i.outs-Br) refl

the_first_arm : f_gives (gives (num 1 ∷ (i.If (bt.Value valt.I32) (num 5 ∷ []) (num 6 ∷ []) ∷ []))) 8 ≡ returns (Number 5 ∷ [])
unfolding wrapped
the_first_arm = simp (i.outs-If, i.outs-I32Const) refl

the_second_arm : f_gives (gives (num 0 ∷ (i.If (bt.Value valt.I32) (num 5 ∷ []) (num 6 ∷ []) ∷ []))) 8 ≡ returns (Number 6 ∷ [])
unfolding wrapped
the_second_arm = simp (i.outs-If, i.outs-I32Const) refl

no_second_arm : f_gives (gives (num 7 ∷ (num 0 ∷ (i.If bt.Empty (i.Unreachable ∷ []) [] ∷ [])))) 9 ≡ returns (Number 7 ∷ [])
unfolding wrapped
no_second_arm = simp (i.outs-If, i.outs-I32Const) refl

a_table_of_branches : f_gives (gives (i.Block (bt.Value valt.I32) (i.Block (bt.Value valt.I32) (num 5 ∷ (num 1 ∷ (i.BrTable (0 ∷ []) 1 ∷ []))) ∷ (i.Unreachable ∷ [])) ∷ [])) 9 ≡ returns (Number 5 ∷ [])
unfolding wrapped
a_table_of_branches = simp (i.outs-Block, i.outs-I32Const, i.outs-BrTable) refl

a_call_through_a_table : f_gives (three (record empty { funcs = code 0 (num 9 ∷ (num 1 ∷ (i.CallIndirect 1 0 ∷ []))) ∷ (code 1 (i.LocalGet 0 ∷ []) ∷ []); elems = record { mode = elem.Active 0 (const.I32 (pos 1)); ty = reft.Func; items = const.Func 1 ∷ [] } ∷ [] })) 25 ≡ returns (Number 9 ∷ [])
unfolding out-Instr denote.Hole.Carrier.out wrapped un_from un_to un_value bin_from bin_to bin_value load_to load_width loaded store_from stored
a_call_through_a_table = refl

a_call_past_the_table_traps : f_gives (three (record empty { funcs = code 0 (num 9 ∷ (num 3 ∷ (i.CallIndirect 1 0 ∷ []))) ∷ (code 1 (i.LocalGet 0 ∷ []) ∷ []); elems = record { mode = elem.Active 0 (const.I32 (pos 1)); ty = reft.Func; items = const.Func 1 ∷ [] } ∷ [] })) 25 ≡ Linked ∷ (Trapped ∷ [])
unfolding out-Instr denote.Hole.Carrier.out wrapped un_from un_to un_value bin_from bin_to bin_value load_to load_width loaded store_from stored
a_call_past_the_table_traps = refl

a_call_of_null_traps : f_gives (three (record empty { funcs = code 0 (num 9 ∷ (num 0 ∷ (i.CallIndirect 1 0 ∷ []))) ∷ (code 1 (i.LocalGet 0 ∷ []) ∷ []); elems = record { mode = elem.Active 0 (const.I32 (pos 1)); ty = reft.Func; items = const.Func 1 ∷ [] } ∷ [] })) 25 ≡ Linked ∷ (Trapped ∷ [])
unfolding out-Instr denote.Hole.Carrier.out wrapped un_from un_to un_value bin_from bin_to bin_value load_to load_width loaded store_from stored
a_call_of_null_traps = refl

a_call_of_another_type_traps : f_gives (three (record empty { funcs = code 0 (num 1 ∷ (i.CallIndirect 0 0 ∷ [])) ∷ (code 1 (i.LocalGet 0 ∷ []) ∷ []); elems = record { mode = elem.Active 0 (const.I32 (pos 1)); ty = reft.Func; items = const.Func 1 ∷ [] } ∷ [] })) 25 ≡ Linked ∷ (Trapped ∷ [])
unfolding out-Instr denote.Hole.Carrier.out wrapped un_from un_to un_value bin_from bin_to bin_value load_to load_width loaded store_from stored
a_call_of_another_type_traps = refl

table_size : f_gives (three (record empty { funcs = code 0 (i.TableSize 0 ∷ []) ∷ (code 1 (i.LocalGet 0 ∷ []) ∷ []); elems = record { mode = elem.Active 0 (const.I32 (pos 1)); ty = reft.Func; items = const.Func 1 ∷ [] } ∷ [] })) 25 ≡ returns (Number 3 ∷ [])
unfolding out-Instr denote.Hole.Carrier.out wrapped un_from un_to un_value bin_from bin_to bin_value load_to load_width loaded store_from stored
table_size = refl

table_get_the_last : f_gives (three (record empty { funcs = code 0 (num 2 ∷ (i.TableGet 0 ∷ (i.RefIsNull ∷ []))) ∷ (code 1 (i.LocalGet 0 ∷ []) ∷ []); elems = record { mode = elem.Active 0 (const.I32 (pos 1)); ty = reft.Func; items = const.Func 1 ∷ [] } ∷ [] })) 25 ≡ returns (Number 1 ∷ [])
unfolding out-Instr denote.Hole.Carrier.out wrapped un_from un_to un_value bin_from bin_to bin_value load_to load_width loaded store_from stored
table_get_the_last = refl

table_get_past_the_end_traps : f_gives (three (record empty { funcs = code 0 (num 3 ∷ (i.TableGet 0 ∷ (i.RefIsNull ∷ []))) ∷ (code 1 (i.LocalGet 0 ∷ []) ∷ []); elems = record { mode = elem.Active 0 (const.I32 (pos 1)); ty = reft.Func; items = const.Func 1 ∷ [] } ∷ [] })) 25 ≡ Linked ∷ (Trapped ∷ [])
unfolding out-Instr denote.Hole.Carrier.out wrapped un_from un_to un_value bin_from bin_to bin_value load_to load_width loaded store_from stored
table_get_past_the_end_traps = refl

table_set : f_gives (three (record empty { funcs = code 0 (num 2 ∷ (i.RefFunc 0 ∷ (i.TableSet 0 ∷ (num 2 ∷ (i.TableGet 0 ∷ (i.RefIsNull ∷ [])))))) ∷ (code 1 (i.LocalGet 0 ∷ []) ∷ []); elems = record { mode = elem.Active 0 (const.I32 (pos 1)); ty = reft.Func; items = const.Func 1 ∷ [] } ∷ [] })) 25
    ≡ returns (Number 0 ∷ [])
unfolding out-Instr denote.Hole.Carrier.out wrapped un_from un_to un_value bin_from bin_to bin_value load_to load_width loaded store_from stored
table_set = refl

table_set_past_the_end_traps : f_gives (three (record empty { funcs = code 0 (num 3 ∷ (i.RefFunc 0 ∷ (i.TableSet 0 ∷ (num 0 ∷ [])))) ∷ (code 1 (i.LocalGet 0 ∷ []) ∷ []); elems = record { mode = elem.Active 0 (const.I32 (pos 1)); ty = reft.Func; items = const.Func 1 ∷ [] } ∷ [] })) 25 ≡ Linked ∷
    (Trapped ∷ [])
unfolding out-Instr denote.Hole.Carrier.out wrapped un_from un_to un_value bin_from bin_to bin_value load_to load_width loaded store_from stored
table_set_past_the_end_traps = refl

table_fill_to_the_end : f_gives (three (record empty {
  funcs = code 0 (num 1 ∷ (i.RefFunc 0 ∷ (num 2 ∷ (i.TableFill 0 ∷ (num 2 ∷ (i.TableGet 0 ∷ (i.RefIsNull ∷ []))))))) ∷ (code 1 (i.LocalGet 0 ∷ []) ∷ []);
  elems =
      record { mode = elem.Active 0 (const.I32 (pos 1)); ty = reft.Func; items = const.Func 1 ∷ [] } ∷ [];
})) 25 ≡ returns (Number 0 ∷ [])
unfolding out-Instr denote.Hole.Carrier.out wrapped un_from un_to un_value bin_from bin_to bin_value load_to load_width loaded store_from stored
table_fill_to_the_end = refl

table_fill_past_the_end_traps : f_gives (three (record empty { funcs = code 0 (num 2 ∷ (i.RefFunc 0 ∷ (num 2 ∷ (i.TableFill 0 ∷ (num 0 ∷ []))))) ∷ (code 1 (i.LocalGet 0 ∷ []) ∷ []); elems = record { mode = elem.Active 0 (const.I32 (pos 1)); ty = reft.Func; items = const.Func 1 ∷ [] } ∷ [] })) 25 ≡
    Linked ∷ (Trapped ∷ [])
unfolding out-Instr denote.Hole.Carrier.out wrapped un_from un_to un_value bin_from bin_to bin_value load_to load_width loaded store_from stored
table_fill_past_the_end_traps = refl

table_copy_that_overlaps : f_gives (three (record empty {
  funcs = code 0 (num 2 ∷ (num 1 ∷ (num 1 ∷ (i.TableCopy 0 0 ∷ (num 2 ∷ (i.TableGet 0 ∷ (i.RefIsNull ∷ []))))))) ∷ (code 1 (i.LocalGet 0 ∷ []) ∷ []);
  elems =
      record { mode = elem.Active 0 (const.I32 (pos 1)); ty = reft.Func; items = const.Func 1 ∷ [] } ∷ [];
})) 25 ≡ returns (Number 0 ∷ [])
unfolding out-Instr denote.Hole.Carrier.out wrapped un_from un_to un_value bin_from bin_to bin_value load_to load_width loaded store_from stored
table_copy_that_overlaps = refl

table_init_of_a_dropped_segment_traps : f_gives (three (record empty { funcs = code 0 (num 0 ∷ (num 0 ∷ (num 1 ∷ (i.TableInit 0 0 ∷ (num 0 ∷ []))))) ∷ (code 1 (i.LocalGet 0 ∷ []) ∷ []); elems = record { mode = elem.Active 0 (const.I32 (pos 1)); ty = reft.Func; items = const.Func 1 ∷ [] } ∷ [] }))
    25 ≡ Linked ∷ (Trapped ∷ [])
unfolding out-Instr denote.Hole.Carrier.out wrapped un_from un_to un_value bin_from bin_to bin_value load_to load_width loaded store_from stored
table_init_of_a_dropped_segment_traps = refl

table_init_of_nothing : f_gives (three (record empty { funcs = code 0 (num 0 ∷ (num 0 ∷ (num 0 ∷ (i.TableInit 0 0 ∷ (num 4 ∷ []))))) ∷ (code 1 (i.LocalGet 0 ∷ []) ∷ []); elems = record { mode = elem.Active 0 (const.I32 (pos 1)); ty = reft.Func; items = const.Func 1 ∷ [] } ∷ [] })) 25 ≡
    returns (Number 4 ∷ [])
unfolding out-Instr denote.Hole.Carrier.out wrapped un_from un_to un_value bin_from bin_to bin_value load_to load_width loaded store_from stored
table_init_of_nothing = refl

table_grow_granted : events (plain (three (record empty { funcs = code 0 (i.RefNull reft.Func ∷ (num 1 ∷ (i.TableGrow 0 ∷ []))) ∷ (code 1 (i.LocalGet 0 ∷ []) ∷ []); elems = record { mode = elem.Active 0 (const.I32 (pos 1)); ty = reft.Func; items = const.Func 1 ∷ [] } ∷ [] }))) []
    (Call f [] ∷ (Grant ∷ [])) 25 ≡ Linked ∷ (GrowAsked Tables 3 1 ∷ (Returned (Number 3 ∷ []) ∷ []))
unfolding out-Instr denote.Hole.Carrier.out wrapped un_from un_to un_value bin_from bin_to bin_value load_to load_width loaded store_from stored
table_grow_granted = refl

table_grow_past_the_maximum : f_gives (three (record empty { funcs = code 0 (i.RefNull reft.Func ∷ (num 2 ∷ (i.TableGrow 0 ∷ []))) ∷ (code 1 (i.LocalGet 0 ∷ []) ∷ []); elems = record { mode = elem.Active 0 (const.I32 (pos 1)); ty = reft.Func; items = const.Func 1 ∷ [] } ∷ [] })) 25 ≡
    returns (Number 4294967295 ∷ [])
unfolding out-Instr denote.Hole.Carrier.out wrapped un_from un_to un_value bin_from bin_to bin_value load_to load_width loaded store_from stored
table_grow_past_the_maximum = refl

a_load_at_the_last_bound : f_gives (page (gives (num 65532 ∷ (num 77 ∷ (i.Store store.I32Store (record { align = 0; offset = 0; memory = 0 }) ∷ (num 65532 ∷ (i.Load load.I32Load (record { align = 0; offset = 0; memory = 0 }) ∷ []))))))) 25 ≡ returns (Number 77 ∷ [])
unfolding out-Instr denote.Hole.Carrier.out wrapped un_from un_to un_value bin_from bin_to bin_value load_to load_width loaded store_from stored
a_load_at_the_last_bound = refl

a_load_past_the_bound_traps : f_gives (page (gives (num 65533 ∷ (i.Load load.I32Load (record { align = 0; offset = 0; memory = 0 }) ∷ [])))) 25 ≡ Linked ∷ (Trapped ∷ [])
unfolding out-Instr denote.Hole.Carrier.out wrapped un_from un_to un_value bin_from bin_to bin_value load_to load_width loaded store_from stored
a_load_past_the_bound_traps = refl

a_store_past_the_bound_traps : f_gives (page (gives (num 65533 ∷ (num 1 ∷ (i.Store store.I32Store (record { align = 0; offset = 0; memory = 0 }) ∷ (num 1 ∷ [])))))) 25 ≡ Linked ∷ (Trapped ∷ [])
unfolding out-Instr denote.Hole.Carrier.out wrapped un_from un_to un_value bin_from bin_to bin_value load_to load_width loaded store_from stored
a_store_past_the_bound_traps = refl

an_offset_does_not_wrap : f_gives (page (gives (i.I32Const (negsuc 0) ∷ (i.Load load.I32Load8U (record { align = 0; offset = 1; memory = 0 }) ∷ [])))) 25 ≡ Linked ∷ (Trapped ∷ [])
unfolding out-Instr denote.Hole.Carrier.out wrapped un_from un_to un_value bin_from bin_to bin_value load_to load_width loaded store_from stored
an_offset_does_not_wrap = refl

a_load_copies_the_sign : f_gives (page (gives (num 0 ∷ (num 128 ∷ (i.Store store.I32Store8 (record { align = 0; offset = 0; memory = 0 }) ∷ (num 0 ∷ (i.Load load.I32Load8S (record { align = 0; offset = 0; memory = 0 }) ∷ []))))))) 25 ≡ returns (Number 4294967168 ∷ [])
unfolding out-Instr denote.Hole.Carrier.out wrapped un_from un_to un_value bin_from bin_to bin_value load_to load_width loaded store_from stored
a_load_copies_the_sign = refl

bytes_are_little_endian : f_gives (page (gives (num 0 ∷ (num 258 ∷ (i.Store store.I32Store (record { align = 0; offset = 0; memory = 0 }) ∷ (num 1 ∷ (i.Load load.I32Load8U (record { align = 0; offset = 0; memory = 0 }) ∷ []))))))) 25 ≡ returns (Number 1 ∷ [])
unfolding out-Instr denote.Hole.Carrier.out wrapped un_from un_to un_value bin_from bin_to bin_value load_to load_width loaded store_from stored
bytes_are_little_endian = refl

memory_size : f_gives (page (gives (i.MemorySize 0 ∷ []))) 25 ≡ returns (Number 1 ∷ [])
unfolding out-Instr denote.Hole.Carrier.out wrapped un_from un_to un_value bin_from bin_to bin_value load_to load_width loaded store_from stored
memory_size = refl

memory_grow_granted : events (plain (page (gives (num 1 ∷ (i.MemoryGrow 0 ∷ []))))) [] (Call f [] ∷ (Grant ∷ [])) 25 ≡ Linked ∷ (GrowAsked Memories 1 1 ∷ (Returned (Number 1 ∷ []) ∷ []))
unfolding out-Instr denote.Hole.Carrier.out wrapped un_from un_to un_value bin_from bin_to bin_value load_to load_width loaded store_from stored
memory_grow_granted = refl

memory_grow_denied : events (plain (page (gives (num 1 ∷ (i.MemoryGrow 0 ∷ []))))) [] (Call f [] ∷ (Deny ∷ [])) 25 ≡ Linked ∷ (GrowAsked Memories 1 1 ∷ (Returned (Number 4294967295 ∷ []) ∷ []))
unfolding out-Instr denote.Hole.Carrier.out wrapped un_from un_to un_value bin_from bin_to bin_value load_to load_width loaded store_from stored
memory_grow_denied = refl

memory_grow_past_the_maximum : f_gives (page (gives (num 2 ∷ (i.MemoryGrow 0 ∷ [])))) 25 ≡ returns (Number 4294967295 ∷ [])
unfolding out-Instr denote.Hole.Carrier.out wrapped un_from un_to un_value bin_from bin_to bin_value load_to load_width loaded store_from stored
memory_grow_past_the_maximum = refl

a_growth_takes_no_other_move : events (plain (page (gives (num 0 ∷ (i.MemoryGrow 0 ∷ []))))) [] (Call f [] ∷ (Take f ∷ (Deny ∷ []))) 25 ≡ Linked ∷ (GrowAsked Memories 1 0 ∷ (BadMove ∷ (Returned (Number 4294967295 ∷ []) ∷ [])))
unfolding out-Instr denote.Hole.Carrier.out wrapped un_from un_to un_value bin_from bin_to bin_value load_to load_width loaded store_from stored
a_growth_takes_no_other_move = refl

memory_fill_to_the_end : f_gives (page (gives (num 65535 ∷ (num 7 ∷ (num 1 ∷ (i.MemoryFill 0 ∷ (num 65535 ∷ (i.Load load.I32Load8U (record { align = 0; offset = 0; memory = 0 }) ∷ [])))))))) 25 ≡ returns (Number 7 ∷ [])
unfolding out-Instr denote.Hole.Carrier.out wrapped un_from un_to un_value bin_from bin_to bin_value load_to load_width loaded store_from stored
memory_fill_to_the_end = refl

memory_fill_past_the_end_traps : f_gives (page (gives (num 65535 ∷ (num 7 ∷ (num 2 ∷ (i.MemoryFill 0 ∷ (num 0 ∷ []))))))) 25 ≡ Linked ∷ (Trapped ∷ [])
unfolding out-Instr denote.Hole.Carrier.out wrapped un_from un_to un_value bin_from bin_to bin_value load_to load_width loaded store_from stored
memory_fill_past_the_end_traps = refl

memory_fill_of_nothing_at_the_end : f_gives (page (gives (num 65536 ∷ (num 7 ∷ (num 0 ∷ (i.MemoryFill 0 ∷ (num 3 ∷ []))))))) 25 ≡ returns (Number 3 ∷ [])
unfolding out-Instr denote.Hole.Carrier.out wrapped un_from un_to un_value bin_from bin_to bin_value load_to load_width loaded store_from stored
memory_fill_of_nothing_at_the_end = refl

memory_copy_that_overlaps : f_gives (record (page (gives (num 1 ∷ (num 0 ∷ (num 3 ∷ (i.MemoryCopy 0 0 ∷ (num 3 ∷ (i.Load load.I32Load8U (record { align = 0; offset = 0; memory = 0 }) ∷ [])))))))) { datas = record { mode = data'.Active 0 (const.I32 (pos 0)); bytes = 5 ∷ (6 ∷ (7 ∷ [])) } ∷ [] }) 25 ≡
    returns (Number 7 ∷ [])
unfolding out-Instr denote.Hole.Carrier.out wrapped un_from un_to un_value bin_from bin_to bin_value load_to load_width loaded store_from stored
memory_copy_that_overlaps = refl

memory_init : f_gives (record (page (gives (num 10 ∷ (num 1 ∷ (num 2 ∷ (i.MemoryInit 0 0 ∷ (num 11 ∷ (i.Load load.I32Load8U (record { align = 0; offset = 0; memory = 0 }) ∷ [])))))))) { datas = record { mode = data'.Passive; bytes = 5 ∷ (6 ∷ (7 ∷ [])) } ∷ [] }) 25 ≡ returns (Number 7 ∷ [])
unfolding out-Instr denote.Hole.Carrier.out wrapped un_from un_to un_value bin_from bin_to bin_value load_to load_width loaded store_from stored
memory_init = refl

memory_init_past_the_segment_traps : f_gives (record (page (gives (num 10 ∷ (num 2 ∷ (num 2 ∷ (i.MemoryInit 0 0 ∷ (num 0 ∷ []))))))) { datas = record { mode = data'.Passive; bytes = 5 ∷ (6 ∷ (7 ∷ [])) } ∷ [] }) 25 ≡ Linked ∷ (Trapped ∷ [])
unfolding out-Instr denote.Hole.Carrier.out wrapped un_from un_to un_value bin_from bin_to bin_value load_to load_width loaded store_from stored
memory_init_past_the_segment_traps = refl

memory_init_of_a_dropped_segment_traps : f_gives (record (page (gives (i.DataDrop 0 ∷ (num 0 ∷ (num 0 ∷ (num 1 ∷ (i.MemoryInit 0 0 ∷ (num 0 ∷ [])))))))) { datas = record { mode = data'.Passive; bytes = 5 ∷ (6 ∷ (7 ∷ [])) } ∷ [] }) 25 ≡ Linked ∷ (Trapped ∷ [])
unfolding out-Instr denote.Hole.Carrier.out wrapped un_from un_to un_value bin_from bin_to bin_value load_to load_width loaded store_from stored
memory_init_of_a_dropped_segment_traps = refl

memory_init_of_nothing_dropped : f_gives (record (page (gives (i.DataDrop 0 ∷ (num 0 ∷ (num 0 ∷ (num 0 ∷ (i.MemoryInit 0 0 ∷ (num 2 ∷ [])))))))) { datas = record { mode = data'.Passive; bytes = 5 ∷ (6 ∷ (7 ∷ [])) } ∷ [] }) 25 ≡ returns (Number 2 ∷ [])
unfolding out-Instr denote.Hole.Carrier.out wrapped un_from un_to un_value bin_from bin_to bin_value load_to load_width loaded store_from stored
memory_init_of_nothing_dropped = refl

an_import_is_asked_and_answered : events calling own (Call f [] ∷ (Answer (Number 4 ∷ []) ∷ [])) 25 ≡ Linked ∷ (Asked (e, g) to_i32 [] ∷ (Returned (Number 5 ∷ []) ∷ []))
unfolding out-Instr denote.Hole.Carrier.out wrapped un_from un_to un_value bin_from bin_to bin_value load_to load_width loaded store_from stored
an_import_is_asked_and_answered = refl

an_answer_of_another_type_is_not_taken : events calling own (Call f [] ∷ (Answer (Null ∷ []) ∷ (Answer (Number 4 ∷ []) ∷ []))) 25 ≡ Linked ∷ (Asked (e, g) to_i32 [] ∷ (BadMove ∷ (Returned (Number 5 ∷ []) ∷ [])))
unfolding out-Instr denote.Hole.Carrier.out wrapped un_from un_to un_value bin_from bin_to bin_value load_to load_width loaded store_from stored
an_answer_of_another_type_is_not_taken = refl

the_embedder_calls_back : events calling own (Call f [] ∷ (Call f [] ∷ (Answer (Number 4 ∷ []) ∷ (Answer (Number 8 ∷ []) ∷ [])))) 40 ≡ Linked ∷ (Asked (e, g) to_i32 [] ∷ (Asked (e, g) to_i32 [] ∷ (Returned (Number 5 ∷ []) ∷ (Returned (Number 9 ∷ []) ∷ []))))
unfolding out-Instr denote.Hole.Carrier.out wrapped un_from un_to un_value bin_from bin_to bin_value load_to load_width loaded store_from stored
the_embedder_calls_back = refl

a_refusal_traps_to_the_nearest_mark : events calling own (Call f [] ∷ (Call f [] ∷ (Refuse ∷ (Answer (Number 8 ∷ []) ∷ [])))) 40 ≡ Linked ∷ (Asked (e, g) to_i32 [] ∷ (Asked (e, g) to_i32 [] ∷ (Trapped ∷ (Returned (Number 9 ∷ []) ∷ []))))
unfolding out-Instr denote.Hole.Carrier.out wrapped un_from un_to un_value bin_from bin_to bin_value load_to load_width loaded store_from stored
a_refusal_traps_to_the_nearest_mark = refl

no_import_is_offered : events calling [] [] 25 ≡ LinkFault ∷ []
unfolding out-Instr denote.Hole.Carrier.out wrapped un_from un_to un_value bin_from bin_to bin_value load_to load_width loaded store_from stored
no_import_is_offered = refl

a_closed_world_takes_no_call : events calling [] (Call f [] ∷ []) 25 ≡ LinkFault ∷ (BadMove ∷ [])
unfolding out-Instr denote.Hole.Carrier.out wrapped un_from un_to un_value bin_from bin_to bin_value load_to load_width loaded store_from stored
a_closed_world_takes_no_call = refl

an_unknown_name_is_not_taken : events (plain (gives (num 5 ∷ []))) [] (Call g [] ∷ (Call f [] ∷ [])) 25 ≡ Linked ∷ (BadMove ∷ (Returned (Number 5 ∷ []) ∷ []))
unfolding out-Instr denote.Hole.Carrier.out wrapped un_from un_to un_value bin_from bin_to bin_value load_to load_width loaded store_from stored
an_unknown_name_is_not_taken = refl

a_function_is_shown_by_its_number : events (plain (gives (num 5 ∷ []))) [] (Take f ∷ (Take f ∷ (Invoke 0 [] ∷ []))) 25 ≡ Linked ∷ (Got (Function 0) ∷ (Got (Function 0) ∷ (Returned (Number 5 ∷ []) ∷ [])))
unfolding out-Instr denote.Hole.Carrier.out wrapped un_from un_to un_value bin_from bin_to bin_value load_to load_width loaded store_from stored
a_function_is_shown_by_its_number = refl

a_start_that_traps : events (plain (record empty { funcs = code 2 (i.Unreachable ∷ []) ∷ []; start = Some 0 })) [] (Call f [] ∷ []) 25 ≡ InstanceTrapped ∷ (BadMove ∷ [])
unfolding out-Instr denote.Hole.Carrier.out wrapped un_from un_to un_value bin_from bin_to bin_value load_to load_width loaded store_from stored
a_start_that_traps = refl

a_start_comes_before_the_view : events (alone (record (page (gives (num 0 ∷ (i.Load load.I32Load8U (record { align = 0; offset = 0; memory = 0 }) ∷ []))))
    { funcs = code 0 (num 0 ∷ (i.Load load.I32Load8U (record { align = 0; offset = 0; memory = 0 }) ∷ [])) ∷ (code 2 (num 0 ∷ (num 9 ∷ (i.Store store.I32Store8 (record { align = 0; offset = 0; memory = 0 }) ∷ []))) ∷ []); start = Some 1 })) []
    (Call f [] ∷ (Get (Named m) 0 ∷ (Size (Named m) ∷ (Set (Named m) 0 (Number 256) ∷ (Set (Named m) 0 (Number 255) ∷ (Get (Named m) 0 ∷ [])))))) 40 ≡ Linked ∷ (Returned (Number 9 ∷ []) ∷ (Got (Number 9) ∷ (Got (Number 1) ∷ (BadMove ∷ (Done ∷ (Got (Number 255) ∷ []))))))
unfolding out-Instr denote.Hole.Carrier.out wrapped un_from un_to un_value bin_from bin_to bin_value load_to load_width loaded store_from stored
a_start_comes_before_the_view = refl

a_segment_out_of_bounds : events (plain (record (page (gives (num 1 ∷ []))) { datas = record { mode = data'.Active 0 (const.I32 (pos 65535)); bytes = 1 ∷ (2 ∷ []) } ∷ [] })) [] [] 25 ≡ InstanceTrapped ∷ []
unfolding out-Instr denote.Hole.Carrier.out wrapped un_from un_to un_value bin_from bin_to bin_value load_to load_width loaded store_from stored
a_segment_out_of_bounds = refl

two_parts_by_name : events (two giver) [] (Call f [] ∷ []) 25 ≡ returns (Number 43 ∷ [])
unfolding out-Instr denote.Hole.Carrier.out wrapped un_from un_to un_value bin_from bin_to bin_value load_to load_width loaded store_from stored
two_parts_by_name = refl

a_part_that_exports_another_type : events (two (record giver { funcs = code 1 (i.LocalGet 0 ∷ []) ∷ [] })) [] [] 25 ≡ LinkFault ∷ []
unfolding out-Instr denote.Hole.Carrier.out wrapped un_from un_to un_value bin_from bin_to bin_value load_to load_width loaded store_from stored
a_part_that_exports_another_type = refl

a_part_that_exports_another_kind : events (two (record giver { exports = record { name = f; desc = ex.Global 0 } ∷ (record { name = g; desc = ex.Global 0 } ∷ []) })) [] [] 25 ≡ LinkFault ∷ []
unfolding out-Instr denote.Hole.Carrier.out wrapped un_from un_to un_value bin_from bin_to bin_value load_to load_width loaded store_from stored
a_part_that_exports_another_kind = refl

a_part_whose_global_is_mutable : events (two (record giver { globals = record { ty = record { ty = i32; mutable = true }; init = const.I32 (pos 40) } ∷ [] })) [] [] 25 ≡ LinkFault ∷ []
unfolding out-Instr denote.Hole.Carrier.out wrapped un_from un_to un_value bin_from bin_to bin_value load_to load_width loaded store_from stored
a_part_whose_global_is_mutable = refl

imports_without_an_end : events (record { parts = record { name = Some a; «module» = record empty { imports = record { «module» = a; field = f; desc = im.Func 0 } ∷ []; exports = record { name = f; desc = ex.Func 0 } ∷ [] } } ∷ []; view = [] }) [] [] 25 ≡ LinkFault ∷ []
unfolding out-Instr denote.Hole.Carrier.out wrapped un_from un_to un_value bin_from bin_to bin_value load_to load_width loaded store_from stored
imports_without_an_end = refl

own_entities_stay_after_a_link_fault : events calling (record { pair = (e, m); funcs = []; table = None; memory = None; global = Some (record { ty = record { ty = i32; mutable = true }; value = Number 3 }) } ∷ [])
    (Get (GlobalOf (e, m)) 0 ∷ (Set (GlobalOf (e, m)) 0 (Number 4) ∷ (Get (GlobalOf (e, m)) 0 ∷ []))) 25 ≡ LinkFault ∷ (Got (Number 3) ∷ (Done ∷ (Got (Number 4) ∷ [])))
unfolding out-Instr denote.Hole.Carrier.out wrapped un_from un_to un_value bin_from bin_to bin_value load_to load_width loaded store_from stored
own_entities_stay_after_a_link_fault = refl

a_memory_of_the_right_size : events (plain (record (gives (num 1 ∷ [])) { imports = record { «module» = e; field = m; desc = im.Memory (record { min = 0; max = Some 3 }) } ∷ [] }))
    (record { pair = (e, m); funcs = []; table = None; memory = Some (record { limits = record { min = 0; max = Some 3 }; pages = 0; bytes = [] }); global = None } ∷ []) (Call f [] ∷ (Size (MemoryOf (e, m)) ∷ (Get (MemoryOf (e, m)) 0 ∷ []))) 25 ≡ Linked ∷
    (Returned (Number 1 ∷ []) ∷ (Got (Number 0) ∷ (BadMove ∷ [])))
unfolding out-Instr denote.Hole.Carrier.out wrapped un_from un_to un_value bin_from bin_to bin_value load_to load_width loaded store_from stored
a_memory_of_the_right_size = refl

a_memory_that_is_too_small : events (plain (record (gives (num 1 ∷ [])) { imports = record { «module» = e; field = m; desc = im.Memory (record { min = 1; max = None }) } ∷ [] }))
    (record { pair = (e, m); funcs = []; table = None; memory = Some (record { limits = record { min = 0; max = Some 3 }; pages = 0; bytes = [] }); global = None } ∷ []) [] 25 ≡ LinkFault ∷ []
unfolding out-Instr denote.Hole.Carrier.out wrapped un_from un_to un_value bin_from bin_to bin_value load_to load_width loaded store_from stored
a_memory_that_is_too_small = refl

a_memory_that_may_grow_too_far : events (plain (record (gives (num 1 ∷ [])) { imports = record { «module» = e; field = m; desc = im.Memory (record { min = 0; max = Some 2 }) } ∷ [] }))
    (record { pair = (e, m); funcs = []; table = None; memory = Some (record { limits = record { min = 0; max = Some 3 }; pages = 0; bytes = [] }); global = None } ∷ []) [] 25 ≡ LinkFault ∷ []
unfolding out-Instr denote.Hole.Carrier.out wrapped un_from un_to un_value bin_from bin_to bin_value load_to load_width loaded store_from stored
a_memory_that_may_grow_too_far = refl

a_module_as_a_linker_leaves_it : events its_view logging (Call f (Number 21 ∷ []) ∷ (Answer [] ∷ [])) 40 ≡ Linked ∷ (Asked (env, log) to_nothing (Number 21 ∷ []) ∷ (Returned (Number 42 ∷ []) ∷ []))
unfolding out-Instr denote.Hole.Carrier.out wrapped un_from un_to un_value bin_from bin_to bin_value load_to load_width loaded store_from stored
a_module_as_a_linker_leaves_it = refl

its_constructors_store : events its_view logging (Call g [] ∷ (Get (Named m) 1028 ∷ (Get (Named m) 1024 ∷ []))) 40 ≡ Linked ∷ (Returned [] ∷ (Got (Number 42) ∷ (Got (Number 104) ∷ [])))
unfolding out-Instr denote.Hole.Carrier.out wrapped un_from un_to un_value bin_from bin_to bin_value load_to load_width loaded store_from stored
its_constructors_store = refl
