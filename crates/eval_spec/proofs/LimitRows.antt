-- The limits of turns, depth and written blocks: their numbers, and states that are one step away
-- from them.
use Rattle.base_lists.proofs.Common.{◌≡◌, refl, ℕ, pos, List, [], ◌∷◌, Some, None, Bool, true, false, replicate, ◌++◌, Option}
use Rattle.wasm_tree.specs.declared.types.BlockType.TheVariants as bt
use Rattle.wasm_tree.specs.declared.types.RefType.TheVariants.{Func as func_ref}
use Rattle.wasm_tree_spec.specs.Prelude.{Instr, I32Store8, I32}
use Rattle.wasm_tree.specs.declared.instr.Instr.{out-Instr}
use Rattle.wasm_tree.specs.declared.instr.Instr.TheOpen.{Instr-F}
use Rattle.wasm_tree.specs.declared.instr.Instr.TheVariants as i
use Rattle.wasm_tree.specs.declared.module.ConstExpr.TheVariants as const
use Rattle.wasm_num.specs.Operations.{W32, wrapped}
use Rattle.wasm_meaning.specs.Prelude.{Gives, Inst, Func, Code, FuncRef, Val, Num, Entry, Running, Env, Bytes}
use Rattle.wasm_meaning.specs.Access.{store_from, stored, little_bytes}
use Rattle.eval_spec.specs.declared.stop.Stop.{Stop}
use Rattle.eval_spec.specs.declared.limits.TheConstants.{MOST_TURNS, MOST_DEPTH, MOST_BLOCKS}
use Rattle.eval_spec.specs.declared.stop.Stop.TheVariants as why
use Rattle.eval_spec.specs.Prelude.{State, stop_of, further_turns, written_after, too_many_blocks, own_inst, imported_store, unknown_at_first, with_data}
use Rattle.eval_spec.specs.Stops.{stop}
use Rattle.eval_spec.proofs.Modules.{does, with_page, after_import, data_at}

the_turns : MOST_TURNS ≡ 50000000
the_turns = refl

the_depth : MOST_DEPTH ≡ 1000
the_depth = refl

the_blocks : MOST_BLOCKS ≡ 16384
the_blocks = refl

-- ---- turns: after four turns a fill of 3,199,999,807 bytes takes all others ----

abbrev env : Env
env = record { store = imported_store (with_page (does [])); inst = own_inst (with_page (does [])) }

abbrev filling : ℕ → List Val
filling n = Num W32 n ∷ Num W32 0 ∷ Num W32 0 ∷ []

all_that_are_left : further_turns (Instr-F.MemoryFill 0) env (filling 3199999807) ≡ 49999996
all_that_are_left = refl

one_more : further_turns (Instr-F.MemoryFill 0) env (filling 3199999808) ≡ 49999997
one_more = refl

a_copy : further_turns (Instr-F.MemoryCopy 0 0) env (filling 640) ≡ 10
a_copy = refl

an_init : further_turns (Instr-F.MemoryInit 0 0) env (filling 639) ≡ 9
an_init = refl

-- ---- blocks: 2 ^ 26 bytes are 16,384 of them ----

abbrev none : List Bool
none = replicate 16400 false

all_blocks : too_many_blocks (written_after none (Gives (Bytes 0 0 67108864))) ≡ false
all_blocks = refl

one_block_more : too_many_blocks (written_after none (Gives (Bytes 0 0 67108865))) ≡ true
one_block_more = refl

-- Blocks are counted one by one: a write that lies in two blocks writes both.
two_blocks : written_after (replicate 3 false) (Gives (Bytes 0 4095 2)) ≡ true ∷ true ∷ false ∷ []
two_blocks = refl

no_block : written_after (replicate 3 false) (Gives (Bytes 0 4095 0)) ≡ replicate 3 false
no_block = refl

-- ---- a step ----

-- Function 0 is imported, 1 declares no local and 2 declares 64.
abbrev inst : Inst
inst = record (own_inst (after_import 0 [])) { tables = 0 ∷ []; mems = 0 ∷ []; funcs = 0 ∷ 1 ∷ 2 ∷ [] }

abbrev with_locals : ℕ → Func
with_locals n = Code (record { params = []; results = [] }) inst (replicate n I32) []

-- A state with a table of functions 1 and 2, a memory of 128 bytes, one turn left and these blocks
-- written.
abbrev state : List Bool → State
state written = record {
  store = record (imported_store (after_import 0 [])) {
    funcs = (imported_store (after_import 0 [])).funcs ++ with_locals 0 ∷ with_locals 64 ∷ [];
    tables = record { ty = func_ref; most = None; slots = FuncRef (Some 1) ∷ FuncRef (Some 2) ∷ [] } ∷ [];
    mems = record { most = None; pages = 1; bytes = replicate 128 0 } ∷ [];
  };
  unknown = unknown_at_first (does []);
  written = written;
  turns = 1;
}

-- A frame of `n + 1` levels, of which the innermost has this code and these values.
abbrev frame : ℕ → List Val → List Instr → Entry
frame n vs code = Running (record {
  inst = inst;
  locals = [];
  results = [];
  levels = record { values = vs; code = code; gives = 0; takes = 0; back = [] } ∷ replicate n (record { values = []; code = []; gives = 0; takes = 0; back = [] });
})

abbrev stores_a_byte : Entry
stores_a_byte = frame 0 (Num W32 1 ∷ Num W32 0 ∷ []) (i.Store I32Store8 (record { align = 0; offset = 0; memory = 0 }) ∷ [])

a_block_too_many : stop (after_import 0 []) (state (false ∷ replicate 16384 true)) (stores_a_byte ∷ []) ≡ Some why.Memory
unfolding out-Instr denote.Hole.Carrier.out store_from stored little_bytes
a_block_too_many = refl

the_last_block : stop (after_import 0 []) (state (false ∷ replicate 16383 true)) (stores_a_byte ∷ []) ≡ None
unfolding out-Instr denote.Hole.Carrier.out store_from stored little_bytes
the_last_block = refl

a_block_again : stop (after_import 0 []) (state (true ∷ false ∷ replicate 16383 true)) (stores_a_byte ∷ []) ≡ None
unfolding out-Instr denote.Hole.Carrier.out store_from stored little_bytes
a_block_again = refl

-- The further turns of a fill are tested before its blocks.
abbrev fills_a_block : Entry
fills_a_block = frame 0 (filling 64) (i.MemoryFill 0 ∷ [])

a_fill_without_turns : stop (after_import 0 []) (state (false ∷ replicate 16384 true)) (fills_a_block ∷ []) ≡ Some why.Steps
unfolding out-Instr denote.Hole.Carrier.out
a_fill_without_turns = refl

a_fill_of_a_block : stop (after_import 0 []) (record (state (false ∷ replicate 16384 true)) { turns = 2 }) (fills_a_block ∷ []) ≡ Some why.Memory
unfolding out-Instr denote.Hole.Carrier.out
a_fill_of_a_block = refl

-- A block that begins where the frame and 999 labels are open is one label too many.
a_label_too_many : stop (after_import 0 []) (state []) (frame 999 [] (i.Block bt.Empty [] ∷ []) ∷ []) ≡ Some why.Depth
unfolding out-Instr denote.Hole.Carrier.out
a_label_too_many = refl

the_last_label : stop (after_import 0 []) (state []) (frame 998 [] (i.Block bt.Empty [] ∷ []) ∷ []) ≡ None
unfolding out-Instr denote.Hole.Carrier.out
the_last_label = refl

-- An `if` without `else` opens a label too, even if its condition is 0.
an_empty_if : stop (after_import 0 []) (state []) (frame 999 (Num W32 0 ∷ []) (i.If bt.Empty [] [] ∷ []) ∷ []) ≡ Some why.Depth
unfolding out-Instr denote.Hole.Carrier.out
an_empty_if = refl

a_frame_too_many : stop (after_import 0 []) (state []) (frame 999 [] (i.Call 1 ∷ []) ∷ []) ≡ Some why.Depth
unfolding out-Instr denote.Hole.Carrier.out
a_frame_too_many = refl

the_last_frame : stop (after_import 0 []) (state []) (frame 998 [] (i.Call 1 ∷ []) ∷ []) ≡ None
unfolding out-Instr denote.Hole.Carrier.out
the_last_frame = refl

-- The depth of a call is tested after the turns of the locals of its frame.
turns_before_depth : stop (after_import 0 []) (state []) (frame 999 [] (i.Call 2 ∷ []) ∷ []) ≡ Some why.Steps
unfolding out-Instr denote.Hole.Carrier.out
turns_before_depth = refl

-- A call through a table opens a frame too, which takes the turns of its locals.
a_frame_through_a_table_too_many : stop (after_import 0 []) (state []) (frame 999 (Num W32 0 ∷ []) (i.CallIndirect 0 0 ∷ []) ∷ []) ≡ Some why.Depth
unfolding out-Instr denote.Hole.Carrier.out
a_frame_through_a_table_too_many = refl

the_last_frame_through_a_table : stop (after_import 0 []) (state []) (frame 998 (Num W32 0 ∷ []) (i.CallIndirect 0 0 ∷ []) ∷ []) ≡ None
unfolding out-Instr denote.Hole.Carrier.out
the_last_frame_through_a_table = refl

a_frame_through_a_table_without_turns : stop (after_import 0 []) (state []) (frame 0 (Num W32 1 ∷ []) (i.CallIndirect 0 0 ∷ []) ∷ []) ≡ Some why.Steps
unfolding out-Instr denote.Hole.Carrier.out
a_frame_through_a_table_without_turns = refl

-- The depth is tested after a trap, here of an `if` that has no number to test.
a_trap_before_depth : stop (after_import 0 []) (state []) (frame 999 [] (i.If bt.Empty [] [] ∷ []) ∷ []) ≡ Some why.Trap
unfolding out-Instr denote.Hole.Carrier.out
a_trap_before_depth = refl

-- The depth counts the labels of all frames.
over_others : stop (after_import 0 []) (state []) (frame 499 [] (i.Loop bt.Empty [] ∷ []) ∷ frame 499 [] [] ∷ []) ≡ Some why.Depth
unfolding out-Instr denote.Hole.Carrier.out
over_others = refl

-- A call of an import opens no frame, so `Import` stops it rather than `Depth`.
an_import_first : stop (after_import 0 []) (state []) (frame 999 [] (i.Call 0 ∷ []) ∷ []) ≡ Some why.Import
unfolding out-Instr denote.Hole.Carrier.out
an_import_first = refl

-- The end of a level needs no turn.
no_turn_for_an_end : stop (after_import 0 []) (record (state []) { turns = 0 }) (frame 3 [] [] ∷ []) ≡ None
no_turn_for_an_end = refl

-- ---- a segment ----

-- What stops an active data segment of one byte that is copied to a place, if all blocks but the
-- first are written.
abbrev copied_to : ℕ → Option Stop
copied_to place = stop_of (with_data (with_page (does [])) (record (state (false ∷ replicate 16384 true)) { store = record (state []).store { datas = record { bytes = 5 ∷ []; dropped = false } ∷ [] } })
    (record { part = 0; inst = own_inst (with_page (does [])); address = 0; segment = data_at (const.I32 (pos place)) (5 ∷ []) }))

past_the_end_first : copied_to 128 ≡ Some why.Trap
unfolding wrapped
past_the_end_first = refl

a_segment_too_many : copied_to 127 ≡ Some why.Memory
unfolding wrapped
a_segment_too_many = refl
