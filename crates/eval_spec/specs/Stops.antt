-- What stops an evaluation at the next step: the conditions, and the order in which they are
-- tested. A condition concerns an instruction (`o`), what it sees (`env`) and the values on top of
-- the stack (`vs`).
use Rattle.std.specs.Prelude.{ℕ, ◌+◌, ◌-◌, ◌/◌, List, [], ◌∷◌, length, Bool, true, false, not, ◌&&◌, ◌||◌, Option, Some, None, is_some, slice_get, nat_eq, nat_lt, nat_le, count_by}
use Rattle.base_lists.specs.Members.{is_among}
use Rattle.std.specs.List.{list_any}
use Rattle.base_lists.specs.Options.{◌>>=◌}
use Rattle.wasm_tree_spec.specs.Prelude.{Space, Functions, Operand, FuncType, Instr, out-Instr, Module, same_space, operands}
use Rattle.wasm_tree.specs.declared.instr.Instr.TheOpen.{Instr-F}
use Rattle.wasm_num.specs.Operations.{W32}
use Rattle.wasm_meaning.specs.Prelude.{Outcome, Gives, RefVal, FuncRef, ExternRef, Val, Num, Inst, Func, Code, Table, Level, Entry, Running, Env, type_of_func, own_of, own_at, step, Touched, Bytes}
use Rattle.wasm_meaning.specs.Prelude.{touched_by, imports_of}
use Rattle.run_simulation.specs.Prelude.{Unknowns, ReadPlace, ReadsNothing, ReadsGlobal, ReadsSlots, ReadsItems, read_by}
use Rattle.block_pool.specs.Pages.{with_reached}
use Rattle.eval_spec.specs.declared.limits.TheConstants.{MOST_DEPTH, MOST_BLOCKS}
use Rattle.eval_spec.specs.declared.stop.Stop.{Stop}
use Rattle.eval_spec.specs.declared.stop.Stop.TheVariants as why
use Rattle.eval_spec.specs.State.{State, Test, first_held}

-- ---- Grow (section 4.4.7) ----

abbrev pub grows : Instr-F Instr → Bool
grows (Instr-F.MemoryGrow memory) = true
grows _ = false

-- ---- TableWrite (section 4.4.6) ----

abbrev pub changes_table : Instr-F Instr → Bool
changes_table (Instr-F.TableSet table) = true
changes_table (Instr-F.TableGrow table) = true
changes_table (Instr-F.TableFill table) = true
changes_table (Instr-F.TableCopy to from) = true
changes_table (Instr-F.TableInit segment table) = true
changes_table (Instr-F.ElemDrop segment) = true
changes_table _ = false

-- ---- Unknown ----

-- Whether the index is that of an import; imports come first in each index space (section 2.5.1).
abbrev pub is_imported : Module → Space → ℕ → Bool
is_imported m space index = nat_lt index (length (imports_of space m))

-- Whether the operand is an imported global, table or memory, of which nothing is known. An
-- imported function may be named, as long as it is not called.
abbrev pub is_unknown_import : Module → Operand → Bool
is_unknown_import m x = not (same_space x.space Functions) && is_imported m x.space x.index

-- Whether one of these pairs has this address and one of the `count` places from `place` on.
abbrev pub any_in_row : List (ℕ × ℕ) → (address place count : ℕ) → Bool
any_in_row xs a place count = list_any (λ x. nat_eq x.0 a && (nat_le place x.1 && nat_lt x.1 (place + count))) xs

abbrev pub is_unknown : Unknowns → ReadPlace → Bool
is_unknown u ReadsNothing = false
is_unknown u (ReadsGlobal a) = is_among u.globals a
is_unknown u (ReadsSlots a place count) = any_in_row u.slots a place count
is_unknown u (ReadsItems a place count) = any_in_row u.items a place count

abbrev pub reads_unknown : Unknowns → Outcome ReadPlace → Bool
reads_unknown u (Gives r) = is_unknown u r
reads_unknown u _ = false

-- Whether the instruction reads or sets an imported global, or uses an imported table or memory,
-- whatever is on the stack; or whether it reads an unknown global, slot or item of a segment. (A
-- call through a table reads the slot.)
abbrev pub uses_unknown : Module → Unknowns → Instr-F Instr → Env → List Val → Bool
uses_unknown m u o env vs = list_any (is_unknown_import m) (operands o) || reads_unknown u (read_by o env vs)

-- ---- Import (section 4.4.8) ----

abbrev pub referred_func : RefVal → Option ℕ
referred_func (FuncRef r) = r
referred_func (ExternRef r) = None

-- The address of the function in the slot that the number on top of the stack names.
abbrev pub func_in_slot : List Val → Table → Option ℕ
func_in_slot (Num W32 i ∷ vs) t = slice_get t.slots i >>= referred_func
func_in_slot _ t = None

-- The address of the function that is called, directly or through a table; through a table even if
-- its type is not the expected one.
abbrev pub called_by : Instr-F Instr → Env → List Val → Option ℕ
called_by (Instr-F.Call func) env vs = slice_get env.inst.funcs func
called_by (Instr-F.CallIndirect ty table) env vs = slice_get env.inst.tables table >>= λ a. slice_get env.store.tables a >>= func_in_slot vs
called_by _ env vs = None

abbrev pub calls_import : Instr-F Instr → Env → List Val → Bool
calls_import o env vs = is_some (called_by o env vs >>= own_at env.store)

-- ---- Trap (section 4.4, and if no rule applies) ----

abbrev pub gives_nothing : {A : Type 0} → Outcome A → Bool
gives_nothing (Gives a) = false
gives_nothing _ = true

-- ---- Steps ----

-- The turns that opening the frame of a function takes: one for each 64 locals that it declares.
abbrev pub frame_turns : Func → ℕ
frame_turns (Code t i locals body) = length locals / 64
frame_turns _ = 0

abbrev pub call_turns : Option Func → ℕ
call_turns (Some f) = frame_turns f
call_turns None = 0

-- The turns that a write takes: `memory.fill`, `memory.copy` and `memory.init` take one for each 64
-- bytes; a store writes at most 8 bytes, so it takes none.
abbrev pub write_turns : Outcome Touched → ℕ
write_turns (Gives (Bytes a place count)) = count / 64
write_turns _ = 0

-- The turns that an instruction takes besides the one for its beginning.
abbrev pub further_turns : Instr-F Instr → Env → List Val → ℕ
further_turns (Instr-F.Call func) env vs = call_turns (called_by (Instr-F.Call func) env vs >>= slice_get env.store.funcs)
further_turns (Instr-F.CallIndirect ty table) env vs = call_turns (called_by (Instr-F.CallIndirect ty table) env vs >>= slice_get env.store.funcs)
further_turns o env vs = write_turns (touched_by o env vs)

-- ---- Depth (section 4.4.9 and 4.4.10) ----

-- The number of frames and labels that are open. The level of a frame's body counts as the frame,
-- and its other levels count as the labels of blocks, loops and ifs.
abbrev pub stack_depth : List Entry → ℕ
stack_depth [] = 0
stack_depth (Running f ∷ es) = length f.levels + stack_depth es
stack_depth (_ ∷ es) = stack_depth es

-- Whether the instruction opens a frame or a label. An `if` opens one even if its condition is 0
-- and it has no `else`.
abbrev pub opens : Instr-F Instr → Bool
opens (Instr-F.Block ty body) = true
opens (Instr-F.Loop ty body) = true
opens (Instr-F.If ty body other) = true
opens (Instr-F.Call func) = true
opens (Instr-F.CallIndirect ty table) = true
opens _ = false

abbrev pub opens_too_deep : Instr-F Instr → List Entry → Bool
opens_too_deep o es = opens o && nat_le MOST_DEPTH (stack_depth es)

-- ---- Memory ----

-- The written blocks, with those that this write adds.
abbrev pub written_after : List Bool → Outcome Touched → List Bool
written_after blocks (Gives (Bytes a place count)) = with_reached place count 0 blocks
written_after blocks _ = blocks

abbrev pub too_many_blocks : List Bool → Bool
too_many_blocks blocks = nat_lt MOST_BLOCKS (count_by (λ written. written) blocks)

-- Whether more than `MOST_BLOCKS` blocks would be written. A write of no bytes writes no block.
abbrev pub writes_too_many : List Bool → Outcome Touched → Bool
writes_too_many blocks (Gives (Bytes a place count)) = too_many_blocks (with_reached place count 0 blocks)
writes_too_many blocks _ = false

-- ---- the order ----

-- The instruction that begins next, with the instance of its frame and the values on top of the
-- stack.
pub record Beginning : Type 0 where
  pub instr : Instr-F Instr
  pub inst : Inst
  pub values : List Val

abbrev pub beginning_in : Inst → List Val → List Instr → Option Beginning
beginning_in inst vs [] = None
beginning_in inst vs (o ∷ rest) = Some (record { instr = out-Instr o; inst = inst; values = vs })

abbrev pub beginning_of : Inst → List Level → Option Beginning
beginning_of inst [] = None
beginning_of inst (l ∷ ls) = beginning_in inst l.values l.code

-- The instruction that begins next; `None` if a level or a frame ends.
abbrev pub beginning : List Entry → Option Beginning
beginning (Running f ∷ es) = beginning_of f.inst f.levels
beginning _ = None

abbrev pub test : Bool → Stop → (left : ℕ) → Test
test holds stop left = record { holds = holds; stop = stop; left = left }

-- The tests before an instruction. If one holds, the instruction's own turn stays spent if there
-- was one; its further turns stay spent if the stop is `Depth` or `Memory`.
abbrev pub instruction_tests : Module → State → List Entry → Instr-F Instr → Env → List Val → List Test
instruction_tests m s es o env vs =
    let left = s.turns - 1 in let further = further_turns o env vs in
    test (nat_eq s.turns 0) why.Steps s.turns
    ∷ test (grows o) why.Grow left
    ∷ test (changes_table o) why.TableWrite left
    ∷ test (uses_unknown m s.unknown o env vs) why.Unknown left
    ∷ test (calls_import o env vs) why.Import left
    ∷ test (gives_nothing (step s.store es)) why.Trap left
    ∷ test (nat_lt left further) why.Steps left
    ∷ test (opens_too_deep o es) why.Depth (left - further)
    ∷ test (writes_too_many s.written (touched_by o env vs)) why.Memory (left - further)
    ∷ []

abbrev pub tests_at : Module → State → List Entry → Option Beginning → List Test
tests_at m s es (Some b) = instruction_tests m s es b.instr (record { store = s.store; inst = b.inst }) b.values
tests_at m s es None = test (gives_nothing (step s.store es)) why.Trap s.turns ∷ []

abbrev pub tests : Module → State → List Entry → List Test
tests m s es = tests_at m s es (beginning es)

-- What stops an evaluation in this state, at the next step of these entries, if something does.
abbrev pub stop : Module → State → List Entry → Option Stop
stop m s es = first_held (tests m s es) >>= λ test. Some test.stop

-- ---- before the embedder opens a frame, of the start or of a constructor (section 4.5.5) ----

abbrev pub takes_and_gives_nothing : FuncType → Bool
takes_and_gives_nothing t = nat_eq (length t.params) 0 && nat_eq (length t.results) 0

-- The tests before a call by the embedder, which takes no turn by itself.
abbrev pub host_tests : State → Func → List Test
host_tests s f =
    test (not (takes_and_gives_nothing (type_of_func f))) why.Signature s.turns
    ∷ test (is_some (own_of f)) why.Import s.turns
    ∷ test (nat_lt s.turns (frame_turns f)) why.Steps s.turns
    ∷ []
