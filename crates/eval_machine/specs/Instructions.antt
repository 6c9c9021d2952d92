-- The step of an instruction whose own turn is spent, and how the machine represents its result.
use Rattle.std.specs.Prelude.{◌≡◌, ℕ, ◌-◌, List, [], ◌∷◌, Bool, true, false, ◌&&◌, cond, length, Option, Some, None, is_some, nat_lt, nat_le, slice_get}
use Rattle.wasm_tree_spec.specs.Prelude.{Instr, out-Instr, Module, BlockType, ValType, FuncType, same_func_type}
use Rattle.wasm_tree.specs.declared.instr.Instr.TheOpen.{Instr-F}
use Rattle.base_lists.specs.Options.{◌>>=◌}
use Rattle.wasm_meaning.specs.Prelude.{own_at, shape_of, type_at, Outcome, bind, Val, Entry, Env, Body, Act, Next, go, exec, perform, touched_by}
use Rattle.run_simulation.specs.Prelude.{left_after}
use Rattle.eval_spec.specs.declared.limits.TheConstants.{MOST_DEPTH}
use Rattle.eval_spec.specs.declared.stop.Stop.{Stop}
use Rattle.eval_spec.specs.declared.stop.Stop.TheVariants as why
use Rattle.eval_spec.specs.Prelude.{State, Stage, Stopped, Test, tried, calls_import, changes_table, further_turns, gives_nothing, grows, opens, test, uses_unknown, writes_too_many, written_after}
use Rattle.eval_spec.specs.Prelude.{came_to, own_inst}
use Rattle.eval_machine.specs.declared.kept.Kept.{Kept}
use Rattle.eval_machine.specs.declared.registers.Registers.{Registers}
use Rattle.eval_machine.specs.declared.registers.Flow.TheVariants as flow
use Rattle.eval_machine.specs.declared.registers.MachineAct.{MachineAct}
use Rattle.eval_machine.specs.declared.registers.MachineAct.TheVariants as act
use Rattle.eval_machine.specs.DenotedValues.{Comes}
use Rattle.eval_machine.specs.Kept.{base_of, state_in, store_in}
use Rattle.eval_machine.specs.Flows.{LevelPlace, body_at, called, depth, frame_at, opened_by, outcome, running}

-- The store and the instance that an instruction sees.
abbrev pub env_in : Module → Kept → Env
env_in m k = record { store = store_in m k; inst = own_inst m }

abbrev pub done_by : Module → Registers → Instr-F Instr → List Instr → LevelPlace → Outcome Act
done_by m r o rest p = exec o (env_in m r.kept) (body_at r rest p)

abbrev pub next_by : Module → Registers → Instr → List Instr → LevelPlace → List Entry → Outcome Act → Outcome Next
next_by m r o rest p es done = bind done (perform (store_in m r.kept) (frame_at m r (o ∷ rest) p) es)

-- The tests that remain when the instruction's own turn is spent.
abbrev pub tests_left : Module → Registers → (depth : ℕ) → Instr-F Instr → Outcome Next → List Test
tests_left m r d o next =
    let left = r.kept.turns in let env = env_in m r.kept in let further = further_turns o env r.operands in
    test (grows o) why.Grow left
    ∷ test (changes_table o) why.TableWrite left
    ∷ test (uses_unknown m (state_in m r.kept).unknown o env r.operands) why.Unknown left
    ∷ test (calls_import o env r.operands) why.Import left
    ∷ test (gives_nothing next) why.Trap left
    ∷ test (nat_lt left further) why.Steps left
    ∷ test (opens o && nat_le MOST_DEPTH d) why.Depth (left - further)
    ∷ test (writes_too_many (state_in m r.kept).written (touched_by o env r.operands)) why.Memory (left - further)
    ∷ []

-- The state after an instruction's turns are spent and its written blocks counted; a global that it
-- sets is known.
abbrev pub spent_in : Module → Registers → Instr-F Instr → Outcome Act → State
spent_in m r o done =
    let s = state_in m r.kept in let env = env_in m r.kept in
    record s { turns = r.kept.turns - further_turns o env r.operands; written = written_after s.written (touched_by o env r.operands); unknown = left_after s.unknown done }

abbrev pub begun_by : Module → Registers → Instr → Instr-F Instr → List Instr → LevelPlace → List Entry → Outcome Act → Stage
begun_by m r o z rest p es done = tried (tests_left m r (depth p es) z (next_by m r o rest p es done)) (came_to (spent_in m r z done) (next_by m r o rest p es done))

abbrev pub begun : Module → Registers → Instr → List Instr → LevelPlace → List Entry → Stage
begun m r o rest p es = begun_by m r o (out-Instr o) rest p es (done_by m r (out-Instr o) rest p)

-- The instruction goes on in its level, leaves it, opens a block, loop or if, or calls a function.
abbrev pub ComesToAct : Module → Instr → Registers → MachineAct → Registers → Type 0
ComesToAct m o old act.Continues new = (rest : List Instr) (p : LevelPlace) (es : List Entry) → begun m old o rest p es ≡ running m new rest p es
ComesToAct m o old (act.Leaves left) new = (rest : List Instr) (p : LevelPlace) (es : List Entry) → begun m old o rest p es ≡ outcome m left new p es
ComesToAct m o old (act.Opens b) new = (rest : List Instr) (p : LevelPlace) (es : List Entry) → begun m old o rest p es ≡ opened_by m new b o rest p es
ComesToAct m o old (act.Calls func) new = (rest : List Instr) (p : LevelPlace) (es : List Entry) → begun m old o rest p es ≡ called m new func rest p es

-- An instruction that stays in its level goes on, or something stops it.
abbrev pub Begins : Module → Instr → Registers → Option Stop → Registers → Type 0
Begins m o old None new = (rest : List Instr) (p : LevelPlace) (es : List Entry) → begun m old o rest p es ≡ running m new rest p es
Begins m o old (Some x) new = (rest : List Instr) (p : LevelPlace) (es : List Entry) → begun m old o rest p es ≡ Stopped x new.kept.turns

-- The same for an instruction that leaves the locals, whatever they are, unchanged.
abbrev pub BeginsWith : Module → Instr → Kept → List Val → Option Stop → Kept → List Val → Type 0
BeginsWith m o k vs stop j us = (ls : List Val) → Begins m o (record { kept = k; operands = vs; locals = ls }) stop (record { kept = j; operands = us; locals = ls })

-- The act opens a block, loop or if with these parameters, which gives `gives` values.
abbrev pub OpensWith : List ValType → (gives : ℕ) → (body : List Instr) → (again : Bool) → MachineAct → Type 0
OpensWith params gives body again (act.Opens b) = (b.params.now ≡ params) × (b.gives ≡ gives) × (b.takes ≡ cond again (length params) gives) × (b.body.now ≡ body) × (b.again ≡ again)
OpensWith params gives body again _ = ⊥

-- The act opens a block, loop or if of type `ty`, or it is a trap because the module has no such
-- type.
abbrev pub Opens : Module → BlockType → (body : List Instr) → (again : Bool) → MachineAct → Type 0
Opens m ty body again (act.Opens b) =
    (t : FuncType) × (shape_of (own_inst m) ty ≡ Some t) × (b.params.now ≡ t.params) × (b.gives ≡ length t.results) × (b.takes ≡ cond again (length t.params) (length t.results)) ×
    (b.body.now ≡ body) × (b.again ≡ again)
Opens m ty body again (act.Leaves left) = (shape_of (own_inst m) ty ≡ None) × (left ≡ flow.Stopped why.Trap)
Opens m ty body again _ = ⊥

-- Whether the function has the type `ty`; `None` if there is no such function or type.
abbrev pub type_matches : Module → (ty func : ℕ) → Option Bool
type_matches m ty func = slice_get m.types ty >>= λ t. type_at (base_of m).store func >>= λ u. Some (same_func_type t u)

-- The call through a table calls `func`, or stops because `func` is imported, or traps because
-- `func` does not have the type.
abbrev pub ReachesThroughTable : Module → (ty func : ℕ) → MachineAct → Type 0
ReachesThroughTable m ty func (act.Calls n) = (n ≡ func) × (own_at (base_of m).store func ≡ None) × (type_matches m ty func ≡ Some true)
ReachesThroughTable m ty func (act.Leaves (flow.Stopped why.Import)) = is_some (own_at (base_of m).store func) ≡ true
ReachesThroughTable m ty func (act.Leaves (flow.Stopped why.Trap)) = (own_at (base_of m).store func ≡ None) × ((type_matches m ty func ≡ Some true) → ⊥)
ReachesThroughTable m ty func _ = ⊥

-- The level `h` with these values and locals.
abbrev pub body_with : Body → (values locals : List Val) → Body
body_with h values locals = record h { values = values; locals = locals }

-- In each environment and level the instruction makes these changes, or it traps.
abbrev pub DoesPlainly : Instr-F Instr → (values locals : List Val) → Option Stop → (after locals_after : List Val) → Type 0
DoesPlainly o vs ls stop us ks = (env : Env) (h : Body) → Comes (exec o env (body_with h vs ls)) stop (go (body_with h us ks))

-- Whether the instruction uses only operands and locals.
abbrev pub is_plain : Instr-F Instr → Bool
is_plain Instr-F.Unreachable = true
is_plain Instr-F.Nop = true
is_plain Instr-F.Drop = true
is_plain Instr-F.Select = true
is_plain (Instr-F.SelectTyped types) = true
is_plain (Instr-F.LocalGet local) = true
is_plain (Instr-F.LocalSet local) = true
is_plain (Instr-F.LocalTee local) = true
is_plain (Instr-F.I32Const value) = true
is_plain (Instr-F.I64Const value) = true
is_plain (Instr-F.Un op) = true
is_plain (Instr-F.Bin op) = true
is_plain (Instr-F.RefNull ty) = true
is_plain Instr-F.RefIsNull = true
is_plain _ = false

-- Whether the instruction neither branches, returns, nor opens a label or a frame.
abbrev pub is_simple : Instr-F Instr → Bool
is_simple (Instr-F.Block ty body) = false
is_simple (Instr-F.Loop ty body) = false
is_simple (Instr-F.If ty body other) = false
is_simple (Instr-F.Br label) = false
is_simple (Instr-F.BrIf label) = false
is_simple (Instr-F.BrTable labels last) = false
is_simple Instr-F.Return = false
is_simple (Instr-F.Call func) = false
is_simple (Instr-F.CallIndirect ty table) = false
is_simple _ = true
