-- What the quiet steps of the code of a level lead to, for any levels and frames around it.
use Rattle.std.specs.Prelude.{◌≡◌, ℕ, suc, ◌+◌, ◌-◌, ◌/◌, List, [], ◌∷◌, length, Bool, cond, Option, Some, None, slice_get, nat_lt, nat_le}
use Rattle.wasm_tree_spec.specs.Prelude.{ValType, FuncType, Instr, Module}
use Rattle.wasm_meaning.specs.Prelude.{Outcome, Gives, bind, onto, Val, Func, Code, Own, Placeholder, Level, Frame, Entry, Running, Body, Act, pop_typed, branch, open_level, give, enter, perform}
use Rattle.wasm_meaning.specs.Control.{finish}
use Rattle.eval_spec.specs.declared.limits.TheConstants.{MOST_DEPTH}
use Rattle.eval_spec.specs.declared.stop.Stop.{Stop}
use Rattle.eval_spec.specs.declared.stop.Stop.TheVariants as why
use Rattle.eval_spec.specs.Prelude.{Stage, Going, Stopped, tried, gives_nothing, stack_depth, test, ComesTo, came_to, own_inst}
use Rattle.eval_machine.specs.declared.registers.Registers.{Registers}
use Rattle.eval_machine.specs.declared.registers.Opening.{Opening}
use Rattle.eval_machine.specs.declared.registers.Flow.{Flow}
use Rattle.eval_machine.specs.declared.registers.Flow.TheVariants as flow
use Rattle.eval_machine.specs.declared.registers.Advance.{Advance}
use Rattle.eval_machine.specs.declared.registers.Advance.TheVariants as advance
use Rattle.eval_machine.specs.Kept.{state_in}

-- ---- a level in its frame ----

-- The place of a level in its frame: how many values it gives, how many a branch to it takes, the
-- code of its label, the levels around it, and the results of the frame.
pub record LevelPlace : Type 0 where
  pub gives : ℕ
  pub takes : ℕ
  pub back : List Instr
  pub outer : List Level
  pub results : List ValType

abbrev pub level_at : LevelPlace → List Val → List Instr → Level
level_at p vs code = record { values = vs; code = code; gives = p.gives; takes = p.takes; back = p.back }

abbrev pub frame_at : Module → Registers → List Instr → LevelPlace → Frame
frame_at m r code p = record { inst = own_inst m; locals = r.locals; results = p.results; levels = level_at p r.operands code ∷ p.outer }

abbrev pub body_at : Registers → List Instr → LevelPlace → Body
body_at r code p = record { locals = r.locals; values = r.operands; rest = code; gives = p.gives; takes = p.takes; back = p.back; outer = p.outer }

abbrev pub running : Module → Registers → List Instr → LevelPlace → List Entry → Stage
running m r code p es = Going (state_in m r.kept) (Running (frame_at m r code p) ∷ es)

-- The number of frames and labels that are open.
abbrev pub depth : LevelPlace → List Entry → ℕ
depth p es = suc (length p.outer) + stack_depth es

-- ---- how it is left ----

-- The stage after the act `o` of the level; a trap is a stop.
abbrev pub acted : Module → Registers → LevelPlace → List Entry → Outcome Act → Stage
acted m r p es o = came_to (state_in m r.kept) (bind o (perform (state_in m r.kept).store (frame_at m r [] p) es))

-- The stage after the code of a level was left. For a branch or a return it is the stage after the
-- jump, which the interpreter makes only in the level or frame that catches it.
abbrev pub outcome : Module → Flow → Registers → LevelPlace → List Entry → Stage
outcome m flow.Fell r p es = running m r [] p es
outcome m (flow.Branch n) r p es = acted m r p es (branch (body_at r [] p) n)
outcome m flow.Return r p es = acted m r p es (finish (body_at r [] p) r.operands)
outcome m (flow.Stopped x) r p es = Stopped x r.kept.turns

abbrev pub stage_after : Module → Advance → Instr → Registers → List Instr → LevelPlace → List Entry → Stage
stage_after m advance.On o r rest p es = running m r rest p es
stage_after m advance.Again o r rest p es = running m r (o ∷ rest) p es
stage_after m (advance.Out f) o r rest p es = outcome m f r p es

-- The code runs to its end, or until something leaves it.
abbrev pub RunsCode : Module → List Instr → (depth : ℕ) → Registers → Flow → Registers → Type 0
RunsCode m code d old f new = (p : LevelPlace) (es : List Entry) → depth p es ≡ d → ComesTo m (running m old code p es) (outcome m f new p es)

abbrev pub RunsInstr : Module → Instr → (depth : ℕ) → Registers → Advance → Registers → Type 0
RunsInstr m o d old n new = (rest : List Instr) (p : LevelPlace) (es : List Entry) → depth p es ≡ d → ComesTo m (running m old (o ∷ rest) p es) (stage_after m n o new rest p es)

-- ---- a block, loop or if, when the turn of its instruction is spent ----

abbrev pub opened_tests : Registers → LevelPlace → List Entry → Outcome (List Val × List Val) → Stage → Stage
opened_tests r p es taken t = tried (test (gives_nothing taken) why.Trap r.kept.turns ∷ test (nat_le MOST_DEPTH (depth p es)) why.Depth r.kept.turns ∷ []) t

abbrev pub opened : Module → Registers → (params : List ValType) → (gives takes : ℕ) → (body back rest : List Instr) → LevelPlace → List Entry → Stage
opened m r params gives takes body back rest p es = opened_tests r p es (pop_typed params r.operands) (acted m r p es (open_level (body_at r rest p) r.operands params gives takes body back))

-- The code of the label, which for a loop is the loop itself.
abbrev pub back_of : Instr → (again : Bool) → List Instr
back_of o again = cond again (o ∷ []) []

abbrev pub opened_by : Module → Registers → Opening → Instr → (rest : List Instr) → LevelPlace → List Entry → Stage
opened_by m r b o rest p es = opened m r b.params.now b.gives b.takes b.body.now (back_of o b.again) rest p es

abbrev pub RunsOpened : Module → Opening → (depth : ℕ) → Registers → Advance → Registers → Type 0
RunsOpened m b d old n new = (o : Instr) (rest : List Instr) (p : LevelPlace) (es : List Entry) → depth p es ≡ d → ComesTo m (opened_by m old b o rest p es) (stage_after m n o new rest p es)

-- ---- a frame that a call (whose own turn is spent) or the embedder opens ----

abbrev pub frame_tests : Registers → (locals depth : ℕ) → Stage → Stage
frame_tests r locals d t = tried (test (nat_lt r.kept.turns (locals / 64)) why.Steps r.kept.turns ∷ test (nat_le MOST_DEPTH d) why.Depth (r.kept.turns - locals / 64) ∷ []) t

abbrev pub entered : Module → Registers → FuncType → (args : List Val) → (locals : List ValType) → (body : List Instr) → List Entry → Stage
entered m r ty args locals body es =
    let s = state_in m r.kept in
    frame_tests r (length locals) (stack_depth es) (came_to (record s { turns = r.kept.turns - length locals / 64 }) (Gives (enter s.store (Code ty (own_inst m) locals body) args es)))

-- The stage after the results `vs` of a frame are given to the entry that waits for them.
abbrev pub given : Module → Registers → List Val → List Entry → Stage
given m r vs es = let s = state_in m r.kept in came_to s (give s.store vs es)

-- The frame runs to its end and leaves its results as the only operands, or something stops it.
abbrev pub RunsFrame : Module → FuncType → (args : List Val) → (locals : List ValType) → (body : List Instr) → (depth : ℕ) → Registers → Option Stop → Registers → Type 0
RunsFrame m ty args locals body d old None new =
    (vs : List Val) × (new.operands ≡ onto vs []) × ((es : List Entry) → stack_depth es ≡ d → ComesTo m (entered m old ty args locals body es) (given m new vs es))
RunsFrame m ty args locals body d old (Some x) new = (es : List Entry) → stack_depth es ≡ d → ComesTo m (entered m old ty args locals body es) (Stopped x new.kept.turns)

-- ---- a call, when its own turn is spent ----

abbrev pub called_code : Module → Registers → FuncType → (locals : List ValType) → (body : List Instr) → List Instr → LevelPlace → List Entry → Stage
called_code m r t locals body rest p es =
    let s = state_in m r.kept in
    tried
    (test (gives_nothing (pop_typed t.params r.operands)) why.Trap r.kept.turns
    ∷ test (nat_lt r.kept.turns (length locals / 64)) why.Steps r.kept.turns
    ∷ test (nat_le MOST_DEPTH (depth p es)) why.Depth (r.kept.turns - length locals / 64)
    ∷ [])
    (came_to (record s { turns = r.kept.turns - length locals / 64 }) (bind (pop_typed t.params r.operands) (λ q.
    Gives (enter s.store (Code t (own_inst m) locals body) q.0 (Running (record (frame_at m r rest p) { levels = level_at p q.1 rest ∷ p.outer }) ∷ es)))))

abbrev pub called_func : Module → Registers → Option Func → List Instr → LevelPlace → List Entry → Stage
called_func m r (Some (Code t i locals body)) rest p es = called_code m r t locals body rest p es
called_func m r (Some (Own pair t)) rest p es = Stopped why.Import r.kept.turns
called_func m r (Some (Placeholder slot t)) rest p es = Stopped why.Trap r.kept.turns
called_func m r None rest p es = Stopped why.Trap r.kept.turns

abbrev pub called : Module → Registers → (func : ℕ) → List Instr → LevelPlace → List Entry → Stage
called m r func rest p es = called_func m r (slice_get (state_in m r.kept).store.funcs func) rest p es

abbrev pub RunsCall : Module → (func depth : ℕ) → Registers → Advance → Registers → Type 0
RunsCall m func d old n new = (o : Instr) (rest : List Instr) (p : LevelPlace) (es : List Entry) → depth p es ≡ d → ComesTo m (called m old func rest p es) (stage_after m n o new rest p es)
