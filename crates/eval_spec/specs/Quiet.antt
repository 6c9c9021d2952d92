-- The quiet run: steps of the machine (WebAssembly Core 2.0, section 4.4) that nothing stops, from
-- a call by the embedder to its end.
use Rattle.std.specs.Prelude.{ℕ, zero, suc, ◌+◌, ◌-◌, ◌*◌, List, [], ◌∷◌, Option, Some, None, slice_get}
use Rattle.wasm_tree_spec.specs.Prelude.{Instr, Module}
use Rattle.wasm_tree.specs.declared.instr.Instr.TheOpen.{Instr-F}
use Rattle.wasm_meaning.specs.Prelude.{Outcome, Gives, Val, Func, Entry, Mark, Env, Next, Ran, EndsCall, step, enter, touched_by}
use Rattle.run_simulation.specs.Prelude.{left_unknown}
use Rattle.eval_spec.specs.declared.stop.Stop.TheVariants as why
use Rattle.eval_spec.specs.State.{State, Stage, Going, Stopped, Finished, tried}
use Rattle.eval_spec.specs.Stops.{Beginning, beginning, frame_turns, further_turns, written_after, stack_depth, tests, host_tests}

-- ---- a step ----

-- The state once the turns of an instruction are spent and the blocks that it writes count as
-- written. The end of a level or of a frame spends nothing.
abbrev pub spent_by : State → Instr-F Instr → Env → List Val → State
spent_by s o env vs = record s { turns = s.turns - 1 - further_turns o env vs; written = written_after s.written (touched_by o env vs) }

abbrev pub spent_at : State → Option Beginning → State
spent_at s None = s
spent_at s (Some b) = spent_by s b.instr (record { store = s.store; inst = b.inst }) b.values

-- The state after what the step spends; a global that the step sets is known.
abbrev pub spent : State → List Entry → State
spent s es = record (spent_at s (beginning es)) { unknown = left_unknown s.unknown s.store es }

-- The stage after a step: the machine goes on, or the embedder's call has ended. A trap, a call of
-- an import and a growth are stopped before, and there are no placeholders.
abbrev pub came_to : State → Outcome Next → Stage
came_to s (Gives (Ran t es)) = Going (record s { store = t }) es
came_to s (Gives (EndsCall vs t es)) = Finished (record s { store = t })
came_to s _ = Stopped why.Trap s.turns

-- One quiet step, or what stops it.
abbrev pub quiet_step : Module → State → List Entry → Stage
quiet_step m s es = tried (tests m s es) (came_to (spent s es) (step s.store es))

-- Steps by `quiet_step` lead from the first stage to the second.
pub data ComesTo (m : Module) : Stage → Stage → Type 0 where
  here : {t : Stage} → ComesTo m t t
  on : {s : State} {es : List Entry} {t : Stage} → ComesTo m (quiet_step m s es) t → ComesTo m (Going s es) t

-- ---- a call (section 4.5.5) ----

-- The stage after the embedder calls a function without arguments.
abbrev pub host_opened : State → Func → Stage
host_opened s f = tried (host_tests s f) (came_to (record s { turns = s.turns - frame_turns f }) (Gives (enter s.store f [] (Mark ∷ []))))

-- The same for a function that may be missing. (A valid module names only functions that it has.)
abbrev pub host_opened_if_there : State → Option Func → Stage
host_opened_if_there s (Some f) = host_opened s f
host_opened_if_there s None = Stopped why.Trap s.turns

-- The same for the function with this index, which is its address.
abbrev pub host_call : State → (func : ℕ) → Stage
host_call s func = host_opened_if_there s (slice_get s.store.funcs func)

-- The stage after `n` steps, or the end if it comes before.
abbrev pub after_steps : Module → ℕ → Stage → Stage
after_steps m zero t = t
after_steps m (suc n) (Going s es) = after_steps m n (quiet_step m s es)
after_steps m (suc n) t = t

-- A number that each step after which the call goes on makes smaller: an instruction spends a turn
-- and opens at most one frame or label, and any other step ends a frame or label.
abbrev pub weight : Stage → ℕ
weight (Going s es) = 2 * s.turns + stack_depth es
weight _ = 0

-- The end of a run, which is finished or stopped.
abbrev pub run_end : Module → Stage → Stage
run_end m t = after_steps m (suc (weight t)) t

-- The end of the embedder's call of a function in state `s`.
abbrev pub call_end : Module → State → (func : ℕ) → Stage
call_end m s func = run_end m (host_call s func)
