-- The evaluation of a list of constructors: the instantiation with the start, and then a call of
-- each constructor in order, until something stops one.
use Rattle.std.specs.Prelude.{◌≡◌, ℕ, suc, List, ◌∷◌, take, cond, Option}
use Rattle.wasm_tree_spec.specs.Prelude.{Module}
use Rattle.eval_spec.specs.declared.limits.TheConstants.{MOST_TURNS}
use Rattle.eval_spec.specs.declared.stop.Stop.{Stop}
use Rattle.eval_spec.specs.State.{State, Stage, Finished, is_finished, stop_of, state_of}
use Rattle.eval_spec.specs.Quiet.{call_end}
use Rattle.eval_spec.specs.Instantiation.{booted}

-- The stage after the embedder calls these functions in order, until something stops one.
abbrev pub called_in_order : Module → Stage → List ℕ → Stage
called_in_order m (Finished s) (func ∷ funcs) = called_in_order m (call_end m s func) funcs
called_in_order m t _ = t

-- The stage after the instantiation, the start and these calls, with `turns` turns for all.
abbrev pub evaluated_within : Module → (turns : ℕ) → List ℕ → Stage
evaluated_within m turns funcs = called_in_order m (booted m turns) funcs

-- The same with `MOST_TURNS` turns.
abbrev pub evaluated : Module → List ℕ → Stage
evaluated m funcs = evaluated_within m MOST_TURNS funcs

-- Nothing stops the evaluation.
abbrev pub IsQuiet : Module → List ℕ → Type 0
IsQuiet m funcs = (s : State) × (evaluated m funcs ≡ Finished s)

-- How many of the calls finish before something stops one.
abbrev pub calls_finished : Module → Stage → List ℕ → ℕ
calls_finished m (Finished s) (func ∷ funcs) = let t = call_end m s func in cond (is_finished t) (suc (calls_finished m t funcs)) 0
calls_finished m t _ = 0

-- How many constructors are evaluated: the length of the longest quiet prefix of the list; 0 if
-- something stops the instantiation or the start.
abbrev pub done_count : Module → List ℕ → ℕ
done_count m funcs = calls_finished m (booted m MOST_TURNS) funcs

-- What stops the first constructor that is not evaluated, or the instantiation or the start; `None`
-- if nothing does.
abbrev pub stopped_by : Module → List ℕ → Option Stop
stopped_by m funcs = stop_of (evaluated m funcs)

-- The state after the constructors that are evaluated; `None` if something stops the instantiation
-- or the start.
abbrev pub state_at_end : Module → List ℕ → Option State
state_at_end m funcs = state_of (evaluated m (take (done_count m funcs) funcs))
