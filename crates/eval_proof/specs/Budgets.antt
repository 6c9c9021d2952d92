-- What more turns change in an evaluation.
use Rattle.std.specs.Prelude.{◌≡◌, ℕ, ◌+◌, List, Some}
use Rattle.wasm_tree_spec.specs.Prelude.{Module}
use Rattle.eval_spec.specs.declared.stop.Stop.TheVariants as why
use Rattle.eval_spec.specs.Prelude.{State, Stage, Going, Stopped, Finished, stop_of, evaluated_within}

-- The state with `d` more turns left.
abbrev pub more_turns : ℕ → State → State
more_turns d s = record s { turns = s.turns + d }

-- The stage with `d` more turns left.
abbrev pub with_turns : ℕ → Stage → Stage
with_turns d (Going s es) = Going (more_turns d s) es
with_turns d (Stopped x left) = Stopped x (left + d)
with_turns d (Finished s) = Finished (more_turns d s)

-- The stage is not one that stopped because turns ran out.
abbrev pub HasTurns : Stage → Type 0
HasTurns t = ¬ (stop_of t ≡ Some why.Steps)

-- With more turns an evaluation ends in the same way and leaves as many more turns, unless it stops
-- because turns run out.
abbrev pub EvaluationIsMonotoneInTheBudget : Type 0
EvaluationIsMonotoneInTheBudget =
    (m : Module) (turns d : ℕ) (funcs : List ℕ) → HasTurns (evaluated_within m turns funcs) → evaluated_within m (turns + d) funcs ≡ with_turns d (evaluated_within m turns funcs)
