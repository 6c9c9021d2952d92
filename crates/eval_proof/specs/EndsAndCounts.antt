-- The laws of quiet runs.
use Rattle.std.specs.Prelude.{◌≡◌, ℕ, ◌≤◌, false, List, [], length, take, None}
use Rattle.wasm_tree_spec.specs.Prelude.{Module}
use Rattle.eval_spec.specs.Prelude.{Stage, is_going, ComesTo, run_end, evaluated_within, done_count, stopped_by}
use Rattle.eval_spec.specs.Evaluation.{IsQuiet}

-- The end of a run, after at most one step more than its weight, is finished or stopped.
abbrev pub RunsEnd : Type 0
RunsEnd = (m : Module) (t : Stage) → is_going (run_end m t) ≡ false

-- Quiet steps lead to the end of a run.
abbrev pub EndsAreReached : Type 0
EndsAreReached = (m : Module) (t : Stage) → ComesTo m t (run_end m t)

-- Quiet steps lead to no other end of a run.
abbrev pub QuietEndsAreUnique : Type 0
QuietEndsAreUnique = (m : Module) (t u : Stage) → ComesTo m t u → is_going u ≡ false → run_end m t ≡ u

-- If nothing stops the instantiation and the start, the counted constructors are a quiet prefix of
-- the list.
abbrev pub CountedAreQuiet : Type 0
CountedAreQuiet = (m : Module) (funcs : List ℕ) → IsQuiet m [] → IsQuiet m (take (done_count m funcs) funcs)

-- No longer prefix of the list is quiet.
abbrev pub QuietAreCounted : Type 0
QuietAreCounted = (m : Module) (funcs : List ℕ) (n : ℕ) → n ≤ length funcs → IsQuiet m (take n funcs) → n ≤ done_count m funcs

-- An evaluation ends.
abbrev pub EvaluationsEnd : Type 0
EvaluationsEnd = (m : Module) (turns : ℕ) (funcs : List ℕ) → is_going (evaluated_within m turns funcs) ≡ false

-- An evaluation that nothing stops is quiet.
abbrev pub QuietWhereNothingStops : Type 0
QuietWhereNothingStops = (m : Module) (funcs : List ℕ) → stopped_by m funcs ≡ None → IsQuiet m funcs

-- Nothing stops a quiet evaluation.
abbrev pub NothingStopsQuiet : Type 0
NothingStopsQuiet = (m : Module) (funcs : List ℕ) → IsQuiet m funcs → stopped_by m funcs ≡ None

-- If something stops the instantiation or the start, no constructor is counted.
abbrev pub NoneCountedBefore : Type 0
NoneCountedBefore = (m : Module) (funcs : List ℕ) → ¬ IsQuiet m [] → done_count m funcs ≡ 0
