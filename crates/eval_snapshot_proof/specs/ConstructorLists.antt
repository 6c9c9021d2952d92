-- The evaluation of a list of constructors, and of the list with one more.
use Rattle.std.specs.Prelude.{◌≡◌, ℕ, List, [], ◌∷◌, ◌++◌}
use Rattle.wasm_tree_spec.specs.Prelude.{Module}
use Rattle.eval_spec.specs.declared.limits.TheConstants.{MOST_TURNS}
use Rattle.eval_spec.specs.Prelude.{State, Finished, call_end, booted, evaluated}

-- In the state after the quiet run of a list, a call that finishes leaves the state after the quiet
-- run of the list with the function appended.
abbrev pub AddedAreEvaluated : Type 0
AddedAreEvaluated = (m : Module) (funcs : List ℕ) (func : ℕ) (s t : State) → evaluated m funcs ≡ Finished s → call_end m s func ≡ Finished t → evaluated m (funcs ++ func ∷ []) ≡ Finished t

-- If the run of the longer list is quiet, so is that of the list; and from the state after the
-- list, the call finishes in the state after the longer list.
abbrev pub EvaluatedAreAdded : Type 0
EvaluatedAreAdded = (m : Module) (funcs : List ℕ) (func : ℕ) (t : State) → evaluated m (funcs ++ func ∷ []) ≡ Finished t → (s : State) × (evaluated m funcs ≡ Finished s) ×
    (call_end m s func ≡ Finished t)

-- The run of no constructor is the instantiation with the start.
abbrev pub NoneIsTheInstantiation : Type 0
NoneIsTheInstantiation = (m : Module) → evaluated m [] ≡ booted m MOST_TURNS
