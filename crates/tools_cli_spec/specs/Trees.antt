-- The module after evaluated constructors, if no listed name is missing.
use Rattle.std.specs.Prelude.{◌≡◌, ◌⊎◌, List, [], ◌∷◌, None, IsTrue, take}
use Rattle.wasm_tree_spec.specs.Prelude.{Module, IsBounded}
use Rattle.wasm_valid.specs.Prelude.{IsSingle, IsValid}
use Rattle.module_limits.specs.Counts.{over_limit}
use Rattle.wasm_meaning.specs.Prelude.{Text, Environment, is_environment, alone, links}
use Rattle.eval_spec.specs.Prelude.{State, Finished, evaluated}
use Rattle.eval_snapshot_proof.specs.Ranges.{BeginsInRange}
use Rattle.eval_snapshot_spec.specs.After.{IsAfter}
use Rattle.eval_snapshot_spec.specs.Evaluated.{evaluated_count, evaluated_tree, first_missing, funcs_named}
use Rattle.eval_snapshot_spec.specs.Snapshot.{snapshot}
use Rattle.eval_snapshot_proof.specs.QuietRunAddresses.{IsTheMachines, StartIsTheMachines}
use Rattle.eval_snapshot_proof.specs.EquivalenceLaws.{ObservationallyEquivalent}

-- The module after the evaluation is a snapshot in a state that the evaluated constructors left.
pub record IsSnapshot (m : Module) (names kept : List Text) : Type 0 where
  pub state : State
  pub after : IsAfter m (take (evaluated_count m names) names) state
  pub tree : evaluated_tree m names kept ≡ snapshot m state (take (evaluated_count m names) names) kept

-- The module after an evaluation is a snapshot or the module itself.
abbrev pub TreesAreSnapshots : Type 0
TreesAreSnapshots = (m : Module) (names kept : List Text) → first_missing m names ≡ None → IsSnapshot m names kept ⊎ (evaluated_tree m names kept ≡ m)

-- The module after an evaluation is valid if the original is.
abbrev pub TreesAreValid : Type 0
TreesAreValid = (m : Module) (names kept : List Text) → first_missing m names ≡ None → IsValid m → IsValid (evaluated_tree m names kept)

-- It has at most one memory if the original has.
abbrev pub TreesAreSingle : Type 0
TreesAreSingle = (m : Module) (names kept : List Text) → first_missing m names ≡ None → IsSingle m → IsSingle (evaluated_tree m names kept)

-- It is bounded if the original is valid and bounded and none of its own counts is above its limit.
abbrev pub TreesAreBounded : Type 0
TreesAreBounded = (m : Module) (names kept : List Text) → first_missing m names ≡ None → IsValid m → IsBounded m → over_limit (evaluated_tree m names kept) ≡ None →
    IsBounded (evaluated_tree m names kept)

-- For a valid module whose data segments hold bytes and whose tables have fewer than 2 ^ 32 slots,
-- the module after the evaluation is observationally equivalent to the module after its evaluated
-- constructors, step by step, in each environment that links the module.
abbrev pub TreesBehave : Type 0
TreesBehave = (m : Module) (names kept : List Text) → first_missing m names ≡ None → IsValid m → BeginsInRange m →
    ObservationallyEquivalent m (take (evaluated_count m names) names) kept (evaluated_tree m names kept)

-- The evaluation of these constructors comes to its end and is the machine's run: in each
-- environment that links the module, the instantiation, the start and the calls come to their ends
-- too, and leave what the evaluation left, except for what is unknown (imported tables, memories
-- and globals, and what was read of them). Imported tables, memories and globals, and all else that
-- belongs to the environment, are left as they were. For no constructor, this holds of the
-- instantiation and the start, if nothing stops them.
abbrev pub EvaluatedAsByTheMachine : Module → (evaluated kept : List Text) → Type 0
EvaluatedAsByTheMachine m [] kept =
    (end : State) → evaluated m [] ≡ Finished end → (env : Environment) → IsTrue (is_environment env) → IsTrue (links env (alone m)) → StartIsTheMachines env m end
EvaluatedAsByTheMachine m (name ∷ names) kept =
    (end : State) × (evaluated m (funcs_named m (name ∷ names)) ≡ Finished end)
    × ((env : Environment) → IsTrue (is_environment env) → IsTrue (links env (alone m)) → IsTheMachines env m (name ∷ names) kept end)

-- The evaluated constructors of a valid module are evaluated as by the machine.
abbrev pub AreEvaluatedAsByTheMachine : Type 0
AreEvaluatedAsByTheMachine = (m : Module) (names kept : List Text) → first_missing m names ≡ None → IsValid m → EvaluatedAsByTheMachine m (take (evaluated_count m names) names) kept
