-- A split module is observationally equivalent to the module, as each call of a moved function, and
-- so each step, is answered.
use Rattle.wasm_tree_spec.specs.Prelude.{Module}
use Rattle.wasm_meaning.specs.Prelude.{Environment}
use Rattle.run_simulation.specs.Trampolines.{TrampolinesEnterSlots}
use Rattle.world_simulation.specs.LoaderSteps.{PlaceholdersAreAnswered}
use Rattle.split_spec.specs.declared.names.SplitNames.{SplitNames}
use Rattle.base_lists.proofs.Common.{ℕ, List}
use Rattle.split_proof.specs.SplitLaws.{CanBeSplit, SplitModuleEquivalent, most_params}
use Rattle.split_proof.specs.LoadedCode.{InstancesOfSplitsAreRelated}
use Rattle.split_proof.proofs.TrampolineSteps.{enters_answered}
use Rattle.split_proof.proofs.ReplacedCalls.{answered_instead}
use Rattle.split_proof.proofs.StatesAfterLoads.{SettleLaws}
use Rattle.split_proof.proofs.SplitRuns.{EachCallAnswered, behaves}
use Rattle.split_proof.proofs.AnsweredSteps.{StepLaws}

module _ (laws : SettleLaws) (steps : StepLaws) (alike : InstancesOfSplitsAreRelated) (answered : PlaceholdersAreAnswered) (tramp : TrampolinesEnterSlots) where
  each_call : (namespace : ℕ → List ℕ) (names : SplitNames) (m : Module) (moved : List ℕ) (owns : List (List ℕ)) (g : CanBeSplit namespace names m moved owns) (env : Environment) → EachCallAnswered laws.begin steps alike namespace names m moved owns g env
  each_call namespace names m moved owns g env i j a = record {
    enters = λ loaded r q h e. enters_answered laws answered tramp namespace names m moved owns g env i j a loaded r q h e;
    instead = λ loaded r q h e. answered_instead laws answered namespace names m moved owns g env i j a (most_params m moved) loaded r q h e;
  }

  pub show_the_same : SplitModuleEquivalent
  show_the_same namespace names m moved owns g env is named moves n = behaves laws.begin steps alike namespace names m moved owns g env (each_call namespace names m moved owns g env) moves n
