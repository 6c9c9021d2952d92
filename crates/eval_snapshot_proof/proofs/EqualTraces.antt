-- A module with evaluated constructors and another module have equal traces if the first step of
-- the one corresponds to the instantiation of the other.
use Rattle.base_lists.proofs.Common.{◌∙◌, sym, ℕ, List, [], ◌∷◌, Bool, append-nil, IsTrue}
use Rattle.wasm_tree_spec.specs.Prelude.{Space, Module}
use Rattle.wasm_meaning.specs.Prelude.{Text, Environment, is_environment, alone, instantiate, links}
use Rattle.run_simulation.specs.Prelude.{OneToOne, OptRel, BegunRel, passed, EntryByEntry}
use Rattle.world_simulation.specs.Prelude.{RelatedBegunHaveEqualTraces}
use Rattle.eval_snapshot_proof.specs.EvaluatedWorlds.{evaluated_begun}
use Rattle.eval_snapshot_proof.specs.EquivalenceLaws.{ObservationallyEquivalent}

-- The first step of the module with evaluated constructors corresponds to the instantiation of the
-- other module in an environment, under a relation of addresses that is one to one.
pub record BeginAlike (env : Environment) (m : Module) (constructors kept : List Text) (other : Module) : Type 0 where
  pub of : Space → ℕ → ℕ → Bool
  pub apart : OneToOne (passed of of [])
  pub begun : OptRel (BegunRel (passed of of []) (EntryByEntry (passed of of []))) (evaluated_begun env m constructors kept) (instantiate env (alone other))

pub alike_show_the_same : RelatedBegunHaveEqualTraces → (m : Module) (name : Text) (names kept : List Text) (other : Module) →
    ((env : Environment) → IsTrue (is_environment env) → IsTrue (links env (alone m)) → BeginAlike env m (name ∷ names) kept other) → ObservationallyEquivalent m (name ∷ names) kept other
alike_show_the_same same m name names kept other alike env is linked moves n =
    let a = alike env is linked in
    let e = same a.of a.apart env (evaluated_begun env m (name ∷ names) kept) (instantiate env (alone other)) a.begun moves n in
    (([], append-nil _ ∙ e), ([], append-nil _ ∙ sym e))

-- A module of which no constructor is evaluated behaves as itself.
pub none_evaluated : (m : Module) (kept : List Text) → ObservationallyEquivalent m [] kept m
none_evaluated m kept env is linked moves n = (([], append-nil _), ([], append-nil _))
