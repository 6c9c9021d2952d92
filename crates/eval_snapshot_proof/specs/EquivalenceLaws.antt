-- The laws that the snapshot of a module behaves as the module whose constructors are evaluated.
use Rattle.std.specs.Prelude.{[], ◌≡◌, ℕ, ◌+◌, List, IsTrue}
use Rattle.wasm_tree_spec.specs.Prelude.{Module}
use Rattle.wasm_valid.specs.Prelude.{IsValid}
use Rattle.wasm_meaning.specs.Prelude.{Text, Environment, alone, links, Move, IsPrefix, Same, events}
use Rattle.eval_spec.specs.Prelude.{State}
use Rattle.eval_snapshot_proof.specs.Ranges.{BeginsInRange}
use Rattle.eval_snapshot_spec.specs.After.{IsAfter}
use Rattle.eval_snapshot_spec.specs.Snapshot.{snapshot}
use Rattle.eval_snapshot_proof.specs.EvaluatedWorlds.{events_evaluated}

-- In each environment that links `m`, each trace of `m` after its evaluated constructors is a
-- prefix of the trace of `other` in as many steps, and the other way round.
abbrev pub ObservationallyEquivalent : Module → (evaluated kept : List Text) → Module → Type 0
ObservationallyEquivalent m evaluated kept other = Same (λ env. IsTrue (links env (alone m))) (events_evaluated m evaluated kept) (events (alone other)) (λ n. n) (λ n. n)

-- The snapshot of a valid module is observationally equivalent to the module after its evaluated
-- constructors, if the state has what these leave, the tables of the module have fewer than 2 ^ 32
-- slots, and its data segments hold bytes.
abbrev pub SnapshotEquivalent : Type 0
SnapshotEquivalent = (m : Module) (evaluated kept : List Text) (s : State) → IsValid m → BeginsInRange m → IsAfter m evaluated s →
    ObservationallyEquivalent m evaluated kept (snapshot m s evaluated kept)

-- If no constructor is evaluated, the module itself is observationally equivalent to the module
-- after its evaluated constructors.
abbrev pub NoneIsEquivalent : Type 0
NoneIsEquivalent = (m : Module) (kept : List Text) → ObservationallyEquivalent m [] kept m

-- ---- runs ----

-- Equal modules, names, environments, moves and numbers of steps give equal traces.
abbrev pub EvaluatedRunsAreDetermined : Type 0
EvaluatedRunsAreDetermined =
    (m o : Module) (evaluated constructors kept names : List Text) (d e : Environment) (ms ns : List Move) (n k : ℕ) →
    m ≡ o → evaluated ≡ constructors → kept ≡ names → d ≡ e → ms ≡ ns → n ≡ k → events_evaluated m evaluated kept d ms n ≡ events_evaluated o constructors names e ns k

-- The trace of fewer steps is a prefix of that of more.
abbrev pub ShorterEvaluatedRunsArePrefixes : Type 0
ShorterEvaluatedRunsArePrefixes =
    (m : Module) (evaluated kept : List Text) (env : Environment) (moves : List Move) (n k : ℕ) →
    IsPrefix (events_evaluated m evaluated kept env moves n) (events_evaluated m evaluated kept env moves (n + k))
