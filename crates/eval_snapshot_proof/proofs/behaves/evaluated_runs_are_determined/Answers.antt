use Rattle.base_lists.proofs.Common.{[], ◌∷◌}
use Rattle.base_simulation.proofs.Prefixes.{shorter}
use Rattle.wasm_meaning.specs.Prelude.{alone, instantiate, tick, fresh_run}
use Rattle.eval_snapshot_proof.specs.EquivalenceLaws.{ShorterEvaluatedRunsArePrefixes}
use Rattle.eval_snapshot_proof.specs.EvaluatedWorlds.{evaluated_begun}
use Rattle.eval_snapshot_proof.proofs.behaves.evaluated_runs_are_determined.Goals as goal

prefixes : ShorterEvaluatedRunsArePrefixes
prefixes m [] kept env moves n k = shorter tick (fresh_run env (instantiate env (alone m)) moves) n k
prefixes m (name ∷ names) kept env moves n k = shorter tick (fresh_run env (evaluated_begun env m (name ∷ names) kept) moves) n k

pub returns-clause-prefixes : goal.returns-clause-prefixes
returns-clause-prefixes c = prefixes
