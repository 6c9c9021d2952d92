-- The snapshot of a module has the traces of the module after its evaluated constructors.
use Rattle.std.specs.Prelude.{[], ◌∷◌}
use Rattle.world_simulation.specs.CorrespondingInstances.{RelatedBegunHaveEqualTraces}
use Rattle.eval_snapshot_proof.specs.Ranges.{EvaluatedGlobalsAreExpressible}
use Rattle.eval_spec.specs.declared.limits.TheConstants.{MOST_TURNS}
use Rattle.eval_snapshot_spec.specs.Evaluated.{funcs_named}
use Rattle.eval_snapshot_spec.specs.Snapshot.{snapshot}
use Rattle.eval_snapshot_proof.specs.EquivalenceLaws.{SnapshotEquivalent}
use Rattle.eval_snapshot_proof.proofs.SnapshotCorrespondence.{Laws, begin_alike}
use Rattle.eval_snapshot_proof.proofs.InstantiatedStores.{both_instantiated}
use Rattle.eval_snapshot_proof.proofs.EqualTraces.{alike_show_the_same, none_evaluated}

pub snapshot_equivalent : Laws → RelatedBegunHaveEqualTraces → EvaluatedGlobalsAreExpressible → SnapshotEquivalent
snapshot_equivalent laws same ranges m [] kept s valid begins after = none_evaluated m kept
snapshot_equivalent laws same ranges m (name ∷ names) kept s valid begins after =
    alike_show_the_same same m name names kept (snapshot m s (name ∷ names) kept) (λ env is linked.
    begin_alike laws env m s name names kept valid after (both_instantiated laws.naming laws.made env m name names kept after.end valid after.named after.quiet linked)
    (ranges m valid begins MOST_TURNS (funcs_named m (name ∷ names)) after.end after.quiet))
