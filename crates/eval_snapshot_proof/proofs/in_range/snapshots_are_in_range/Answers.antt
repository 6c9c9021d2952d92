use Rattle.std.specs.Prelude.{◌∷◌}
use Rattle.eval_snapshot_spec.specs.Snapshot.{declared_snapshot, snapshot}
use Rattle.eval_snapshot_proof.proofs.SnapshotNumbers.{by_names, snapshot_numbers}
use Rattle.eval_snapshot_proof.proofs.in_range.snapshots_are_in_range.Goals as goal

pub returns : goal.returns
returns c =
    let stay = c.numbers_stay_in_range.ensures in
    let numbers = c.evaluated_numbers_are_in_range.ensures in
    record {
      range = λ m s evaluated kept v h begins after.
          by_names m s kept h (λ name names after valid single bounded.
          let t = declared_snapshot m s (name ∷ names) kept in
          let inside = snapshot_numbers stay.own stay.declared numbers.globals numbers.memories m s (name ∷ names) kept v h begins after in
          c.valid_modules_are_in_range.ensures t valid single bounded inside) evaluated after;
      memory = λ m s evaluated kept valid single bounded. c.valid_code_names_memory_zero.ensures (snapshot m s evaluated kept) valid single;
    }
