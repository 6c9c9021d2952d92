-- What `snapshot` returns: the module, or why there is none.
use Rattle.std.specs.Prelude.{◌≡◌, List, length, Option, Some, None, Result, Ok, Err}
use Rattle.wasm_tree_spec.specs.Prelude.{Which, Module}
use Rattle.wasm_tree.specs.declared.which.Which.TheVariants as which
use Rattle.module_limits.specs.Counts.{or_above}
use Rattle.wasm_meaning.specs.Prelude.{Text}
use Rattle.eval_spec.specs.Prelude.{State}
use Rattle.eval_snapshot_spec.specs.Snapshot.{snapshot, too_much}
use Rattle.eval_snapshot.specs.declared.faults.SnapshotFault.{SnapshotFault}
use Rattle.eval_snapshot.specs.declared.faults.SnapshotFault.TheVariants.{TooMany}

-- The fault if a count is too great, and otherwise the module.
abbrev pub outcome : Option Which → Module → Result Module SnapshotFault
outcome (Some which) m = Err (TooMany which)
outcome None m = Ok m

-- What `snapshot` returns, unless memory runs out.
abbrev pub snapshot_of : Module → State → (evaluated kept : List Text) → Result Module SnapshotFault
snapshot_of m s evaluated kept = outcome (too_much m s evaluated kept) (snapshot m s evaluated kept)

-- `snapshot` returns this.
abbrev pub SnapshotGives : Module → State → (evaluated kept : List Text) → Result Module SnapshotFault → Type 0
SnapshotGives m s evaluated kept result = snapshot_of m s evaluated kept ≡ result

-- The first of the counts of types, imports and functions that is above its limit.
abbrev pub first_counts : Module → Option Which
first_counts m = or_above (length m.types) which.Types (or_above (length m.imports) which.Imports (or_above (length m.funcs) which.Functions None))
