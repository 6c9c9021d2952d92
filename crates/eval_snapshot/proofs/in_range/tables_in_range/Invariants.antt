use Rattle.std.proofs.Common.{take}
use Rattle.base_lists.specs.Every.{Every}
use Rattle.eval_snapshot_proof.specs.Ranges.{HasFewSlots}
use Rattle.eval_snapshot.proofs.in_range.tables_in_range.Given as goal

abbrev pub invariant-loop-table : goal.invariant-loop-table
invariant-loop-table l = Every HasFewSlots (take l.table-index l.tables)
