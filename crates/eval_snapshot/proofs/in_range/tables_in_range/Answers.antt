use Rattle.eval_snapshot_proof.specs.Ranges.{HasFewSlots}
use Rattle.eval_snapshot.proofs.InRange.{every_more}
use Rattle.eval_snapshot.proofs.in_range.tables_in_range.Goals as goal

pub loop-table-preserved : goal.loop-table-preserved
loop-table-preserved c = every_more HasFewSlots c.args.tables.now c.loop-table.table-index _ c.loop-table-test.true c.table_in_range.ensures c.loop-table.invariant
