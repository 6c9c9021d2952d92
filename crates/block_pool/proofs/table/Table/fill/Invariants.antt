use Rattle.std.proofs.Common.{◌≤◌, ◌-◌, replicate}
use Rattle.block_pool.proofs.Rooms.{Puts}
use Rattle.block_pool.proofs.table.Table.fill.Given as goal

abbrev pub invariant-loop-done : goal.invariant-loop-done
invariant-loop-done l = (l.done ≤ l.count) × Puts l.initial.self l.self l.at (replicate l.done l.byte)

abbrev pub decreases-loop-done : goal.decreases-loop-done
decreases-loop-done l = l.count - l.done
