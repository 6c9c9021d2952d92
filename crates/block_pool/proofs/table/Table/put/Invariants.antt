use Rattle.std.proofs.Common.{◌≤◌, ◌-◌, length, take}
use Rattle.block_pool.proofs.Rooms.{Puts}
use Rattle.block_pool.proofs.table.Table.put.Given as goal

abbrev pub invariant-loop-done : goal.invariant-loop-done
invariant-loop-done l = (l.done ≤ length l.bytes) × Puts l.initial.self l.self l.at (take l.done l.bytes)

abbrev pub decreases-loop-done : goal.decreases-loop-done
decreases-loop-done l = length l.bytes - l.done
