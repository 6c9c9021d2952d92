use Rattle.std.proofs.Common.{◌≤◌, ◌-◌}
use Rattle.block_pool.specs.Pages.{part}
use Rattle.block_pool.specs.Table.{pages_of}
use Rattle.block_pool.proofs.Rooms.{Puts}
use Rattle.block_pool.proofs.table.Table.copy_forward.Given as goal

abbrev pub invariant-loop-done : goal.invariant-loop-done
invariant-loop-done l = (l.done ≤ l.count) × Puts l.initial.self l.self l.to (part (pages_of l.initial.self).now.bytes l.from l.done)

abbrev pub decreases-loop-done : goal.decreases-loop-done
decreases-loop-done l = l.count - l.done
