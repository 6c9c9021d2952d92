use Rattle.std.proofs.Common.{◌≤◌, ◌+◌, ◌-◌}
use Rattle.block_pool.specs.Pages.{part}
use Rattle.block_pool.specs.Table.{pages_of}
use Rattle.block_pool.proofs.Rooms.{Puts}
use Rattle.block_pool.proofs.table.Table.copy_backward.Given as goal

abbrev pub invariant-loop-left : goal.invariant-loop-left
invariant-loop-left l = (l.left ≤ l.count) × Puts l.initial.self l.self (l.to + l.left) (part (pages_of l.initial.self).now.bytes (l.from + l.left) (l.count - l.left))

abbrev pub decreases-loop-left : goal.decreases-loop-left
decreases-loop-left l = l.left
