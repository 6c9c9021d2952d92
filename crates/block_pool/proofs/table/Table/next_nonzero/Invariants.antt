use Rattle.std.proofs.Common.{◌≤◌, ◌-◌}
use Rattle.block_pool.specs.Pages.{IsZeroTo}
use Rattle.block_pool.specs.Table.{pages_of}
use Rattle.block_pool.proofs.table.Table.next_nonzero.Given as goal

abbrev pub invariant-loop-at : goal.invariant-loop-at
invariant-loop-at l = (l.from ≤ l.at) × IsZeroTo (pages_of l.self).now.bytes l.from l.at

abbrev pub decreases-loop-at : goal.decreases-loop-at
decreases-loop-at l = l.self.size - l.at
