use Rattle.std.proofs.Common.{◌≡◌}
use Rattle.block_pool.proofs.Rooms.{count}
use Rattle.block_pool.proofs.Counted.{upto}
use Rattle.block_pool.proofs.table.Table.has_room.Given as goal

abbrev pub invariant-loop-number : goal.invariant-loop-number
invariant-loop-number l = l.total ≡ count (upto l.self l.at l.number)
