use Rattle.std.proofs.Common.{arith}
use Rattle.block_pool.proofs.Scanned.{none_behind}
use Rattle.block_pool.proofs.table.Table.next_nonzero.Goals as goal

pub returns-clause-none : goal.returns-clause-none
returns-clause-none c = none_behind c.args.self.now c.args.from c.loop-at.at (omega arith) c.loop-at.invariant.1
