use Rattle.std.proofs.Common.{length}
use Rattle.block_pool.proofs.Plain.{Winds}
use Rattle.block_pool.proofs.table.Table.commit.Given as goal

abbrev pub invariant-loop-self : goal.invariant-loop-self
invariant-loop-self l = Winds l.initial.self l.self

abbrev pub decreases-loop-self : goal.decreases-loop-self
decreases-loop-self l = length l.self.changed.items
