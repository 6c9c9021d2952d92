use Rattle.std.proofs.Common.{◌≡◌}
use Rattle.block_pool.specs.Pages.{part}
use Rattle.eval_snapshot.proofs.contents.bytes_at.Given as goal

abbrev pub invariant-loop-at : goal.invariant-loop-at
invariant-loop-at l = l.bytes ≡ part l.paged.now.bytes l.first l.at
