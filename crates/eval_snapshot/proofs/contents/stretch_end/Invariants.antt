use Rattle.std.proofs.Common.{◌≡◌, ◌+◌, ◌-◌, ◌<◌, ◌≤◌, length}
use Rattle.eval_snapshot_spec.specs.Contents.{stretches_from}
use Rattle.eval_snapshot.specs.Scan.{nonzero_from}
use Rattle.eval_snapshot.proofs.contents.stretch_end.Given as goal

abbrev pub invariant-loop-next : goal.invariant-loop-next
invariant-loop-next l = record {
  ordered : l.first ≤ l.last;
  inside : l.last < length l.paged.now.bytes;
  is : stretches_from l.first l.first (nonzero_from l.paged.now.bytes (l.first + 1)) ≡ stretches_from l.first l.last (nonzero_from l.paged.now.bytes (l.last + 1));
}

abbrev pub decreases-loop-next : goal.decreases-loop-next
decreases-loop-next l = length l.paged.now.bytes - l.last
