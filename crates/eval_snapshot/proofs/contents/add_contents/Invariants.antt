use Rattle.std.proofs.Common.{◌≡◌, ◌++◌, ◌-◌, ◌≤◌, length, map}
use Rattle.eval_snapshot_spec.specs.Contents.{contents, stretch_segment, stretches_over}
use Rattle.eval_snapshot.specs.Scan.{nonzero_from}
use Rattle.eval_snapshot.proofs.contents.add_contents.Given as goal

abbrev pub invariant-loop-first : goal.invariant-loop-first
invariant-loop-first l = record {
  inside : l.from ≤ length l.paged.now.bytes;
  is : l.segments ++ map (stretch_segment l.memory l.paged.now.bytes) (stretches_over (nonzero_from l.paged.now.bytes l.from)) ≡ l.initial.segments ++ contents l.memory l.paged.now.bytes;
}

abbrev pub decreases-loop-first : goal.decreases-loop-first
decreases-loop-first l = length l.paged.now.bytes - l.from
