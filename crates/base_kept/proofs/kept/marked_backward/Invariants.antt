use Rattle.std.proofs.Common.{◌≡◌, ◌++◌, ◌≤◌, length, reverse}
use Rattle.base_kept.specs.Kept.{kept}
use Rattle.base_kept.proofs.kept.marked_backward.Given as goal

abbrev pub invariant-loop-item : goal.invariant-loop-item
invariant-loop-item g l = record {
  many : length l.items ≤ length l.marks;
  is : kept l.marks l.items ++ reverse l.back ≡ kept l.marks l.fn.items;
}

abbrev pub decreases-loop-item : goal.decreases-loop-item
decreases-loop-item g l = length l.items
