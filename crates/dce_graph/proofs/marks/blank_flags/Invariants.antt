use Rattle.std.proofs.Common.{◌≡◌, replicate, false}
use Rattle.dce_graph.proofs.marks.blank_flags.Given as goal

abbrev pub invariant-loop-place : goal.invariant-loop-place
invariant-loop-place l = l.flags ≡ replicate l._place false
