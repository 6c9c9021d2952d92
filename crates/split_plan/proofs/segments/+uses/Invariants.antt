use Rattle.std.proofs.Common.{◌≡◌, drop}
use Rattle.split_plan.specs.SegmentReferences.{uses_segment}
use Rattle.split_plan.proofs.segments.+uses.Given as goal

abbrev pub invariant-uses_segments-loop-instr : goal.invariant-uses_segments-loop-instr
invariant-uses_segments-loop-instr l = uses_segment l.body ≡ uses_segment (drop l.instr-index l.body)
