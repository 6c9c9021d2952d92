use Rattle.std.proofs.Common.{◌≡◌, drop}
use Rattle.base_kept.specs.Marks.{marked_all}
use Rattle.index_remap.specs.References.{offset_refs}
use Rattle.index_remap.proofs.declaring.mark_offsets.Given as goal

abbrev pub invariant-loop-segment : goal.invariant-loop-segment
invariant-loop-segment l = marked_all l.marks.items (offset_refs (drop l.segment-index l.elems)) ≡ marked_all l.initial.marks.items (offset_refs l.elems)
