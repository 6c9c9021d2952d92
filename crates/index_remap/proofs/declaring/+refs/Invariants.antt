use Rattle.std.proofs.Common.{◌≡◌, drop}
use Rattle.base_kept.specs.Marks.{marked_all}
use Rattle.index_remap.specs.References.{refs_all}
use Rattle.index_remap.proofs.declaring.+refs.Given as goal

abbrev pub invariant-mark_body-loop-instr : goal.invariant-mark_body-loop-instr
invariant-mark_body-loop-instr l = marked_all l.marks.items (refs_all (drop l.instr-index l.body)) ≡ marked_all l.initial.marks.items (refs_all l.body)
