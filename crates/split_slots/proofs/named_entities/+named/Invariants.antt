use Rattle.std.proofs.Common.{take}
use Rattle.split_slots.specs.OperandMarks.{Notes, body_names}
use Rattle.split_slots.proofs.named_entities.+named.Given as goal

abbrev pub invariant-note_body-loop-instr : goal.invariant-note_body-loop-instr
invariant-note_body-loop-instr l = Notes (body_names l.slots (take l.instr-index l.body)) l.initial.marks l.marks
