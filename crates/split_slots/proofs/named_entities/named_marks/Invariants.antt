use Rattle.base_lists.proofs.Common.{take, list_any}
use Rattle.split_spec.specs.Prelude.{defined_at}
use Rattle.split_slots.specs.OperandMarks.{Notes, body_names}
use Rattle.split_slots.proofs.named_entities.named_marks.Given as goal

abbrev pub invariant-loop-at : goal.invariant-loop-at
invariant-loop-at l = Notes (λ s i. list_any (λ f. body_names l.slots f.body s i) (defined_at l.module (take l.at l.own))) l.initial.marks l.marks
