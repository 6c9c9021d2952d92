use Rattle.base_lists.proofs.Common.{◌||◌, [], cons_option, list_any}
use Rattle.wasm_tree_spec.specs.Prelude.{listed}
use Rattle.split_slots.specs.OperandMarks.{named_by}
use Rattle.split_slots.proofs.MarkedOperands.{both_listed, notes_as, then_notes}
use Rattle.split_slots.proofs.named_entities.note_operands.Goals as goal

pub returns : goal.returns
returns c =
    let slots = c.args.slots.now in
    let os = c.args.operands in
    notes_as (λ s i. list_any (named_by slots s i) (cons_option os.first []) || list_any (named_by slots s i) (cons_option os.second [])) (λ s i. list_any (named_by slots s i) (listed os))
    c.args.marks.now c.note_one-2.new.marks (λ s i. both_listed (named_by slots s i) os)
    (then_notes (λ s i. list_any (named_by slots s i) (cons_option os.first [])) (λ s i. list_any (named_by slots s i) (cons_option os.second [])) c.args.marks.now c.note_one.new.marks c.note_one-2.new.marks c.note_one.ensures c.note_one-2.ensures)
