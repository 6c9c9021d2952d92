use Rattle.base_lists.proofs.Common.{◌∙◌, ap, Some, slice_set, slice_index}
use Rattle.split_slots.proofs.SlotTables.{no_slots, one_slot}
use Rattle.split_slots.proofs.slots.slots_of.Goals as goal

pub loop-slot-init : goal.loop-slot-init
loop-slot-init c = c.in_ok-slots.ensures ∙ no_slots 0 c.args.count

pub loop-slot-preserved : goal.loop-slot-preserved
loop-slot-preserved c =
    c.put_slot.ensures ∙ ap (λ xs. slice_set xs (slice_index c.args.moved.now c.loop-slot.slot) (Some c.loop-slot.slot)) c.loop-slot.invariant
    ∙ one_slot c.args.moved.now c.args.count c.loop-slot.slot c.requires.ascend c.requires.there c.loop-slot-test.true
