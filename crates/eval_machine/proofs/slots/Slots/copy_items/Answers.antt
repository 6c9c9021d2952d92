use Rattle.std.proofs.lemmas.Option.{slice_get-get_or}
use Rattle.eval_machine.proofs.CopiedItems.{one_more}
use Rattle.eval_machine.proofs.slots.Slots.copy_items.Goals as goal

pub loop-i-preserved : goal.loop-i-preserved
loop-i-preserved c =
    one_more c.args.self.now c.loop-i.self c.set.new.self c.args.table c.args.place c.loop-i.i c.args.items.now _ c.item_slot.result (slice_get-get_or c.args.items.now c.loop-i.i _ c.loop-i-test.true) c.item_slot.ensures c.loop-i.invariant c.in_ok-set.ensures
