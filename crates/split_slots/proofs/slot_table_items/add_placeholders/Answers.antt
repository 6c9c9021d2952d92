use Rattle.base_lists.proofs.Common.{arith, every_at, slice_get_there, slice_index_is}
use Rattle.split_slots.proofs.AddedPlaceholders.{one_placeholder}
use Rattle.split_slots.proofs.slot_table_items.add_placeholders.Goals as goal

pub add_placeholder-requires-clause-typed : goal.add_placeholder-requires-clause-typed
add_placeholder-requires-clause-typed c =
    let moved = c.args.moved.now in
    let (f, at) = slice_get_there moved c.loop-slot.slot c.loop-slot-test.true in
    let lt = every_at _ moved c.loop-slot.slot f c.requires.typed at in
    let is = slice_index_is moved c.loop-slot.slot f at in
    omega (arith, lt, is)

pub loop-slot-preserved : goal.loop-slot-preserved
loop-slot-preserved c =
    one_placeholder c.args.namespace.now c.args.types.now c.args.moved.now c.loop-slot.slot c.loop-slot-test.true c.args.imports.now c.loop-slot.imports c.add_placeholder.new.imports c.in_ok-add_placeholder.ensures c.loop-slot.invariant
