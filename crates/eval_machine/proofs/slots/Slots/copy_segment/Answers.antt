use Rattle.base_lists.proofs.Common.{◌≡◌, ◌∙◌, sym, arith, to_z, of_z, w32, ints}
use Rattle.eval_machine.proofs.ElementStops.{segment_filled}
use Rattle.eval_machine.proofs.slots.Slots.copy_segment.Goals as goal

pub returns : goal.returns
returns c =
    let same : to_z w32 (of_z w32 c.in-I32.place) ≡ c.in-I32.place = omega (arith, ints) in
    segment_filled c.args.input.now c.args.table c.unsigned-place.result c.in-I32.place c.args.offset c.args.items.now c.in-Some.ty c.args.self.now c.copy_items.new.self c.in-I32.is (rw same at c.unsigned-place.ensures)
    (omega (arith, c.if-table-imported.false, c.requires)) (sym c.defined_table.ensures ∙ c.in-Some.is) (omega (arith, c.if-from-items.false, c.from.ensures, c.from-2.ensures)) c.in_ok-copy_items.ensures
