use Rattle.eval_machine.proofs.InitialContents.{kept_defined}
use Rattle.eval_machine.proofs.initial.defined_slots.Goals as goal

pub loop-i-preserved : goal.loop-i-preserved
loop-i-preserved c =
    kept_defined c.args.input.now c.loop-i.slots c.keep.new.self c.loop-i.i c.as_slice-defs.result.now _ c.defined_slot.result c.as_slice-defs.ensures c.loop-i-test.true c.requires c.defined_slot.ensures.ty c.defined_slot.ensures.standing c.defined_slot.ensures.value
    c.in_ok-keep.ensures.ok c.loop-i.invariant
