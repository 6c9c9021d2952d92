use Rattle.base_lists.proofs.Common.{◌≡◌, Some, length, ap, arith, refl, subst, slice_get, slice_get_read}
use Rattle.eval_machine.proofs.ElementsInOrder.{AllStand, all_stand, one_filled, one_stopped}
use Rattle.eval_machine.proofs.slots.Slots.fill.Goals as goal

pub returns-in-Some : goal.returns-in-Some
returns-in-Some c = one_stopped c.args.input.now c.loop-i.i c.loop-i.self c.copy_if_active.new.self c.index-segments-i.result
    (subst (λ l. slice_get l c.loop-i.i ≡ Some c.index-segments-i.result) c.as_slice-segments.ensures (slice_get_read c.as_slice-segments.result.now (length c.as_slice-segments.result.now) c.loop-i.i c.index-segments-i.result refl c.loop-i-test.true c.index-segments-i.is)) c.loop-i.invariant
    c.in_ok-stop.field-0 c.in-Some.stop c.in_ok-stop.ensures c.in-Some.is

pub loop-i-preserved : goal.loop-i-preserved
loop-i-preserved c = one_filled c.args.input.now c.loop-i.i c.loop-i.self c.copy_if_active.new.self c.index-segments-i.result
    (subst (λ l. slice_get l c.loop-i.i ≡ Some c.index-segments-i.result) c.as_slice-segments.ensures (slice_get_read c.as_slice-segments.result.now (length c.as_slice-segments.result.now) c.loop-i.i c.index-segments-i.result refl c.loop-i-test.true c.index-segments-i.is)) c.loop-i.invariant
    c.in_ok-stop.field-0 c.in_ok-stop.ensures c.in-None.is

pub returns : goal.returns
returns c =
    let at_end : c.loop-i.i ≡ length c.args.input.now.elems = omega (arith, c.loop-i-test.false, c.loop-i.auto.i-end, ap length c.as_slice-segments.ensures) in
    all_stand c.args.input.now c.loop-i.self (subst (λ n. AllStand c.args.input.now n c.loop-i.self) at_end c.loop-i.invariant)
