use Rattle.base_lists.proofs.Common.{◌≡◌, Some, length, refl, subst, slice_get, slice_get_read}
use Rattle.eval_machine.proofs.DataInOrder.{one_poured, one_stopped}
use Rattle.eval_machine.proofs.boot.pour_all.Goals as goal

pub returns-in-Some-clause-pours : goal.returns-in-Some-clause-pours
returns-in-Some-clause-pours c =
    one_stopped c.args.input.now c.requires.single c.args.memory.now c.args.dropped.now c.loop-i.i c.loop-i.memory c.loop-i.dropped c.loop-i.invariant.0 c.loop-i.invariant.1.0 c.index-segments-i.result
    (subst (λ l. slice_get l c.loop-i.i ≡ Some c.index-segments-i.result) c.as_slice-segments.ensures (slice_get_read c.as_slice-segments.result.now (length c.as_slice-segments.result.now) c.loop-i.i c.index-segments-i.result refl c.loop-i-test.true c.index-segments-i.is)) c.pour_if_active.result
    c.in-Some.stop c.pour_if_active.new.memory c.pour_if_active.new.dropped
    c.pour_if_active.ensures.pours c.in-Some.is

pub loop-i-preserved : goal.loop-i-preserved
loop-i-preserved c = (
  one_poured c.args.input.now c.requires.single c.args.memory.now c.args.dropped.now c.loop-i.i c.loop-i.memory c.loop-i.dropped c.loop-i.invariant.0 c.loop-i.invariant.1.0 c.index-segments-i.result
      (subst (λ l. slice_get l c.loop-i.i ≡ Some c.index-segments-i.result) c.as_slice-segments.ensures (slice_get_read c.as_slice-segments.result.now (length c.as_slice-segments.result.now) c.loop-i.i c.index-segments-i.result refl c.loop-i-test.true c.index-segments-i.is)) c.pour_if_active.result
      c.pour_if_active.new.memory c.pour_if_active.new.dropped
      c.pour_if_active.ensures.pours c.in-None.is,
  (c.pour_if_active.ensures.fits, c.pour_if_active.ensures.unmarked),
)
