use Rattle.std.proofs.Common.{◌≡◌, subst, length, refl, [], ◌∷◌, length-append, arith}
use Rattle.wasm_bytes.specs.FrameViews.{Stand}
use Rattle.wasm_bytes.proofs.Places.{front_none, goes_on_more, goes_on_bad, goes_on_end, stand_more, whole_more}
use Rattle.wasm_bytes.proofs.framing.frames_behind.Goals as goal

pub loop-at-init : goal.loop-at-init
loop-at-init c = record {
  inside = omega arith;
  few = omega arith;
  counted = rw c.new-frames.ensures refl;
  stand = rw c.new-frames.ensures refl;
  each = λ i lt. absurd (let bad = rw c.new-frames.ensures at lt in omega (arith, bad));
  goes_on =
      (length c.args.bytes.now, omega arith, rw c.new-frames.ensures (front_none _));
}

pub returns-in_default-clause-gives : goal.returns-in_default-clause-gives
returns-in_default-clause-gives c = let l = c.loop-at in goes_on_bad _ l.frames l.at l.last l.count c.loop-at-test.true c.in_default.ensures.gives l.invariant.goes_on

pub loop-at-preserved : goal.loop-at-preserved
loop-at-preserved c =
    let l = c.loop-at in
    let f = c.in-Some.frame in
    let in_it = c.in-Some.ensures.inside in
    record {
      inside = in_it.1;
      few = omega (arith, in_it.0, l.invariant.few);
      counted = rw c.in-Ok.ensures.ok (omega (arith, length-append l.frames (f ∷ []), l.invariant.counted));
      stand = stand_more _ 8 l.frames f c.keep.new.self l.at c.in-Ok.ensures.ok c.in-Some.ensures.stands l.invariant.stand;
      each = whole_more _ l.frames f c.keep.new.self c.in-Ok.ensures.ok in_it.1 l.invariant.each;
      goes_on = goes_on_more _ l.frames f c.keep.new.self l.at l.last c.place_after-last.result l.count c.loop-at-test.true in_it.0 c.in-Ok.ensures.ok c.place_after-last.ensures c.in-Some.ensures.gives l.invariant.goes_on;
    }

pub returns-clause-gives : goal.returns-clause-gives
returns-clause-gives c = let l = c.loop-at in goes_on_end _ l.frames l.at l.last l.count (omega (arith, c.loop-at-test.false)) l.invariant.goes_on

pub returns-clause-inside : goal.returns-clause-inside
returns-clause-inside c = let l = c.loop-at in record { few = omega (arith, l.invariant.counted, l.invariant.few, l.invariant.inside); each = l.invariant.each }

pub returns-clause-stand : goal.returns-clause-stand
returns-clause-stand c = let l = c.loop-at in let ends : l.at ≡ length c.args.bytes.now = omega (arith, l.invariant.inside, c.loop-at-test.false) in subst (Stand c.args.bytes.now 8 l.frames) ends l.invariant.stand
