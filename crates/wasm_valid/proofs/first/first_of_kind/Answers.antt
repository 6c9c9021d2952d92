use Rattle.std.proofs.Common.{◌≡◌, ◌<◌, true, subst, below_more, arith}
use Rattle.wasm_valid.proofs.Order.{span_pass, span_fail}
use Rattle.wasm_valid.proofs.first.first_of_kind.Goals as goal

pub returns-then-not-branch : goal.returns-then-not-branch
returns-then-not-branch c =
    span_fail c.args.spaces.now.module.now c.args.kind _ c.loop-place.place _ (subst (λ n. c.loop-place.place < n) c.count_of-place-end.ensures c.loop-place-test.true) c.loop-place.invariant
    (λ h. let holds : c.in_ok-holds_at.field-0 ≡ true = c.in_ok-holds_at.ensures.1 h in cc) c.index_of-index.ensures

pub loop-place-preserved : goal.loop-place-preserved
loop-place-preserved c = below_more _ _ c.loop-place.invariant (c.in_ok-holds_at.ensures.0 c.if-not-branch.false)

pub returns : goal.returns
returns c = span_pass c.args.spaces.now.module.now c.args.kind _ (λ k lt. c.loop-place.invariant k (omega (arith, c.count_of-place-end.ensures)))
