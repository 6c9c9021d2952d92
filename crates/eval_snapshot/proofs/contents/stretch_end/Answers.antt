use Rattle.std.proofs.Common.{◌∙◌, refl, arith}
use Rattle.eval_snapshot.proofs.Scanned.{goes_on, ends_before, ends_last}
use Rattle.eval_snapshot.proofs.contents.stretch_end.Goals as goal

-- src/contents.rt:25:13
pub returns-then-next-last-gt-PARTING : goal.returns-then-next-last-gt-PARTING
returns-then-next-last-gt-PARTING c =
    let far = c.if-next-last-gt-PARTING.true in
    let inv = c.loop-next.invariant in
    record { ordered = inv.ordered; inside = inv.inside; is = inv.is ∙ ends_before c.args.paged.now.now.bytes c.args.first c.loop-next.last c.in-Some.next c.in-Some.ensures.some (omega (arith, far)) }

-- src/contents.rt:23:5
pub loop-next-preserved : goal.loop-next-preserved
loop-next-preserved c =
    let near = c.if-next-last-gt-PARTING.false in
    let inv = c.loop-next.invariant in
    let ordered = inv.ordered in
    let behind = c.in-Some.ensures.some.behind in
    record { ordered = omega (arith, ordered, behind); inside = c.in-Some.ensures.some.inside; is = inv.is ∙ goes_on c.args.paged.now.now.bytes c.args.first c.loop-next.last c.in-Some.next c.in-Some.ensures.some (omega (arith, near)) }

-- src/contents.rt:17:1
pub returns : goal.returns
returns c =
    let inv = c.loop-next.invariant in
    record { ordered = inv.ordered; inside = inv.inside; is = inv.is ∙ ends_last c.args.paged.now.now.bytes c.args.first c.loop-next.last (c.in_default.ensures.none.0 refl) }
