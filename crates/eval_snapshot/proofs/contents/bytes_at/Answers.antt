use Rattle.std.proofs.Common.{◌∙◌, arith}
use Rattle.eval_snapshot.proofs.Scanned.{part_more}
use Rattle.eval_snapshot.proofs.contents.bytes_at.Goals as goal

-- src/contents.rt:39:5
pub loop-at-preserved : goal.loop-at-preserved
loop-at-preserved c =
    let inside = c.requires.inside in
    let before = c.loop-at-test.true in
    c.in_ok-keep.ensures.ok ∙ part_more c.args.paged.now.now.bytes c.loop-at.bytes c.args.first c.loop-at.at c.load.result (omega (arith, inside, before)) c.loop-at.invariant c.load.ensures.value
