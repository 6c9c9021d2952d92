use Rattle.std.proofs.Common.{refl, arith}
use Rattle.eval_snapshot_spec.specs.Contents.{stretch_segment}
use Rattle.eval_snapshot.proofs.Scanned.{contents_more, contents_end}
use Rattle.eval_snapshot.proofs.contents.add_contents.Goals as goal

-- src/contents.rt:78:5
pub loop-first-preserved : goal.loop-first-preserved
loop-first-preserved c =
    let inside = c.stretch_end-last.ensures.inside in
    record {
      inside = omega (arith, inside);
      is =
          contents_more (stretch_segment c.args.memory c.args.paged.now.now.bytes) c.args.paged.now.now.bytes c.loop-first.segments c.keep.new.self _ c.in_ok-segment.field-0 c.loop-first.from c.in-Some.first c.stretch_end-last.result c.in-Some.ensures.some
          c.stretch_end-last.ensures c.in_ok-segment.ensures c.in_ok-keep.ensures.ok c.loop-first.invariant.is;
    }

-- src/contents.rt:68:1
pub returns : goal.returns
returns c = contents_end (stretch_segment c.args.memory c.args.paged.now.now.bytes) c.args.paged.now.now.bytes c.loop-first.segments _ c.loop-first.from (c.in_default.ensures.none.0 refl) c.loop-first.invariant.is
