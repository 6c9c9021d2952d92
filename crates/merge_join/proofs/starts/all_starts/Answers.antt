use Rattle.std.proofs.Common.{arith}
use Rattle.merge_spec.specs.Parts.{named_modules}
use Rattle.merge_spec.specs.Merged.{start_of, starts}
use Rattle.merge_join.proofs.ByPart.{part_more, part_all, module_exists}
use Rattle.merge_join.proofs.starts.all_starts.Goals as goal

pub loop-part-preserved : goal.loop-part-preserved
loop-part-preserved c =
    let ps = named_modules c.args.joining.now.parts.now in
    let m = module_exists c.args.joining.now.parts.now c.loop-part.part c.loop-part-test.true in
    part_more (λ p m. start_of ps p m.start) ps c.loop-part.part m.0 c.loop-part.starts c.add_start.new.starts m.1 c.loop-part.invariant (c.in_ok-add_start.ensures m.0 m.1)

pub returns : goal.returns
unfolding starts
returns c =
    let ps = named_modules c.args.joining.now.parts.now in
    part_all (λ p m. start_of ps p m.start) c.args.joining.now.parts.now c.loop-part.part c.loop-part.starts (omega (arith, c.loop-part-test.false)) c.loop-part.invariant
