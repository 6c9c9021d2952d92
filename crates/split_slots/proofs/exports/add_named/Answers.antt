use Rattle.std.proofs.Common.{false, get_or}
use Rattle.split_slots.proofs.AddedExports.{mark_there, one_more}
use Rattle.split_slots.proofs.exports.add_named.Goals as goal

pub loop-at-preserved : goal.loop-at-preserved
loop-at-preserved c =
    let marks = c.args.marks.now in
    let k = c.loop-at.at in
    one_more c.args.prefix.now c.args.space marks k (get_or marks k false) (mark_there marks k c.loop-at-test.true) c.args.exports.now c.loop-at.exports c.add_one.new.exports c.in_ok-add_one.ensures c.loop-at.invariant
