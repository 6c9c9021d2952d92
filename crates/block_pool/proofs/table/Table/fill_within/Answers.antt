use Rattle.base_lists.proofs.Common.{◌≡◌, length, replicate, length-replicate}
use Rattle.block_pool.proofs.Stored.{written_at}
use Rattle.block_pool.proofs.table.Table.fill_within.Goals as goal

pub returns-clause-sound : goal.returns-clause-sound
returns-clause-sound c =
    let e = c.own-block.ensures in
    let many : length (replicate c.args.count c.args.byte) ≡ c.args.count = length-replicate c.args.count c.args.byte in
    (written_at c.args.self.now c.own-block.new.self c.fill.new.self c.args.at c.own-block.result.number (replicate c.args.count c.args.byte) e.sound e.claims e.fixed e.named e.private c.fill.ensures.filled
    (rw many c.requires.some) (rw many c.requires.within) (rw (many, e.fixed.size) c.requires.inside)).0

pub returns-clause-writes : goal.returns-clause-writes
returns-clause-writes c =
    let e = c.own-block.ensures in
    let many : length (replicate c.args.count c.args.byte) ≡ c.args.count = length-replicate c.args.count c.args.byte in
    (written_at c.args.self.now c.own-block.new.self c.fill.new.self c.args.at c.own-block.result.number (replicate c.args.count c.args.byte) e.sound e.claims e.fixed e.named e.private c.fill.ensures.filled
    (rw many c.requires.some) (rw many c.requires.within) (rw (many, e.fixed.size) c.requires.inside)).1
