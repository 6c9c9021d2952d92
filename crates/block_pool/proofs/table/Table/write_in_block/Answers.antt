use Rattle.std.proofs.Common.{◌<◌, length, arith}
use Rattle.block_pool.proofs.Written.{block_written}
use Rattle.block_pool.proofs.table.Table.write_in_block.Goals as goal

pub returns-clause-sound : goal.returns-clause-sound
returns-clause-sound c =
    let e = c.own-block.ensures in
    let inside : c.args.number < length c.own-block.new.self.slots.items = omega (arith, e.fixed.slots, c.requires.sound.slots) in
    (block_written c.args.self.now c.own-block.new.self c.write.new.self c.args.number c.own-block.result.number c.args.offset c.args.bytes.now e.sound e.claims e.fixed inside e.named e.private c.write.ensures.wrote c.requires.some c.requires.within (rw e.fixed.size c.requires.inside)).0

pub returns-clause-writes : goal.returns-clause-writes
returns-clause-writes c =
    let e = c.own-block.ensures in
    let inside : c.args.number < length c.own-block.new.self.slots.items = omega (arith, e.fixed.slots, c.requires.sound.slots) in
    (block_written c.args.self.now c.own-block.new.self c.write.new.self c.args.number c.own-block.result.number c.args.offset c.args.bytes.now e.sound e.claims e.fixed inside e.named e.private c.write.ensures.wrote c.requires.some c.requires.within (rw e.fixed.size c.requires.inside)).1
