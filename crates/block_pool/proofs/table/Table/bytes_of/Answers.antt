use Rattle.std.proofs.Common.{Some, None, sym, ap, ◌∙◌, inl}
use Rattle.block_pool.proofs.Stored.{read_present}
use Rattle.block_pool.proofs.Reading.{is_block, is_zero_block}
use Rattle.block_pool.proofs.table.Table.bytes_of.Goals as goal

pub bytes-requires : goal.bytes-requires
bytes-requires c =
    let at = read_present c.args.self.now.slots.items c.args.number c.index.result.now (Some c.in-Some.present) c.requires.inside c.index.ensures c.in-Some.ensures in
    c.requires.sound.owns.live c.args.number c.block.result.number (inl (at ∙ ap Some (sym c.block.ensures)))

pub returns-in-Some-clause-some : goal.returns-in-Some-clause-some
returns-in-Some-clause-some c =
    let at = read_present c.args.self.now.slots.items c.args.number c.index.result.now (Some c.in-Some.present) c.requires.inside c.index.ensures c.in-Some.ensures in
    is_block c.args.self.now c.args.number c.in-Some.present c.bytes.result.now at (rw c.block.ensures at c.bytes.ensures.bytes) c.bytes.ensures.length

pub returns-in-None-clause-none : goal.returns-in-None-clause-none
returns-in-None-clause-none c = is_zero_block c.args.self.now c.args.number (read_present c.args.self.now.slots.items c.args.number c.index.result.now None c.requires.inside c.index.ensures c.in-None.ensures)
