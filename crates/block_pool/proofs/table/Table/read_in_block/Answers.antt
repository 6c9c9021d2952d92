use Rattle.std.proofs.Common.{ℕ, length, ◌∙◌}
use Rattle.block_pool.proofs.Rooms.{next_piece}
use Rattle.block_pool.proofs.Reading.{block_part, zero_part}
use Rattle.block_pool.proofs.table.Table.read_in_block.Goals as goal

pub returns-in-Some : goal.returns-in-Some
returns-in-Some c =
    let n : ℕ = length c.args.out.now in
    c.copy_from_slice.ensures.after ∙ (next_piece c.in-Some.bytes.now c.args.offset n ∙ block_part c.args.self.now c.args.number c.args.offset n c.requires.within c.requires.inside c.in-Some.bytes.now c.in-Some.ensures.some)

pub returns-in-None : goal.returns-in-None
returns-in-None c =
    let n : ℕ = length c.args.out.now in
    c.fill.ensures.after (λ y e. e) ∙ zero_part c.args.self.now c.args.number c.args.offset n c.requires.within c.requires.inside c.in-None.ensures.none
