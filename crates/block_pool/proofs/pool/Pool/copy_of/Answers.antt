use Rattle.std.proofs.Common.{rules, ◌≡◌, ◌<◌, length, Some, sym, ◌∙◌, [], slice_index_or}
use Rattle.block_pool.specs.Blocks.{held}
use Rattle.block_pool.proofs.Kept.{inside, bytes_are, any_default}
use Rattle.block_pool.proofs.pool.Pool.copy_of.Goals as goal

pub index-bytes-requires : goal.index-bytes-requires
index-bytes-requires c =
    let h : c.args.block.now.number < length c.self.inside.blocks.items = inside _ _ _ c.self.invariant.0 c.args.block.now.number (rw (← c.self.view_is) at c.requires.live) in search rules

pub returns-clause-copy : goal.returns-clause-copy
returns-clause-copy c =
    let h : c.args.block.now.number < length c.self.inside.blocks.items = inside _ _ _ c.self.invariant.0 c.args.block.now.number (rw (← c.self.view_is) at c.requires.live) in
    let e : held c.args.self.now c.args.block.now.number ≡ Some (slice_index_or c.self.inside.blocks.items c.args.block.now.number []) =
    rw (← c.self.view_is) (bytes_are _ _ _ c.self.invariant.0 c.args.block.now.number (rw (← c.self.view_is) at c.requires.live)) in
    let f : slice_index_or c.self.inside.blocks.items c.args.block.now.number [] ≡ c.index-bytes.result.now = any_default c.self.inside.blocks.items c.args.block.now.number [] c.index-bytes.result.now h ∙ sym c.index-bytes.ensures in
    rw e (rw f c.put.ensures.bytes)
