use Rattle.std.proofs.Common.{rules, ◌<◌, length, Some, sym, ap, ◌∙◌, []}
use Rattle.block_pool.proofs.Kept.{inside, bytes_are, any_default}
use Rattle.block_pool.proofs.pool.Pool.bytes.Goals as goal

pub index-requires : goal.index-requires
index-requires c =
    let h : c.args.block.now.number < length c.self.inside.blocks.items = inside _ _ _ c.self.invariant.0 c.args.block.now.number (rw (← c.self.view_is) at c.requires) in search rules

pub returns-clause-bytes : goal.returns-clause-bytes
returns-clause-bytes c =
    let h : c.args.block.now.number < length c.self.inside.blocks.items = inside _ _ _ c.self.invariant.0 c.args.block.now.number (rw (← c.self.view_is) at c.requires) in
    rw (← c.self.view_is) (bytes_are _ _ _ c.self.invariant.0 c.args.block.now.number (rw (← c.self.view_is) at c.requires)
    ∙ ap Some (any_default c.self.inside.blocks.items c.args.block.now.number [] c.index.result.now h ∙ sym c.index.ensures))
