use Rattle.std.proofs.Common.{rules, ◌<◌, length, None, refl}
use Rattle.block_pool.specs.Kept.{FreeBlocksAreListed, live_blocks}
use Rattle.block_pool.proofs.Kept.{inside_flags, kept_given, used_given, live_given, live_length, changes_set, inside}
use Rattle.block_pool.proofs.pool.Pool.give.Goals as goal

pub index_mut-requires : goal.index_mut-requires
index_mut-requires c =
    let h : c.args.block.number < length c.self.inside.live.items = inside_flags _ _ _ c.self.invariant.0 c.args.block.number (rw (← c.self.view_is) at c.requires) in search rules

pub invariant_of-self : goal.invariant_of-self
invariant_of-self c =
    let kept = kept_given _ _ _ c.self.invariant.0 c.args.block.number (rw (← c.self.view_is) at c.requires) in
    let i = c.self.invariant in
    (rw c.push_reserved.ensures.items kept, (i.1.0, (i.1.1.0, (i.1.1.1.0, rw c.push_reserved.ensures.capacity i.1.1.1.1))))

pub returns-clause-gone : goal.returns-clause-gone
returns-clause-gone c =
    let is : FreeBlocksAreListed c.self.inside.live.items c.self.inside.blocks.items c.self.inside.free.items = c.self.invariant.0 in
    let h : c.args.block.number < length c.self.inside.blocks.items = inside _ _ _ is c.args.block.number (rw (← c.self.view_is) at c.requires) in
    rw (← c.self.view_is) (changes_set (live_blocks c.self.inside.live.items c.self.inside.blocks.items) c.args.block.number None _ _ refl (live_given c.self.inside.live.items c.self.inside.blocks.items c.args.block.number is.many)
    (rw (live_length _ _ is.many) h))

pub returns-clause-used : goal.returns-clause-used
returns-clause-used c =
    rw (← c.self.view_is) (used_given _ _ _ c.self.invariant.0 c.args.block.number (rw (← c.self.view_is) at c.requires))
