use Rattle.std.proofs.Common.{rules, ◌≡◌, ◌<◌, length, Some, true, refl, ◌∙◌, length-set}
use Rattle.block_pool.specs.Kept.{FreeBlocksAreListed, live_blocks}
use Rattle.block_pool.proofs.Kept.{kept_taken, kept_pushed, used_taken, used_pushed, taken_within, taken_dead, fresh_past, live_set, live_pushed, live_length, changes_set, changes_pushed}
use Rattle.block_pool.proofs.pool.Pool.put.Goals as goal

pub invariant_of-self : goal.invariant_of-self
invariant_of-self c =
    let i = c.self.invariant in
    let kept = kept_taken _ _ _ i.0 c.pop.new.self.items c.in-Some.number c.in-Some.ensures.items c.args.bytes in
    (kept, (rw (length-set c.self.inside.blocks.items c.in-Some.number c.args.bytes) i.1.0, (i.1.1.0, (i.1.1.1.0, rw c.pop.ensures.capacity i.1.1.1.1))))

pub returns-in-Some-clause-fresh : goal.returns-in-Some-clause-fresh
returns-in-Some-clause-fresh c =
    rw (← c.self.view_is) (taken_dead _ _ _ c.self.invariant.0 c.pop.new.self.items c.in-Some.number c.in-Some.ensures.items)

pub returns-in-Some-clause-bytes : goal.returns-in-Some-clause-bytes
returns-in-Some-clause-bytes c =
    let is : FreeBlocksAreListed c.self.inside.live.items c.self.inside.blocks.items c.self.inside.free.items = c.self.invariant.0 in
    let h : c.in-Some.number < length c.self.inside.blocks.items = taken_within _ _ _ is c.pop.new.self.items c.in-Some.number c.in-Some.ensures.items in
    rw (← c.self.view_is) (changes_set (live_blocks c.self.inside.live.items c.self.inside.blocks.items) c.in-Some.number (Some c.args.bytes) _ _ refl (live_set c.self.inside.live.items c.self.inside.blocks.items c.in-Some.number true c.args.bytes is.many)
    (rw (live_length _ _ is.many) h))

pub returns-in-Some-clause-used : goal.returns-in-Some-clause-used
returns-in-Some-clause-used c =
    rw (← c.self.view_is) (used_taken _ _ _ c.self.invariant.0 c.pop.new.self.items c.in-Some.number c.in-Some.ensures.items c.args.bytes)

pub invariant_of-self-2 : goal.invariant_of-self-2
invariant_of-self-2 c =
    let i = c.self.invariant in
    let none : length c.self.inside.free.items ≡ 0 = search rules in
    let no_rest : length c.pop.new.self.items ≡ 0 = search rules in
    let kept = kept_pushed _ _ _ i.0 c.args.bytes c.pop.new.self.items none no_rest in
    (rw (c.push_reserved.ensures.items, c.push_reserved-2.ensures.items) kept, search rules)

pub returns-clause-fresh : goal.returns-clause-fresh
returns-clause-fresh c =
    rw (← c.self.view_is) (fresh_past _ _ _ c.self.invariant.0 c.len-number.result (search rules))

pub returns-clause-bytes : goal.returns-clause-bytes
returns-clause-bytes c =
    let is : FreeBlocksAreListed c.self.inside.live.items c.self.inside.blocks.items c.self.inside.free.items = c.self.invariant.0 in
    let h : length c.self.inside.blocks.items ≡ c.len-number.result = search rules in
    rw (← c.self.view_is) (changes_pushed (live_blocks c.self.inside.live.items c.self.inside.blocks.items) c.len-number.result (Some c.args.bytes) _ _ refl
    (rw (c.push_reserved.ensures.items, c.push_reserved-2.ensures.items) (live_pushed c.self.inside.live.items c.self.inside.blocks.items true c.args.bytes is.many))
    (live_length _ _ is.many ∙ h))

pub returns-clause-used : goal.returns-clause-used
returns-clause-used c =
    rw (← c.self.view_is) (rw (c.push_reserved.ensures.items, c.push_reserved-2.ensures.items) (used_pushed _ _ _ c.self.invariant.0 c.args.bytes))
