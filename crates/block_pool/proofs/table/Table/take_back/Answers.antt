use Rattle.base_lists.proofs.Common.{◌+◌, ◌-◌, ◌≡◌, ◌≤◌, refl, sym, ap, inl, arith, set-get_or}
use Rattle.block_pool.specs.Table.{slot_at, is_present}
use Rattle.block_pool.specs.declared.table.Slot.TheVariants.{Absent}
use Rattle.block_pool.proofs.Claimed.{read_slot}
use Rattle.block_pool.proofs.Undone.{last_inside, written_some, new_back, changed_back, left_back, plain_unchanged}
use Rattle.block_pool.proofs.table.Table.take_back.Goals as goal

pub index-requires : goal.index-requires
index-requires c = let h = last_inside c.args.self.now c.in-Some.number c.pop.new.self.items c.requires.sound c.in-Some.ensures.items in omega arith

pub index_mut-requires : goal.index_mut-requires
index_mut-requires c = let h = last_inside c.args.self.now c.in-Some.number c.pop.new.self.items c.requires.sound c.in-Some.ensures.items in omega arith

pub index_mut-requires-in-Changed : goal.index_mut-requires-in-Changed
index_mut-requires-in-Changed c = let h = last_inside c.args.self.now c.in-Some.number c.pop.new.self.items c.requires.sound c.in-Some.ensures.items in omega arith

pub give-requires : goal.give-requires
give-requires c =
    let inside = last_inside c.args.self.now c.in-Some.number c.pop.new.self.items c.requires.sound c.in-Some.ensures.items in
    let at = read_slot c.args.self.now.slots.items c.in-Some.number c.index.result.now _ inside c.index.ensures c.in-New.is in
    c.requires.sound.owns.live c.in-Some.number c.block.result.number (rw (at, c.block.ensures) (inl refl))

pub overflow_sub-self : goal.overflow_sub-self
overflow_sub-self c =
    let inside = last_inside c.args.self.now c.in-Some.number c.pop.new.self.items c.requires.sound c.in-Some.ensures.items in
    written_some c.args.self.now c.in-Some.number c.requires.sound inside (ap is_present (read_slot c.args.self.now.slots.items c.in-Some.number c.index.result.now _ inside c.index.ensures c.in-New.is))

pub give-requires-in-Changed : goal.give-requires-in-Changed
give-requires-in-Changed c =
    let inside = last_inside c.args.self.now c.in-Some.number c.pop.new.self.items c.requires.sound c.in-Some.ensures.items in
    let at = read_slot c.args.self.now.slots.items c.in-Some.number c.index.result.now _ inside c.index.ensures c.in-Changed.is in
    c.requires.sound.owns.live c.in-Some.number c.block-in-Changed.result.number (rw (at, c.block-in-Changed.ensures) (inl refl))

pub returns-in-New-clause-sound : goal.returns-in-New-clause-sound
returns-in-New-clause-sound c =
    let listed = c.in-Some.ensures.items in
    let inside = last_inside c.args.self.now c.in-Some.number c.pop.new.self.items c.requires.sound listed in
    let at = read_slot c.args.self.now.slots.items c.in-Some.number c.index.result.now _ inside c.index.ensures c.in-New.is in
    let g = c.give.ensures in
    let some : 1 ≤ c.args.self.now.written = written_some c.args.self.now c.in-Some.number c.requires.sound inside (ap is_present at) in
    let fewer : c.args.self.now.written - 1 + 1 ≡ c.args.self.now.written = omega arith in
    (new_back c.args.self.now _ c.in-Some.number c.requires.sound c.in-New.present at
    (record { inside = inside; slots = refl; size = refl; most = refl; marked = refl; on = c.requires.marked; capacity = c.pop.ensures.capacity; listed = listed; unchanged = refl })
    (record { gone = rw c.block.ensures at g.gone; used = g.used; spare = g.spare; numbers = g.numbers })
    fewer).0

pub returns-in-New-clause-back : goal.returns-in-New-clause-back
returns-in-New-clause-back c =
    let listed = c.in-Some.ensures.items in
    let inside = last_inside c.args.self.now c.in-Some.number c.pop.new.self.items c.requires.sound listed in
    let at = read_slot c.args.self.now.slots.items c.in-Some.number c.index.result.now _ inside c.index.ensures c.in-New.is in
    let g = c.give.ensures in
    let some : 1 ≤ c.args.self.now.written = written_some c.args.self.now c.in-Some.number c.requires.sound inside (ap is_present at) in
    let fewer : c.args.self.now.written - 1 + 1 ≡ c.args.self.now.written = omega arith in
    (new_back c.args.self.now _ c.in-Some.number c.requires.sound c.in-New.present at
    (record { inside = inside; slots = refl; size = refl; most = refl; marked = refl; on = c.requires.marked; capacity = c.pop.ensures.capacity; listed = listed; unchanged = refl })
    (record { gone = rw c.block.ensures at g.gone; used = g.used; spare = g.spare; numbers = g.numbers })
    fewer).1

pub returns-in-Changed-clause-sound : goal.returns-in-Changed-clause-sound
returns-in-Changed-clause-sound c =
    let listed = c.in-Some.ensures.items in
    let inside = last_inside c.args.self.now c.in-Some.number c.pop.new.self.items c.requires.sound listed in
    let at = read_slot c.args.self.now.slots.items c.in-Some.number c.index.result.now _ inside c.index.ensures c.in-Changed.is in
    let g = c.give-in-Changed.ensures in
    (changed_back c.args.self.now _ c.in-Some.number c.requires.sound c.in-Changed.present c.in-Changed.older at
    (record { inside = inside; slots = refl; size = refl; most = refl; marked = refl; on = c.requires.marked; capacity = c.pop.ensures.capacity; listed = listed; unchanged = refl })
    (record { gone = rw c.block-in-Changed.ensures at g.gone; used = g.used; spare = g.spare; numbers = g.numbers })
    refl).0

pub returns-in-Changed-clause-back : goal.returns-in-Changed-clause-back
returns-in-Changed-clause-back c =
    let listed = c.in-Some.ensures.items in
    let inside = last_inside c.args.self.now c.in-Some.number c.pop.new.self.items c.requires.sound listed in
    let at = read_slot c.args.self.now.slots.items c.in-Some.number c.index.result.now _ inside c.index.ensures c.in-Changed.is in
    let g = c.give-in-Changed.ensures in
    (changed_back c.args.self.now _ c.in-Some.number c.requires.sound c.in-Changed.present c.in-Changed.older at
    (record { inside = inside; slots = refl; size = refl; most = refl; marked = refl; on = c.requires.marked; capacity = c.pop.ensures.capacity; listed = listed; unchanged = refl })
    (record { gone = rw c.block-in-Changed.ensures at g.gone; used = g.used; spare = g.spare; numbers = g.numbers })
    refl).1

pub returns-in-Absent-clause-sound : goal.returns-in-Absent-clause-sound
returns-in-Absent-clause-sound c =
    let listed = c.in-Some.ensures.items in
    let inside = last_inside c.args.self.now c.in-Some.number c.pop.new.self.items c.requires.sound listed in
    let at = read_slot c.args.self.now.slots.items c.in-Some.number c.index.result.now c.index.result.now inside c.index.ensures refl in
    (left_back c.args.self.now _ c.in-Some.number c.requires.sound (slot_at c.args.self.now.slots.items c.in-Some.number) refl
    (record { inside = inside; slots = sym (set-get_or c.args.self.now.slots.items c.in-Some.number Absent); size = refl; most = refl; marked = refl; on = c.requires.marked; capacity = c.pop.ensures.capacity; listed = listed; unchanged = rw at (plain_unchanged c.index.result.now c.in-Absent.is) })
    refl refl).0

pub returns-in-Absent-clause-back : goal.returns-in-Absent-clause-back
returns-in-Absent-clause-back c =
    let listed = c.in-Some.ensures.items in
    let inside = last_inside c.args.self.now c.in-Some.number c.pop.new.self.items c.requires.sound listed in
    let at = read_slot c.args.self.now.slots.items c.in-Some.number c.index.result.now c.index.result.now inside c.index.ensures refl in
    (left_back c.args.self.now _ c.in-Some.number c.requires.sound (slot_at c.args.self.now.slots.items c.in-Some.number) refl
    (record { inside = inside; slots = sym (set-get_or c.args.self.now.slots.items c.in-Some.number Absent); size = refl; most = refl; marked = refl; on = c.requires.marked; capacity = c.pop.ensures.capacity; listed = listed; unchanged = rw at (plain_unchanged c.index.result.now c.in-Absent.is) })
    refl refl).1
