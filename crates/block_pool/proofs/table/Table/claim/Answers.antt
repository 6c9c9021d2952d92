use Rattle.std.proofs.Common.{refl, arith}
use Rattle.block_pool.proofs.Claimed.{spare_below, listed_below, new_done, kept_done}
use Rattle.block_pool.proofs.table.Table.claim.Goals as goal

pub take-block-requires : goal.take-block-requires
take-block-requires c = spare_below c.args.self.now c.requires.sound c.requires.room

pub push_reserved-requires : goal.push_reserved-requires
push_reserved-requires c =
    let h = listed_below c.args.self.now c.requires.sound c.requires.room in
    let i = c.requires.sound.capacity in omega arith

pub returns-then-self-clause-sound : goal.returns-then-self-clause-sound
returns-then-self-clause-sound c =
    let e = c.take-block.ensures in
    (new_done c.args.self.now _ c.args.number c.take-block.result.number c.requires.sound
    (record { fresh = e.fresh; changes = e.zero; used = e.used; spare = e.spare; numbers = e.numbers })
    c.requires.absent refl c.requires.room
    (record { inside = c.requires.inside; slots = refl; size = refl; most = refl; marked = refl; capacity = c.push_reserved.ensures.capacity })
    c.push_reserved.ensures.items c.if-self.true).0

pub returns-then-self-clause-claims : goal.returns-then-self-clause-claims
returns-then-self-clause-claims c =
    let e = c.take-block.ensures in
    (new_done c.args.self.now _ c.args.number c.take-block.result.number c.requires.sound
    (record { fresh = e.fresh; changes = e.zero; used = e.used; spare = e.spare; numbers = e.numbers })
    c.requires.absent refl c.requires.room
    (record { inside = c.requires.inside; slots = refl; size = refl; most = refl; marked = refl; capacity = c.push_reserved.ensures.capacity })
    c.push_reserved.ensures.items c.if-self.true).1

pub returns-clause-sound : goal.returns-clause-sound
returns-clause-sound c =
    let e = c.take-block.ensures in
    (kept_done c.args.self.now _ c.args.number c.take-block.result.number c.requires.sound
    (record { fresh = e.fresh; changes = e.zero; used = e.used; spare = e.spare; numbers = e.numbers })
    c.requires.absent refl c.requires.room
    (record { inside = c.requires.inside; slots = refl; size = refl; most = refl; marked = refl; capacity = refl })
    refl c.if-self.false).0

pub returns-clause-claims : goal.returns-clause-claims
returns-clause-claims c =
    let e = c.take-block.ensures in
    (kept_done c.args.self.now _ c.args.number c.take-block.result.number c.requires.sound
    (record { fresh = e.fresh; changes = e.zero; used = e.used; spare = e.spare; numbers = e.numbers })
    c.requires.absent refl c.requires.room
    (record { inside = c.requires.inside; slots = refl; size = refl; most = refl; marked = refl; capacity = refl })
    refl c.if-self.false).1
