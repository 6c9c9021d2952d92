use Rattle.std.proofs.Common.{refl, arith}
use Rattle.block_pool.proofs.Claimed.{spare_kept, listed_kept, aside_done}
use Rattle.block_pool.proofs.table.Table.set_aside.Goals as goal

pub copy_of-copy-requires-clause-spare : goal.copy_of-copy-requires-clause-spare
copy_of-copy-requires-clause-spare c = spare_kept c.args.self.now c.requires.sound c.args.number c.args.older c.requires.inside c.requires.kept

pub push_reserved-requires : goal.push_reserved-requires
push_reserved-requires c =
    let h = listed_kept c.args.self.now c.requires.sound c.args.number c.args.older c.requires.inside c.requires.kept in
    let i = c.requires.sound.capacity in omega arith

pub returns-clause-sound : goal.returns-clause-sound
returns-clause-sound c =
    let e = c.copy_of-copy.ensures in
    (aside_done c.args.self.now _ c.args.number c.copy_of-copy.result.number c.args.older c.requires.sound
    (record { fresh = e.fresh; changes = rw c.block.ensures at e.copy; used = e.used; spare = e.spare; numbers = e.numbers })
    c.requires.kept
    (record { inside = c.requires.inside; slots = refl; size = refl; most = refl; marked = refl; capacity = c.push_reserved.ensures.capacity })
    refl c.push_reserved.ensures.items c.requires.marked).0

pub returns-clause-claims : goal.returns-clause-claims
returns-clause-claims c =
    let e = c.copy_of-copy.ensures in
    (aside_done c.args.self.now _ c.args.number c.copy_of-copy.result.number c.args.older c.requires.sound
    (record { fresh = e.fresh; changes = rw c.block.ensures at e.copy; used = e.used; spare = e.spare; numbers = e.numbers })
    c.requires.kept
    (record { inside = c.requires.inside; slots = refl; size = refl; most = refl; marked = refl; capacity = c.push_reserved.ensures.capacity })
    refl c.push_reserved.ensures.items c.requires.marked).1
