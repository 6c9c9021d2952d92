use Rattle.std.proofs.Common.{false, refl, arith}
use Rattle.block_pool.specs.declared.table.Table.{Table}
use Rattle.block_pool.proofs.Opened.{new_sound, new_pages}
use Rattle.block_pool.proofs.paged.Paged.new.Goals as goal

pub invariant_of-result : goal.invariant_of-result
invariant_of-result c = new_sound _ c.in_ok-slots.ensures c.requires.unused c.in-Ok.ensures.items refl c.requires.size (omega arith) c.requires.room c.in-Ok.ensures.capacity

pub returns-in-Ok : goal.returns-in-Ok
returns-in-Ok c =
    let t : Table = record { pool = c.args.pool; slots = c.in_ok-slots.slots; changed = c.in-Ok.changed; written = 0; most = c.args.most; size = c.args.size; marked = false } in
    new_pages t c.in_ok-slots.ensures c.requires.unused c.in-Ok.ensures.items refl refl
