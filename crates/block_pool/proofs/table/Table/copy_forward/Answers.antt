use Rattle.std.proofs.Common.{ℕ, ◌≡◌, ◌+◌, List, length, subst, arith}
use Rattle.block_pool.specs.Table.{pages_of}
use Rattle.block_pool.specs.Pages.{WritesBytes, part}
use Rattle.block_pool.proofs.Written.{size_is}
use Rattle.block_pool.proofs.Reading.{part_size}
use Rattle.block_pool.proofs.Rooms.{puts_nothing, puts_room}
use Rattle.block_pool.proofs.Copied.{forward_on}
use Rattle.block_pool.proofs.table.Table.copy_forward.Goals as goal

pub loop-done-init : goal.loop-done-init
loop-done-init c = (omega arith, puts_nothing c.args.self.now c.args.to c.requires.sound)

pub copy_in_block-requires-clause-sound : goal.copy_in_block-requires-clause-sound
copy_in_block-requires-clause-sound c = c.loop-done.invariant.1.sound

pub copy_in_block-requires-clause-inside : goal.copy_in_block-requires-clause-inside
copy_in_block-requires-clause-inside c = rw c.loop-done.invariant.1.fixed.size (omega arith)

pub copy_in_block-requires-clause-source : goal.copy_in_block-requires-clause-source
copy_in_block-requires-clause-source c = rw c.loop-done.invariant.1.fixed.size (omega arith)

pub copy_in_block-requires-clause-room : goal.copy_in_block-requires-clause-room
copy_in_block-requires-clause-room c absent =
    let b : List ℕ = (pages_of c.args.self.now).now.bytes in
    let many : length (part b c.args.from c.loop-done.done) ≡ c.loop-done.done = part_size b c.args.from c.loop-done.done (rw (size_is c.args.self.now) (omega arith)) in
    let size = c.loop-done.invariant.1.fixed.size in
    puts_room c.args.self.now c.loop-done.self c.args.to c.args.count (c.args.to + c.loop-done.done) 1 c.args.to (part b c.args.from c.loop-done.done)
    c.loop-done.invariant.1.sound c.loop-done.invariant.1.writes c.requires.room (omega arith) (omega arith) (omega arith) (omega arith) (omega arith) (omega arith) absent

pub loop-done-preserved : goal.loop-done-preserved
loop-done-preserved c =
    let e = c.copy_in_block.ensures in (
      omega arith,
      forward_on c.args.self.now c.loop-done.self c.copy_in_block.new.self c.args.to c.args.from c.loop-done.done c.min-some.result e.sound e.fixed
          c.loop-done.invariant.1 c.requires.order (omega arith) e.writes,
    )

pub returns-clause-sound : goal.returns-clause-sound
returns-clause-sound c = c.loop-done.invariant.1.sound

pub returns-clause-writes : goal.returns-clause-writes
returns-clause-writes c =
    let b : List ℕ = (pages_of c.args.self.now).now.bytes in
    subst (λ (n : ℕ). WritesBytes (pages_of c.args.self.now) (pages_of c.loop-done.self) c.args.to (part b c.args.from n)) (let e : c.loop-done.done ≡ c.args.count = omega arith in e) c.loop-done.invariant.1.writes
