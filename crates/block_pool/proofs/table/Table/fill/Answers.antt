use Rattle.std.proofs.Common.{ℕ, ◌≡◌, ◌+◌, length, replicate, sym, ap, subst, arith}
use Rattle.std.proofs.lemmas.List.{length-replicate, replicate-append-replicate}
use Rattle.block_pool.specs.Table.{pages_of}
use Rattle.block_pool.specs.Pages.{WritesBytes}
use Rattle.block_pool.proofs.Rooms.{puts_nothing, puts_on, puts_room}
use Rattle.block_pool.proofs.table.Table.fill.Goals as goal

pub loop-done-init : goal.loop-done-init
loop-done-init c = (omega arith, puts_nothing c.args.self.now c.args.at c.requires.sound)

pub fill_within-requires-clause-sound : goal.fill_within-requires-clause-sound
fill_within-requires-clause-sound c = c.loop-done.invariant.1.sound

pub fill_within-requires-clause-inside : goal.fill_within-requires-clause-inside
fill_within-requires-clause-inside c = rw c.loop-done.invariant.1.fixed.size (omega arith)

pub fill_within-requires-clause-room : goal.fill_within-requires-clause-room
fill_within-requires-clause-room c absent =
    let many : length (replicate c.loop-done.done c.args.byte) ≡ c.loop-done.done = length-replicate c.loop-done.done c.args.byte in
    let size = c.loop-done.invariant.1.fixed.size in
    puts_room c.args.self.now c.loop-done.self c.args.at c.args.count (c.args.at + c.loop-done.done) 1 c.args.at (replicate c.loop-done.done c.args.byte)
    c.loop-done.invariant.1.sound c.loop-done.invariant.1.writes c.requires.room (omega arith) (omega arith) (omega arith) (omega arith) (omega arith) (omega arith) absent

pub loop-done-preserved : goal.loop-done-preserved
loop-done-preserved c =
    let n : ℕ = c.min-some.result in
    let byte : ℕ = c.args.byte in
    let many : length (replicate c.loop-done.done byte) ≡ c.loop-done.done = length-replicate c.loop-done.done byte in
    let piece : length (replicate n byte) ≡ n = length-replicate n byte in
    let e = c.fill_within.ensures in (
      omega arith,
      rw (← replicate-append-replicate c.loop-done.done n byte) (
          puts_on c.args.self.now c.loop-done.self c.fill_within.new.self c.args.at (c.args.at + c.loop-done.done) (replicate c.loop-done.done byte) (replicate n byte)
          c.loop-done.invariant.1 (ap (λ k. c.args.at + k) (sym many)) (omega arith) e.sound e.fixed e.writes),
    )

pub returns-clause-sound : goal.returns-clause-sound
returns-clause-sound c = c.loop-done.invariant.1.sound

pub returns-clause-writes : goal.returns-clause-writes
returns-clause-writes c =
    subst (λ (n : ℕ). WritesBytes (pages_of c.args.self.now) (pages_of c.loop-done.self) c.args.at (replicate n c.args.byte)) (let e : c.loop-done.done ≡ c.args.count = omega arith in e) c.loop-done.invariant.1.writes
