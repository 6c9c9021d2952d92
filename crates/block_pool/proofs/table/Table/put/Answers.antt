use Rattle.std.proofs.Common.{ℕ, ◌≡◌, ◌≤◌, ◌+◌, ◌-◌, List, length, take, drop, sym, ap, subst, arith, length-take-le}
use Rattle.std.proofs.Math.Seq.{take-add}
use Rattle.std.proofs.lemmas.List.{take_all}
use Rattle.block_pool.specs.Table.{pages_of}
use Rattle.block_pool.specs.Pages.{WritesBytes}
use Rattle.block_pool.proofs.Rooms.{puts_nothing, puts_on, puts_room, next_piece, piece_size}
use Rattle.block_pool.proofs.table.Table.put.Goals as goal

pub loop-done-init : goal.loop-done-init
loop-done-init c = (omega arith, puts_nothing c.args.self.now c.args.at c.requires.sound)

pub write_within-requires-clause-sound : goal.write_within-requires-clause-sound
write_within-requires-clause-sound c = c.loop-done.invariant.1.sound

pub write_within-requires-clause-inside : goal.write_within-requires-clause-inside
write_within-requires-clause-inside c =
    let n : ℕ = c.min-count.result in
    let small : n ≤ length c.args.bytes.now - c.loop-done.done = omega arith in
    rw (next_piece c.args.bytes.now c.loop-done.done n, piece_size c.args.bytes.now c.loop-done.done n (omega arith), c.loop-done.invariant.1.fixed.size) (omega arith)

pub write_within-requires-clause-room : goal.write_within-requires-clause-room
write_within-requires-clause-room c absent =
    let many : length (take c.loop-done.done c.args.bytes.now) ≡ c.loop-done.done = length-take-le c.loop-done.done c.args.bytes.now c.loop-done.invariant.0 in
    let size = c.loop-done.invariant.1.fixed.size in
    puts_room c.args.self.now c.loop-done.self c.args.at (length c.args.bytes.now) (c.args.at + c.loop-done.done) 1 c.args.at (take c.loop-done.done c.args.bytes.now)
    c.loop-done.invariant.1.sound c.loop-done.invariant.1.writes c.requires.room (omega arith) (omega arith) (omega arith) (omega arith) (omega arith) (omega arith) absent

pub loop-done-preserved : goal.loop-done-preserved
loop-done-preserved c =
    let n : ℕ = c.min-count.result in
    let bytes : List ℕ = c.args.bytes.now in
    let small : n ≤ length bytes - c.loop-done.done = omega arith in
    let many : length (take c.loop-done.done bytes) ≡ c.loop-done.done = length-take-le c.loop-done.done bytes c.loop-done.invariant.0 in
    let piece : length (take n (drop c.loop-done.done bytes)) ≡ n = piece_size bytes c.loop-done.done n (omega arith) in
    let e = c.write_within.ensures in (
      omega arith,
      rw take-add (
          puts_on c.args.self.now c.loop-done.self c.write_within.new.self c.args.at (c.args.at + c.loop-done.done) (take c.loop-done.done bytes) (take n (drop c.loop-done.done bytes))
          c.loop-done.invariant.1 (ap (λ k. c.args.at + k) (sym many)) (omega arith) e.sound e.fixed
          (subst (λ (xs : List ℕ). WritesBytes (pages_of c.loop-done.self) (pages_of c.write_within.new.self) (c.args.at + c.loop-done.done) xs) (next_piece bytes c.loop-done.done n) e.writes)),
    )

pub returns-clause-sound : goal.returns-clause-sound
returns-clause-sound c = c.loop-done.invariant.1.sound

pub returns-clause-writes : goal.returns-clause-writes
returns-clause-writes c =
    subst (λ (xs : List ℕ). WritesBytes (pages_of c.args.self.now) (pages_of c.loop-done.self) c.args.at xs) (take_all c.loop-done.done c.args.bytes.now (omega arith)) c.loop-done.invariant.1.writes
