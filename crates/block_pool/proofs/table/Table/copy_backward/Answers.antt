use Rattle.std.proofs.Common.{ℕ, ◌≡◌, ◌≤◌, ◌+◌, ◌-◌, List, length, ap₂, subst, arith}
use Rattle.block_pool.specs.Table.{pages_of}
use Rattle.block_pool.specs.Pages.{WritesBytes, part}
use Rattle.block_pool.proofs.Written.{size_is}
use Rattle.block_pool.proofs.Reading.{part_size}
use Rattle.block_pool.proofs.Rooms.{Puts, puts_nothing, puts_room}
use Rattle.block_pool.proofs.Copied.{backward_on}
use Rattle.block_pool.proofs.table.Table.copy_backward.Goals as goal

pub loop-left-init : goal.loop-left-init
loop-left-init c =
    let b : List ℕ = (pages_of c.args.self.now).now.bytes in (
      omega arith,
      subst (λ (n : ℕ). Puts c.args.self.now c.args.self.now (c.args.to + c.args.count) (part b (c.args.from + c.args.count) n)) (let e : 0 ≡ c.args.count - c.args.count = omega arith in e) (puts_nothing c.args.self.now (c.args.to + c.args.count) c.requires.sound),
    )

pub overflow_add-end : goal.overflow_add-end
overflow_add-end c = omega (arith, c.loop-left.invariant.0, c.requires.sound.size)

pub overflow_add-from : goal.overflow_add-from
overflow_add-from c = omega (arith, c.loop-left.invariant.0, c.requires.sound.size)

pub copy_in_block-requires-clause-sound : goal.copy_in_block-requires-clause-sound
copy_in_block-requires-clause-sound c = c.loop-left.invariant.1.sound

pub copy_in_block-requires-clause-inside : goal.copy_in_block-requires-clause-inside
copy_in_block-requires-clause-inside c = rw c.loop-left.invariant.1.fixed.size (omega (arith, c.loop-left.invariant.0))

pub copy_in_block-requires-clause-source : goal.copy_in_block-requires-clause-source
copy_in_block-requires-clause-source c = rw c.loop-left.invariant.1.fixed.size (omega (arith, c.loop-left.invariant.0))

pub copy_in_block-requires-clause-room : goal.copy_in_block-requires-clause-room
copy_in_block-requires-clause-room c absent =
    let b : List ℕ = (pages_of c.args.self.now).now.bytes in
    let left : ℕ = c.loop-left.left in
    let below : left ≤ c.args.count = c.loop-left.invariant.0 in
    let many : length (part b (c.args.from + left) (c.args.count - left)) ≡ c.args.count - left = part_size b (c.args.from + left) (c.args.count - left) (rw (size_is c.args.self.now) (omega arith)) in
    let size = c.loop-left.invariant.1.fixed.size in
    puts_room c.args.self.now c.loop-left.self c.args.to c.args.count (c.args.to + left - c.min-some.result) 1 (c.args.to + left) (part b (c.args.from + left) (c.args.count - left))
    c.loop-left.invariant.1.sound c.loop-left.invariant.1.writes c.requires.room (omega arith) (omega arith) (omega arith) (omega arith) (omega arith) (omega arith) absent

pub loop-left-preserved : goal.loop-left-preserved
loop-left-preserved c =
    let e = c.copy_in_block.ensures in (
      omega (arith, c.loop-left.invariant.0),
      backward_on c.args.self.now c.loop-left.self c.copy_in_block.new.self c.args.to c.args.from c.args.count c.loop-left.left c.min-some.result e.sound e.fixed
          c.loop-left.invariant.1 c.requires.order c.requires.inside c.loop-left.invariant.0 (omega arith) e.writes,
    )

pub returns-clause-sound : goal.returns-clause-sound
returns-clause-sound c = c.loop-left.invariant.1.sound

pub returns-clause-writes : goal.returns-clause-writes
returns-clause-writes c =
    let b : List ℕ = (pages_of c.args.self.now).now.bytes in
    let none : c.loop-left.left ≡ 0 = omega arith in
    let w : WritesBytes (pages_of c.args.self.now) (pages_of c.loop-left.self) (c.args.to + 0) (part b (c.args.from + 0) (c.args.count - 0)) =
    subst (λ (n : ℕ). WritesBytes (pages_of c.args.self.now) (pages_of c.loop-left.self) (c.args.to + n) (part b (c.args.from + n) (c.args.count - n))) none c.loop-left.invariant.1.writes in
    let to : c.args.to + 0 ≡ c.args.to = omega arith in
    let source : c.args.from + 0 ≡ c.args.from = omega arith in
    let all : c.args.count - 0 ≡ c.args.count = omega arith in
    subst (λ (n : ℕ). WritesBytes (pages_of c.args.self.now) (pages_of c.loop-left.self) n (part b c.args.from c.args.count)) to
    (subst (λ (xs : List ℕ). WritesBytes (pages_of c.args.self.now) (pages_of c.loop-left.self) (c.args.to + 0) xs) (ap₂ (part b) source all) w)
