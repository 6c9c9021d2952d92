use Rattle.base_lists.proofs.Common.{◌≡◌, ◌≤◌, ◌+◌, ◌-◌, ◌/◌, map, refl, sym, ap, ◌∙◌, arith, leb-true, le-leb}
use Rattle.block_pool.specs.Table.{is_present}
use Rattle.block_pool.proofs.Plain.{written_is}
use Rattle.block_pool.proofs.Joined.{reached_none}
use Rattle.block_pool.proofs.Rooms.{count}
use Rattle.block_pool.proofs.Counted.{upto, counted_by, counted_none, counted_all, counted_small}
use Rattle.block_pool.proofs.table.Table.has_room.Goals as goal

pub returns-then-count-eq0 : goal.returns-then-count-eq0
returns-then-count-eq0 c =
    let t = c.args.self.now in
    let none : c.args.count ≡ 0 = omega arith in
    let written : count (map is_present t.slots.items) ≡ t.written = written_is t c.requires.sound in
    let most : t.written ≤ t.most = c.requires.sound.most in
    ((λ e. rw (none, reached_none c.args.at 0 (map is_present t.slots.items)) (omega arith)), (λ f. refl))

pub loop-number-init : goal.loop-number-init
loop-number-init c = sym (ap count (counted_none c.args.self.now c.args.at) ∙ written_is c.args.self.now c.requires.sound)

pub overflow_add-total : goal.overflow_add-total
overflow_add-total c =
    let f = counted_by c.args.self.now c.args.at c.loop-number.number (omega (arith, c.requires.sound.slots)) (omega arith) in
    let s = counted_small c.args.self.now c.args.at (c.loop-number.number + 1) c.requires.sound in
    omega (arith, c.loop-number.invariant, c.added-total.ensures)

pub loop-number-preserved : goal.loop-number-preserved
loop-number-preserved c =
    let f = counted_by c.args.self.now c.args.at c.loop-number.number (omega (arith, c.requires.sound.slots)) (omega arith) in
    omega (arith, c.loop-number.invariant, c.added-total.ensures)

pub returns : goal.returns
returns c =
    let t = c.args.self.now in
    let n : c.loop-number.number ≡ (c.args.at + c.args.count - 1) / 4096 + 1 = omega arith in
    let all : c.loop-number.total ≡ count (upto t c.args.at ((c.args.at + c.args.count - 1) / 4096 + 1)) = rw (← n) c.loop-number.invariant in
    let whole = counted_all t c.args.at c.args.count (omega arith) in
    ((λ e. let h = leb-true c.loop-number.total t.most e in rw (← whole, ← all) h), (λ f. le-leb c.loop-number.total t.most (rw (all, whole) f)))
