use Rattle.std.proofs.Common.{rules, refl, ◌∙◌, arith}
use Rattle.block_pool.proofs.Plain.{fixed_self, fixed_on, no_opaque, unmarked_sound, committed}
use Rattle.block_pool.proofs.table.Table.commit.Goals as goal

pub loop-self-init : goal.loop-self-init
loop-self-init c = record { sound = c.requires.sound; on = c.requires.marked; now = refl; blocks = refl; fixed = fixed_self c.args.self.now }

pub settle-requires-clause-sound : goal.settle-requires-clause-sound
settle-requires-clause-sound c = c.loop-self.invariant.sound

pub settle-requires-clause-marked : goal.settle-requires-clause-marked
settle-requires-clause-marked c = c.loop-self.invariant.on

pub loop-self-smaller : goal.loop-self-smaller
loop-self-smaller c = omega (arith, c.settle.ensures.settled.fewer)

pub loop-self-preserved : goal.loop-self-preserved
loop-self-preserved c =
    let e = c.settle.ensures in
    let w = c.loop-self.invariant in
    record { sound = e.sound; on = e.fixed.marked ∙ w.on; now = c.settle.ensures.settled.now ∙ w.now; blocks = c.settle.ensures.settled.blocks ∙ w.blocks; fixed = fixed_on c.args.self.now c.loop-self.self c.settle.new.self w.fixed e.fixed }

pub returns-clause-sound : goal.returns-clause-sound
returns-clause-sound c = unmarked_sound c.loop-self.self c.loop-self.invariant.sound (no_opaque c.loop-self.self.changed.items (search rules))

pub returns-clause-kept : goal.returns-clause-kept
returns-clause-kept c = committed c.args.self.now c.loop-self.self c.loop-self.invariant (no_opaque c.loop-self.self.changed.items (search rules))
