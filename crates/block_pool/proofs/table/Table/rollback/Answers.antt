use Rattle.std.proofs.Common.{rules, refl, ◌∙◌, arith}
use Rattle.block_pool.proofs.Plain.{fixed_self, fixed_on, no_opaque, unmarked_sound, rolled_back}
use Rattle.block_pool.proofs.table.Table.rollback.Goals as goal

pub loop-self-init : goal.loop-self-init
loop-self-init c = record { sound = c.requires.sound; on = c.requires.marked; mark = refl; blocks = refl; fixed = fixed_self c.args.self.now }

pub take_back-requires-clause-sound : goal.take_back-requires-clause-sound
take_back-requires-clause-sound c = c.loop-self.invariant.sound

pub take_back-requires-clause-marked : goal.take_back-requires-clause-marked
take_back-requires-clause-marked c = c.loop-self.invariant.on

pub loop-self-smaller : goal.loop-self-smaller
loop-self-smaller c = omega (arith, c.take_back.ensures.back.fewer)

pub loop-self-preserved : goal.loop-self-preserved
loop-self-preserved c =
    let e = c.take_back.ensures in
    let w = c.loop-self.invariant in
    record { sound = e.sound; on = e.fixed.marked ∙ w.on; mark = c.take_back.ensures.back.mark ∙ w.mark; blocks = c.take_back.ensures.back.blocks ∙ w.blocks; fixed = fixed_on c.args.self.now c.loop-self.self c.take_back.new.self w.fixed e.fixed }

pub returns-clause-sound : goal.returns-clause-sound
returns-clause-sound c = unmarked_sound c.loop-self.self c.loop-self.invariant.sound (no_opaque c.loop-self.self.changed.items (search rules))

pub returns-clause-back : goal.returns-clause-back
returns-clause-back c = rolled_back c.args.self.now c.loop-self.self c.loop-self.invariant (no_opaque c.loop-self.self.changed.items (search rules))
