use Rattle.std.proofs.Common.{length, refl}
use Rattle.eval_machine.proofs.WrittenBlocks.{told_memory}
use Rattle.eval_machine.proofs.memory.init.Goals as goal

pub returns-in-Err-clause-told : goal.returns-in-Err-clause-told
returns-in-Err-clause-told c = told_memory c.args.paged.now c.args.turns.now c.spend.new.turns c.args.place (length c.args.bytes.now) (rw c.in_default.is at c.spend.ensures) c.requires.most (rw c.from.ensures at (c.in-Err.ensures.full.0 refl))
