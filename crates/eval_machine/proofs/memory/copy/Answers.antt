use Rattle.std.proofs.Common.{refl}
use Rattle.eval_machine.proofs.WrittenBlocks.{told_memory}
use Rattle.eval_machine.proofs.memory.copy.Goals as goal

pub returns-in-Err-clause-told : goal.returns-in-Err-clause-told
returns-in-Err-clause-told c = told_memory c.args.paged.now c.args.turns.now c.spend.new.turns c.args.place c.args.count (rw c.in_default.is at c.spend.ensures) c.requires.most (rw (c.from.ensures, c.from-3.ensures) at (c.in-Err.ensures.full.0 refl))
