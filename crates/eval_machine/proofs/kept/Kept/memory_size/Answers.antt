use Rattle.std.proofs.Common.{sym}
use Rattle.eval_machine.proofs.MemorySteps.{size_unknown, size_nowhere, size_there}
use Rattle.eval_machine.proofs.kept.Kept.memory_size.Goals as goal

pub returns-then-memory-self : goal.returns-then-memory-self
returns-then-memory-self c = size_unknown c.args.input.now c.args.self.now c.requires.fits c.args.memory c.args.operands.now c.args.operands.now c.if-memory-self.true

pub returns-in_ok-push-in-Some : goal.returns-in_ok-push-in-Some
returns-in_ok-push-in-Some c = rw c.in_ok-push-in-Some.ensures (size_there c.args.input.now c.args.self.now c.requires.fits c.args.memory c.args.operands.now c.args.operands.now c.in-Some.limits.now c.if-memory-self.false (sym c.in-Some.ensures.value))

pub returns-in-None : goal.returns-in-None
returns-in-None c = size_nowhere c.args.input.now c.args.self.now c.requires.fits c.args.memory c.args.operands.now c.args.operands.now c.if-memory-self.false (sym c.in-None.ensures.value)
