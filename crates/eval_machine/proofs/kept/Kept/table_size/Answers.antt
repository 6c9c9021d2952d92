use Rattle.std.proofs.Common.{sym}
use Rattle.eval_machine.proofs.TableSteps.{size_imported, size_known, size_nowhere}
use Rattle.eval_machine.proofs.kept.Kept.table_size.Goals as goal

pub returns-then-table-self : goal.returns-then-table-self
returns-then-table-self c = size_imported c.args.input.now c.args.self.now c.requires.fits c.args.table c.args.operands.now c.args.operands.now c.if-table-self.true

pub returns-in_ok-push-in-Some : goal.returns-in_ok-push-in-Some
returns-in_ok-push-in-Some c = rw c.in_ok-push-in-Some.ensures (size_known c.args.input.now c.args.self.now c.requires.fits c.args.table c.args.operands.now c.args.operands.now c.if-table-self.false c.in-Some.count (sym c.in-Some.ensures))

pub returns-in-None : goal.returns-in-None
returns-in-None c = size_nowhere c.args.input.now c.args.self.now c.requires.fits c.args.table c.args.operands.now c.args.operands.now c.if-table-self.false (sym c.in-None.ensures)
