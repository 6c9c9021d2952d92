use Rattle.eval_machine.proofs.GlobalSteps.{global_set_begins, globals_stay, noted_begins}
use Rattle.eval_machine.proofs.kept.Kept.global_set.Goals as goal

pub returns-clause-begins : goal.returns-clause-begins
returns-clause-begins c =
    noted_begins c.args.input.now c.args.self.now c.args.global c.args.operands.now c.pop-value.new.self c.set.new.self c.note_global.new.self c.set.result
    (global_set_begins c.args.input.now c.args.self.now c.requires.fits c.args.global c.args.operands.now c.pop-value.new.self c.set.new.self c.pop-value.result c.pop-value.ensures c.set.result c.set.ensures.set)

pub returns-clause-stays : goal.returns-clause-stays
returns-clause-stays c =
    globals_stay c.args.self.now c.note_global.new.self c.set.new.self c.args.global c.pop-value.result c.set.result (record { flags = c.note_global.ensures.flags; globals = c.note_global.ensures.globals; dropped = c.note_global.ensures.dropped }) c.in_ok-note_global.ensures.there c.set.ensures.set
    c.set.ensures.same
