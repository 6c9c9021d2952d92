use Rattle.std.proofs.Common.{◌∙◌, Some, ap, sym}
use Rattle.eval_machine.proofs.DataSteps.{drop_again, drop_missing, drop_noted, dropping_stays}
use Rattle.eval_machine.proofs.kept.Kept.data_drop.Goals as goal

pub returns-in_default-clause-begins : goal.returns-in_default-clause-begins
returns-in_default-clause-begins c = λ vs. drop_missing c.args.input.now c.args.self.now c.requires.fits c.args.segment vs (sym c.in_default.ensures.value)

pub returns-then-dropped-clause-begins : goal.returns-then-dropped-clause-begins
returns-then-dropped-clause-begins c = λ vs. drop_again c.args.input.now c.args.self.now c.requires.fits c.args.segment vs (sym c.in-Some.ensures.value ∙ ap Some c.if-dropped.true)

pub returns-clause-begins : goal.returns-clause-begins
returns-clause-begins c = λ vs.
    rw c.write_flag.ensures (drop_noted c.args.input.now c.args.self.now c.requires.fits c.args.segment vs (record c.args.self.now.undo { dropped = c.keep.new.self }) (sym c.in-Some.ensures.value ∙ ap Some c.if-dropped.false))

pub returns-clause-stays : goal.returns-clause-stays
returns-clause-stays c =
    rw c.write_flag.ensures
    (dropping_stays c.args.self.now (record c.args.self.now.undo { dropped = c.keep.new.self }) c.args.segment (sym c.in-Some.ensures.value ∙ ap Some c.if-dropped.false) (ap (λ ds. record c.args.self.now.undo { dropped = ds }) c.in_ok-keep.ensures.ok))
