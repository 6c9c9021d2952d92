use Rattle.std.proofs.Common.{◌∙◌, ap, slice_set, subst, sym, true}
use Rattle.std.specs.Option.{IsSome}
use Rattle.eval_machine.specs.Undo.{FlagsAreRight, noted_global, global_before}
use Rattle.eval_machine.proofs.UndoNotes.{before_noted, pushed_is_noted, noted_pushed}
use Rattle.eval_machine.proofs.undo.UndoLog.note_global.Goals as goal

pub returns-clause-flags : goal.returns-clause-flags
returns-clause-flags c =
    subst (FlagsAreRight c.keep.new.self) (sym c.write_flag.ensures)
    (subst (λ es. FlagsAreRight es (slice_set c.args.self.now.noted c.args.global true)) (sym c.in_ok-keep.ensures.ok) (noted_pushed c.args.self.now.globals c.args.self.now.noted (record { global = c.args.global; before = c.in-Some.before }) c.requires.flags))

pub returns-clause-there : goal.returns-clause-there
returns-clause-there c = λ lt. subst (λ es. IsSome (noted_global es c.args.global)) (sym c.in_ok-keep.ensures.ok) (pushed_is_noted c.args.self.now.globals (record { global = c.args.global; before = c.in-Some.before }))

pub returns-clause-globals : goal.returns-clause-globals
returns-clause-globals c = λ n.
    ap (λ es. global_before es c.args.globals.now n) c.in_ok-keep.ensures.ok ∙ before_noted c.args.self.now.globals c.args.globals.now (record { global = c.args.global; before = c.in-Some.before }) (sym c.in-Some.ensures) n
