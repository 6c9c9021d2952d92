use Rattle.std.proofs.Common.{refl, sym}
use Rattle.eval_machine.proofs.TableSteps.{get_imported, get_known, get_nowhere, get_outside, get_unknown, get_untyped, table_found}
use Rattle.eval_machine.proofs.kept.Kept.table_get.Goals as goal

pub returns-then-table-self : goal.returns-then-table-self
returns-then-table-self c = get_imported c.args.input.now c.args.self.now c.requires.fits c.args.table c.args.operands.now c.args.operands.now c.if-table-self.true

pub returns-in_default : goal.returns-in_default
returns-in_default c = get_nowhere c.args.input.now c.args.self.now c.requires.fits c.args.table c.args.operands.now c.args.operands.now c.if-table-self.false (sym c.in_default.ensures)

pub returns-in_default-pop_narrow : goal.returns-in_default-pop_narrow
returns-in_default-pop_narrow c = get_untyped c.args.input.now c.args.self.now c.requires.fits c.args.table c.args.operands.now c.args.operands.now c.if-table-self.false c.in-Some.field-0
    (table_found c.args.input.now c.args.self.now c.requires.fits c.args.table c.if-table-self.false c.in-Some.field-0 (sym c.in-Some.ensures)) (c.in_default-pop_narrow.ensures.none refl)

pub returns-in-Unknown : goal.returns-in-Unknown
returns-in-Unknown c =
    get_unknown c.args.input.now c.args.self.now c.requires.fits c.args.table c.args.operands.now c.args.operands.now c.if-table-self.false c.in-Some.field-0 (table_found c.args.input.now c.args.self.now c.requires.fits c.args.table c.if-table-self.false c.in-Some.field-0 (sym c.in-Some.ensures))
    c.in-Some-pop_narrow.place c.pop_narrow.new.self c.in-Some-pop_narrow.ensures.some c.in-Unknown.ensures

pub returns-in_ok-push-in-Known : goal.returns-in_ok-push-in-Known
returns-in_ok-push-in-Known c =
    rw c.in_ok-push-in-Known.ensures
    (get_known c.args.input.now c.args.self.now c.requires.fits c.args.table c.args.operands.now c.args.operands.now c.if-table-self.false c.in-Some.field-0 (table_found c.args.input.now c.args.self.now c.requires.fits c.args.table c.if-table-self.false c.in-Some.field-0 (sym c.in-Some.ensures))
    c.in-Some-pop_narrow.place c.pop_narrow.new.self c.in-Some-pop_narrow.ensures.some c.in-Known.value c.in-Known.ensures)

pub returns-in-OutOfBounds : goal.returns-in-OutOfBounds
returns-in-OutOfBounds c =
    get_outside c.args.input.now c.args.self.now c.requires.fits c.args.table c.args.operands.now c.args.operands.now c.if-table-self.false c.in-Some.field-0 (table_found c.args.input.now c.args.self.now c.requires.fits c.args.table c.if-table-self.false c.in-Some.field-0 (sym c.in-Some.ensures))
    c.in-Some-pop_narrow.place c.pop_narrow.new.self c.in-Some-pop_narrow.ensures.some c.in-OutOfBounds.ensures.0 c.in-OutOfBounds.ensures.1
