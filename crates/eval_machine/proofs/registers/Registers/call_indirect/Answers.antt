use Rattle.std.proofs.Common.{refl, sym}
use Rattle.eval_machine.proofs.IndirectCalls.{indirect_at, indirect_imported, indirect_nothing, indirect_nowhere, indirect_outside, indirect_unknown, indirect_untyped}
use Rattle.eval_machine.proofs.TableSteps.{table_found}
use Rattle.eval_machine.proofs.registers.Registers.call_indirect.Goals as goal

pub returns-then-table-self-clause-begins : goal.returns-then-table-self-clause-begins
returns-then-table-self-clause-begins c = rw c.stopped.ensures (indirect_imported c.args.input.now c.args.self.now c.args.self.now c.requires.fits c.args.ty c.args.table refl c.if-table-self.true)

pub returns-in_default-clause-begins : goal.returns-in_default-clause-begins
returns-in_default-clause-begins c = rw c.stopped-in_default.ensures (indirect_nowhere c.args.input.now c.args.self.now c.args.self.now c.requires.fits c.args.ty c.args.table refl c.if-table-self.false (sym c.in_default.ensures))

pub returns-in_default-pop_narrow-clause-begins : goal.returns-in_default-pop_narrow-clause-begins
returns-in_default-pop_narrow-clause-begins c =
    rw c.stopped-in_default-pop_narrow.ensures
    (indirect_untyped c.args.input.now c.args.self.now (record c.args.self.now { operands = c.pop_narrow.new.self }) c.requires.fits c.args.ty c.args.table refl c.if-table-self.false c.in-Some.field-0
    (table_found c.args.input.now c.args.self.now.kept c.requires.fits c.args.table c.if-table-self.false c.in-Some.field-0 (sym c.in-Some.ensures)) (c.in_default-pop_narrow.ensures.none refl))

pub returns-in-Unknown-clause-begins : goal.returns-in-Unknown-clause-begins
returns-in-Unknown-clause-begins c =
    rw c.stopped-in-Unknown.ensures
    (indirect_unknown c.args.input.now c.args.self.now (record c.args.self.now { operands = c.pop_narrow.new.self }) c.requires.fits c.args.ty c.args.table refl c.if-table-self.false c.in-Some.field-0
    (table_found c.args.input.now c.args.self.now.kept c.requires.fits c.args.table c.if-table-self.false c.in-Some.field-0 (sym c.in-Some.ensures)) c.in-Some-pop_narrow.place c.in-Some-pop_narrow.ensures.some c.in-Unknown.ensures)

pub returns-in-Some-referred-clause-begins : goal.returns-in-Some-referred-clause-begins
returns-in-Some-referred-clause-begins c =
    indirect_at c.args.input.now c.args.self.now (record c.args.self.now { operands = c.pop_narrow.new.self }) c.requires.fits c.args.ty c.args.table refl c.if-table-self.false c.in-Some.field-0
    (table_found c.args.input.now c.args.self.now.kept c.requires.fits c.args.table c.if-table-self.false c.in-Some.field-0 (sym c.in-Some.ensures)) c.in-Some-pop_narrow.place c.in-Some-pop_narrow.ensures.some c.in-Known.ensures.0
    (c.imported_functions_are_typed.ensures c.args.input.now c.requires.valid) refl c.in-Known.value c.in-Some-referred.func c.in-Known.ensures (sym c.in-Some-referred.ensures) c.reached.result c.reached.ensures

pub returns-in-None-clause-begins : goal.returns-in-None-clause-begins
returns-in-None-clause-begins c =
    rw c.stopped-in-None.ensures
    (indirect_nothing c.args.input.now c.args.self.now (record c.args.self.now { operands = c.pop_narrow.new.self }) c.requires.fits c.args.ty c.args.table refl c.if-table-self.false c.in-Some.field-0
    (table_found c.args.input.now c.args.self.now.kept c.requires.fits c.args.table c.if-table-self.false c.in-Some.field-0 (sym c.in-Some.ensures)) c.in-Some-pop_narrow.place c.in-Some-pop_narrow.ensures.some c.in-Known.ensures.0
    c.in-Known.value c.in-Known.ensures (sym c.in-None.ensures))

pub returns-in-OutOfBounds-clause-begins : goal.returns-in-OutOfBounds-clause-begins
returns-in-OutOfBounds-clause-begins c =
    rw c.stopped-in-OutOfBounds.ensures
    (indirect_outside c.args.input.now c.args.self.now (record c.args.self.now { operands = c.pop_narrow.new.self }) c.requires.fits c.args.ty c.args.table refl c.if-table-self.false c.in-Some.field-0
    (table_found c.args.input.now c.args.self.now.kept c.requires.fits c.args.table c.if-table-self.false c.in-Some.field-0 (sym c.in-Some.ensures)) c.in-Some-pop_narrow.place c.in-Some-pop_narrow.ensures.some c.in-OutOfBounds.ensures.0 c.in-OutOfBounds.ensures.1)
