use Rattle.std.proofs.Common.{sym, ◌∙◌}
use Rattle.eval_machine.proofs.ReachedFunctions.{reaches_import, reaches_none, reaches_other, reaches_same, reaches_same_index, reaches_unknown, reaches_untyped}
use Rattle.eval_machine.proofs.registers.Registers.reached.Goals as goal

pub returns-then-func-imported : goal.returns-then-func-imported
returns-then-func-imported c = rw c.stopped.ensures (reaches_import c.args.input.now c.args.self.now.kept (c.imported_functions_are_typed.ensures c.args.input.now c.requires.valid) c.requires.fits c.args.ty c.args.func c.if-func-imported.true)

pub returns-in_default : goal.returns-in_default
returns-in_default c = rw c.stopped-in_default.ensures (reaches_none c.args.input.now c.args.self.now.kept (c.imported_functions_are_typed.ensures c.args.input.now c.requires.valid) c.requires.fits c.args.ty c.args.func c.if-func-imported.false (sym c.in_default.ensures.value))

pub returns-in_default-get : goal.returns-in_default-get
returns-in_default-get c =
    rw c.stopped-in_default-get.ensures
    (reaches_untyped c.args.input.now c.args.self.now.kept (c.imported_functions_are_typed.ensures c.args.input.now c.requires.valid) c.requires.fits c.args.ty c.args.func c.in-Some.callee.now c.if-func-imported.false (sym c.in-Some.ensures.value) (sym c.in_default-get.ensures.value))

pub returns-then-callee-ty : goal.returns-then-callee-ty
returns-then-callee-ty c =
    reaches_same_index c.args.input.now c.args.self.now.kept (c.imported_functions_are_typed.ensures c.args.input.now c.requires.valid) c.requires.fits c.args.ty c.args.func c.in-Some.callee.now c.if-func-imported.false (sym c.in-Some.ensures.value) c.in-Some-get.asked.now
    (sym c.in-Some-get.ensures.value) c.if-callee-ty.true

pub returns-in_default-get-2 : goal.returns-in_default-get-2
returns-in_default-get-2 c =
    rw c.stopped-in_default-get-2.ensures
    (reaches_unknown c.args.input.now c.args.self.now.kept (c.imported_functions_are_typed.ensures c.args.input.now c.requires.valid) c.requires.fits c.args.ty c.args.func c.in-Some.callee.now c.if-func-imported.false (sym c.in-Some.ensures.value) c.in-Some-get.asked.now
    (sym c.in-Some-get.ensures.value) (sym c.in_default-get-2.ensures.value))

pub returns-then-is_same : goal.returns-then-is_same
returns-then-is_same c =
    reaches_same c.args.input.now c.args.self.now.kept (c.imported_functions_are_typed.ensures c.args.input.now c.requires.valid) c.requires.fits c.args.ty c.args.func c.in-Some.callee.now c.if-func-imported.false (sym c.in-Some.ensures.value) c.in-Some-get.asked.now
    (sym c.in-Some-get.ensures.value)
    c.in-Some-get-2.has.now (sym c.in-Some-get-2.ensures.value) (sym c.is_same.ensures ∙ c.if-is_same.true)

pub returns : goal.returns
returns c =
    rw c.stopped-2.ensures
    (reaches_other c.args.input.now c.args.self.now.kept (c.imported_functions_are_typed.ensures c.args.input.now c.requires.valid) c.requires.fits c.args.ty c.args.func c.in-Some.callee.now c.if-func-imported.false (sym c.in-Some.ensures.value) c.in-Some-get.asked.now
    (sym c.in-Some-get.ensures.value)
    c.in-Some-get-2.has.now (sym c.in-Some-get-2.ensures.value) (sym c.is_same.ensures ∙ c.if-is_same.false))
