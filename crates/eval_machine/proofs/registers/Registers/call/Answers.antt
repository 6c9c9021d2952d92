use Rattle.std.proofs.Common.{rules, ◌≡◌, ◌<◌, ◌≤◌, [], ap, arith, false, length, sym, true}
use Rattle.wasm_tree.specs.Spaces.{imported_funcs}
use Rattle.wasm_meaning.specs.Values.{declared}
use Rattle.eval_spec.specs.Stops.{takes_and_gives_nothing}
use Rattle.eval_machine.proofs.HostCalls.{code_func, frame_ends, own_called, wrong}
use Rattle.eval_machine.proofs.registers.Registers.call.Goals as goal

pub returns-in_default-clause-ends : goal.returns-in_default-clause-ends
returns-in_default-clause-ends c = absurd (let k : false ≡ true = rw (← c.in_default.ensures) at c.requires.there in cc)

pub returns-then-not-is_bare-clause-ends : goal.returns-then-not-is_bare-clause-ends
returns-then-not-is_bare-clause-ends c =
    let off : takes_and_gives_nothing c.in-Some.ty.now ≡ false = search rules in
    wrong c.quiet_runs_end.ensures.determined c.args.input.now (c.imported_functions_are_typed.ensures c.args.input.now c.requires.valid) c.args.self.now.kept c.requires.fits c.args.func c.in-Some.ty.now (sym c.in-Some.ensures) off

pub returns-then-func-self-clause-ends : goal.returns-then-func-self-clause-ends
returns-then-func-self-clause-ends c =
    let on : takes_and_gives_nothing c.in-Some.ty.now ≡ true = search rules in
    let lt : c.args.func < length (imported_funcs c.args.input.now.imports) = omega (arith, c.if-func-self.true, ap (λ x. x.funcs) c.requires.fits.imports) in
    own_called c.quiet_runs_end.ensures.determined c.args.input.now (c.imported_functions_are_typed.ensures c.args.input.now c.requires.valid) c.args.self.now.kept c.requires.fits c.args.func c.in-Some.ty.now (sym c.in-Some.ensures) lt on

pub returns-clause-ends : goal.returns-clause-ends
returns-clause-ends c =
    let on : takes_and_gives_nothing c.in-Some.ty.now ≡ true = search rules in
    let same : c.args.self.now.kept.imports.funcs ≡ length (imported_funcs c.args.input.now.imports) = ap (λ x. x.funcs) c.requires.fits.imports in
    let le : length (imported_funcs c.args.input.now.imports) ≤ c.args.func = omega (arith, c.if-func-self.false, same) in
    let at = code_func c.args.input.now (c.imported_functions_are_typed.ensures c.args.input.now c.requires.valid) c.args.self.now.kept c.requires.fits c.args.func c.in-Some.ty.now (sym c.in-Some.ensures) c.in-Some-get.callee.now le (rw same at (sym c.in-Some-get.ensures.value)) in
    frame_ends c.quiet_runs_end.ensures.determined c.args.input.now c.args.func (record { kept = c.args.self.now.kept; operands = c.new.result; locals = [] }) c.run_frame.new.self c.in-Some.ty.now (declared c.in-Some-get.callee.now.locals) c.in-Some-get.callee.now.body c.in_ok-run_frame.field-0
    at on (rw c.new-2.ensures at c.in_ok-run_frame.ensures.runs)
