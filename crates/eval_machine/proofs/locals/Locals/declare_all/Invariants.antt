use Rattle.std.proofs.Common.{◌≡◌, ◌++◌, drop}
use Rattle.wasm_meaning.specs.Values.{declared, zeros}
use Rattle.eval_machine.proofs.locals.Locals.declare_all.Given as goal

abbrev pub invariant-loop-i : goal.invariant-loop-i
invariant-loop-i l = l.self ++ zeros (declared (drop l.i l.groups)) ≡ l.initial.self ++ zeros (declared l.groups)
