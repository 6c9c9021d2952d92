use Rattle.std.proofs.Common.{◌≡◌}
use Rattle.wasm_read.proofs.Steps.{partly}
use Rattle.wasm_read.proofs.rules.set_types.Given as goal

abbrev pub invariant-loop-i : goal.invariant-loop-i
invariant-loop-i l = l.funcs ≡ partly l.types l.initial.funcs l.i
