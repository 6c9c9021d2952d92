use Rattle.std.proofs.Common.{◌≡◌}
use Rattle.wasm_gen.specs.Modules.{second_imports}
use Rattle.wasm_gen.proofs.second.imports_of.Given as goal

abbrev pub invariant-loop-i : goal.invariant-loop-i
invariant-loop-i l = l.all ≡ second_imports l.i
