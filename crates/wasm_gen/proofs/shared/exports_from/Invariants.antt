use Rattle.std.proofs.Common.{◌≡◌}
use Rattle.wasm_gen.specs.Modules.{exports_of}
use Rattle.wasm_gen.proofs.shared.exports_from.Given as goal

abbrev pub invariant-loop-i : goal.invariant-loop-i
invariant-loop-i l = l.all ≡ exports_of l.letter l.index l.i
