use Rattle.std.proofs.Common.{◌≡◌, take}
use Rattle.wasm_tree.proofs.copy.copy_exports.Given as goal

abbrev pub invariant-loop-export : goal.invariant-loop-export
invariant-loop-export l = l.all ≡ take l.export-index l.exports
