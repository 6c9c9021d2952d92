use Rattle.std.proofs.Common.{◌≡◌, take}
use Rattle.wasm_tree.proofs.copy.copy_funcs.Given as goal

abbrev pub invariant-loop-func : goal.invariant-loop-func
invariant-loop-func l = l.all ≡ take l.func-index l.funcs
