use Rattle.std.proofs.Common.{◌≡◌, drop}
use Rattle.wasm_tree.specs.DataUse.{any_uses_data}
use Rattle.eval_snapshot.proofs.data_use.any_uses_data.Given as goal

abbrev pub invariant-loop-func : goal.invariant-loop-func
invariant-loop-func l = any_uses_data l.funcs ≡ any_uses_data (drop l.func-index l.funcs)
