use Rattle.std.proofs.Common.{◌≡◌, drop}
use Rattle.wasm_tree.specs.DataUse.{uses_data}
use Rattle.eval_snapshot.proofs.data_use.+uses.Given as goal

abbrev pub invariant-uses_data-loop-instr : goal.invariant-uses_data-loop-instr
invariant-uses_data-loop-instr l = uses_data l.body ≡ uses_data (drop l.instr-index l.body)
