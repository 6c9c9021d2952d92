use Rattle.std.proofs.Common.{◌≡◌, take}
use Rattle.wasm_tree.proofs.body.+copy.Given as goal

abbrev pub invariant-copy_body-loop-instr : goal.invariant-copy_body-loop-instr
invariant-copy_body-loop-instr l = l.all ≡ take l.instr-index l.body
