use Rattle.std.proofs.Common.{◌≡◌, drop}
use Rattle.wasm_tree.specs.SameTypes.{same_types}
use Rattle.eval_machine.proofs.begin.are_same.Given as goal

abbrev pub invariant-loop-i : goal.invariant-loop-i
invariant-loop-i l = same_types (drop l.i l.types) (drop l.i l.others) ≡ same_types l.types l.others
