use Rattle.std.proofs.Common.{◌≡◌, drop}
use Rattle.wasm_tree.specs.SameTypes.{same_types}
use Rattle.wasm_valid_bodies.proofs.operands.are_same.Given as goal

abbrev pub invariant-loop-i : goal.invariant-loop-i
invariant-loop-i l = same_types (drop l.i l.left) (drop l.i l.right) ≡ same_types l.left l.right
