use Rattle.std.proofs.Common.{◌≡◌, ◌+◌, ◌≤◌, length, drop}
use Rattle.wasm_meaning.specs.Values.{declared}
use Rattle.eval_machine.proofs.locals.turns_after.Given as goal

abbrev pub invariant-loop-i : goal.invariant-loop-i
invariant-loop-i l = (l.count + length (declared (drop l.i l.groups)) ≡ length (declared l.groups)) × (l.count ≤ l.most)
