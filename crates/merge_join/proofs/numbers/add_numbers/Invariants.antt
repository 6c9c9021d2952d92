use Rattle.std.proofs.Common.{◌≡◌, ◌++◌}
use Rattle.wasm_meaning.specs.World.{numbers}
use Rattle.merge_join.proofs.numbers.add_numbers.Given as goal

abbrev pub invariant-loop-at : goal.invariant-loop-at
invariant-loop-at l = l.all ≡ l.initial.all ++ numbers l.first l.at
