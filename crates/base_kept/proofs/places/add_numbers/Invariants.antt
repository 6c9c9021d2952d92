use Rattle.std.proofs.Common.{◌≡◌, ◌++◌}
use Rattle.base_lists.specs.Places.{numbers}
use Rattle.base_kept.proofs.places.add_numbers.Given as goal

abbrev pub invariant-loop-at : goal.invariant-loop-at
invariant-loop-at l = l.all ≡ l.initial.all ++ numbers l.first l.at
