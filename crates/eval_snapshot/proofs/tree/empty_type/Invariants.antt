use Rattle.std.proofs.Common.{◌≡◌, drop}
use Rattle.base_lists.specs.Places.{first_place}
use Rattle.eval_spec.specs.Stops.{takes_and_gives_nothing}
use Rattle.eval_snapshot.proofs.tree.empty_type.Given as goal

abbrev pub invariant-loop-at : goal.invariant-loop-at
invariant-loop-at l = first_place takes_and_gives_nothing l.types 0 ≡ first_place takes_and_gives_nothing (drop l.at l.types) l.at
