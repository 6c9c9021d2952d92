use Rattle.std.proofs.Common.{map, take, ◌≡◌}
use Rattle.base_paths.specs.Steps.{next_place}
use Rattle.base_paths.proofs.follow.next_places.Given as goal

abbrev pub invariant-loop-step : goal.invariant-loop-step
invariant-loop-step g l = l.nexts.items ≡ map next_place (take l.step-index l.steps)
