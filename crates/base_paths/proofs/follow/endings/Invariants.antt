use Rattle.std.proofs.Common.{map, take, slice_get, ◌≡◌}
use Rattle.std.specs.Option.{option_and_then}
use Rattle.base_paths.specs.Steps.{ending_of}
use Rattle.base_paths.proofs.follow.endings.Given as goal

abbrev pub invariant-loop-stop : goal.invariant-loop-stop
invariant-loop-stop g l = l.all.items ≡ map (option_and_then (λ n. option_and_then ending_of (slice_get l.steps n))) (take l.stop-index l.stop-items)
