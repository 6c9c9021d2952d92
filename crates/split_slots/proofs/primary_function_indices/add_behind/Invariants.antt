use Rattle.std.proofs.Common.{◌≡◌, ◌+◌, ◌++◌, map, take}
use Rattle.split_slots.proofs.primary_function_indices.add_behind.Given as goal

abbrev pub invariant-loop-place : goal.invariant-loop-place
invariant-loop-place l = l.all ≡ l.initial.all ++ map (λ place. l.count + place) (take l.place-index l.places)
