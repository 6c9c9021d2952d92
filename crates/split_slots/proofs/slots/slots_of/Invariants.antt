use Rattle.std.proofs.Common.{◌≡◌, map, take}
use Rattle.base_lists.specs.Places.{numbers}
use Rattle.split_spec.specs.SplitSlots.{place_among}
use Rattle.split_slots.proofs.slots.slots_of.Given as goal

abbrev pub invariant-loop-slot : goal.invariant-loop-slot
invariant-loop-slot l = l.slots.items ≡ map (place_among (take l.slot l.moved)) (numbers 0 l.count)
