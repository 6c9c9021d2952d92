use Rattle.std.proofs.Common.{◌≡◌, ◌||◌, false, is_some, map, not, slice_get, unwrap_or}
use Rattle.base_lists.specs.Places.{numbers}
use Rattle.split_slots.specs.SlotLookup.{slot_at}
use Rattle.split_slots.proofs.primary_function_indices.left_marks.Given as goal

abbrev pub invariant-loop-func : goal.invariant-loop-func
invariant-loop-func l = l.all ≡ map (λ func. not (is_some (slot_at l.slots func)) || unwrap_or (slice_get l.needed func) false) (numbers 0 l.func)
