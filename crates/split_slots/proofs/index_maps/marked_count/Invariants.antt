use Rattle.std.proofs.Common.{◌≡◌, ◌≤◌, take, length}
use Rattle.base_lists.specs.Places.{places}
use Rattle.split_slots.proofs.index_maps.marked_count.Given as goal

abbrev pub invariant-loop-is_marked : goal.invariant-loop-is_marked
invariant-loop-is_marked l = record {
  count : l.count ≡ length (places (λ named. named) (take l.is_marked-index l.marks) 0);
  most : l.count ≤ l.is_marked-index;
}
