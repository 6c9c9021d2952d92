use Rattle.std.proofs.Common.{◌≡◌, map}
use Rattle.base_lists.specs.Places.{numbers}
use Rattle.base_kept.specs.Kept.{kept_before}
use Rattle.base_kept.proofs.places.new_places.Given as goal

abbrev pub invariant-loop-is_marked : goal.invariant-loop-is_marked
invariant-loop-is_marked l = record {
  all : l.all ≡ map (kept_before l.marks) (numbers 0 l.is_marked-index);
  count : l.count ≡ kept_before l.marks l.is_marked-index;
}
