use Rattle.std.proofs.Common.{◌≡◌, ℕ, ◌<◌, length, slice_get, Option, Some}
use Rattle.base_paths.specs.Paths.{Marked, IsEnd}
use Rattle.base_paths.proofs.Marks.{IsMarked}
use Rattle.base_paths.proofs.stops.ends.Given as goal

abbrev pub invariant-loop-start : goal.invariant-loop-start
invariant-loop-start l = record {
  sizes : length l.marks.items ≡ length l.steps;
  count : length l.answers.items ≡ l.start;
  marked : Marked l.steps l.marks.items l.answers.items;
  all : (n : ℕ) → n < l.start → IsMarked l.marks.items n;
}

abbrev pub invariant-loop-mark : goal.invariant-loop-mark
invariant-loop-mark l = record {
  count : length l.ends.items ≡ l.mark-index;
  right : (n : ℕ) (end : Option ℕ) → slice_get l.ends.items n ≡ Some end → IsEnd l.steps n end;
}
