use Rattle.std.proofs.Common.{map, take, Some, ◌≡◌}
use Rattle.merge_link.proofs.matching.known_ends.Given as goal

abbrev pub invariant-loop-end : goal.invariant-loop-end
invariant-loop-end l = map Some l.known.items ≡ take l.end-index l.ends
