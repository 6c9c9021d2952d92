use Rattle.std.proofs.Common.{map, take, ◌≡◌}
use Rattle.merge_spec.specs.Linked.{end_entry}
use Rattle.merge_link.specs.PartTables.{the_end}
use Rattle.merge_link.proofs.cutting.end_entries.Given as goal

abbrev pub invariant-loop-end : goal.invariant-loop-end
invariant-loop-end l = l.entries.items ≡ map (λ e. end_entry (the_end e)) (take l.end-index l.ends)
