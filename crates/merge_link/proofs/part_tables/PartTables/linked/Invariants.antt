use Rattle.std.proofs.Common.{map, take, slice_get, Some, ℕ, ◌≡◌}
use Rattle.merge_link.specs.declared.part_tables.Ending.{Ending}
use Rattle.merge_link.specs.PartTables.{the_end}
use Rattle.merge_link.specs.Gathering.{EndsThere, linked_at}
use Rattle.merge_link.proofs.part_tables.PartTables.linked.Given as goal

abbrev pub invariant-loop-end : goal.invariant-loop-end
invariant-loop-end l = record {
  same : map (λ e. Some (the_end e)) l.linked.items ≡ map (linked_at l.self.parts.now) (take l.end-index l.sites);
  there : (n : ℕ) (e : Ending) → slice_get l.linked.items n ≡ Some e → EndsThere l.self.parts.now e;
}
