use Rattle.std.proofs.Common.{drop, map, ◌≡◌}
use Rattle.merge_link.specs.Limits.{met_of}
use Rattle.merge_link.proofs.part_tables.PartTables.met_limits.Given as goal

abbrev pub invariant-loop-at : goal.invariant-loop-at
invariant-loop-at l = l.all.items ≡ map (met_of l.self.parts.now (drop l.at l.sites)) l.sites
