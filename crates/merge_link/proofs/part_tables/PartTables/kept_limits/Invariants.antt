use Rattle.std.proofs.Common.{take, map, ◌≡◌}
use Rattle.merge_spec.specs.Faults as faults
use Rattle.merge_spec.specs.Parts.{named_modules}
use Rattle.merge_link.specs.Sites.{the_site}
use Rattle.merge_link.proofs.part_tables.PartTables.kept_limits.Given as goal

abbrev pub invariant-loop-at : goal.invariant-loop-at
invariant-loop-at l = l.kept.items ≡ map (λ s. faults.kept_limits (named_modules l.self.parts.now) (the_site s)) (take l.at l.sites)
