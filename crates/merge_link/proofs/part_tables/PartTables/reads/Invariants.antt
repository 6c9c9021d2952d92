use Rattle.std.proofs.Common.{take, map, ◌≡◌}
use Rattle.merge_spec.specs.Linked as links
use Rattle.merge_spec.specs.Parts.{named_modules}
use Rattle.merge_link.specs.Sites.{the_site}
use Rattle.merge_link.proofs.part_tables.PartTables.reads.Given as goal

abbrev pub invariant-loop-at : goal.invariant-loop-at
invariant-loop-at l = l.reads.items ≡ map (λ s. links.read_at (named_modules l.self.parts.now) (the_site s)) (take l.at l.sites)
