use Rattle.std.proofs.Common.{drop, ◌≡◌}
use Rattle.merge_spec.specs.Faults as faults
use Rattle.merge_spec.specs.Parts.{named_modules}
use Rattle.merge_link.specs.Sites.{the_site}
use Rattle.merge_link.proofs.part_tables.PartTables.first_clash.Given as goal

abbrev pub invariant-loop-at : goal.invariant-loop-at
invariant-loop-at l =
    faults.first_fault (λ s. faults.clash_fault (named_modules l.self.parts.now) (the_site s)) (drop l.at l.sites)
    ≡ faults.first_fault (λ s. faults.clash_fault (named_modules l.self.parts.now) (the_site s)) l.sites
