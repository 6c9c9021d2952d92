use Rattle.std.proofs.Common.{drop, ◌≡◌}
use Rattle.merge_spec.specs.Faults as faults
use Rattle.merge_spec.specs.Parts.{named_modules}
use Rattle.merge_link.specs.Globals.{the_own}
use Rattle.merge_link.proofs.part_tables.PartTables.first_global_fault.Given as goal

abbrev pub invariant-loop-at : goal.invariant-loop-at
invariant-loop-at l =
    faults.first_fault (λ g. faults.global_fault (named_modules l.self.parts.now) (the_own g)) (drop l.at l.globals)
    ≡ faults.first_fault (λ g. faults.global_fault (named_modules l.self.parts.now) (the_own g)) l.globals
