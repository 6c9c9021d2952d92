use Rattle.std.proofs.Common.{drop, map, ◌+◌, ◌++◌, ◌≡◌}
use Rattle.merge_spec.specs.Faults as faults
use Rattle.merge_spec.specs.Parts.{named_modules}
use Rattle.merge_link.specs.Globals.{the_own}
use Rattle.merge_link.proofs.part_tables.PartTables.defined_globals.Given as goal

abbrev pub invariant-loop-at : goal.invariant-loop-at
invariant-loop-at l = map the_own l.all.items ++ faults.defined_globals_from l.at (named_modules (drop l.at l.self.parts.now)) ≡ faults.defined_globals_from 0 (named_modules l.self.parts.now)

abbrev pub invariant-loop-place : goal.invariant-loop-place
invariant-loop-place l =
    map the_own l.all.items ++ faults.defined_globals_in l.at (l.imported + l.place) (drop l.place l.globals) ++ faults.defined_globals_from (l.at + 1) (named_modules (drop (l.at + 1) l.self.parts.now))
    ≡ faults.defined_globals_from 0 (named_modules l.self.parts.now)
