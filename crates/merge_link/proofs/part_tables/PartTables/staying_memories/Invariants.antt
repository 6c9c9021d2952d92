use Rattle.std.proofs.Common.{drop, ◌+◌, ◌≤◌, ◌≡◌}
use Rattle.wasm_meaning.specs.Linking as linking
use Rattle.merge_spec.specs.Faults as faults
use Rattle.merge_spec.specs.Parts.{named_modules}
use Rattle.merge_link.specs.Sites.{the_site}
use Rattle.merge_link.proofs.part_tables.PartTables.staying_memories.Given as goal

abbrev pub invariant-loop-at : goal.invariant-loop-at
invariant-loop-at l = record {
  most : l.count ≤ l.at;
  count : l.count + linking.count_of (λ s. faults.is_staying_memory (named_modules l.self.parts.now) (the_site s)) (drop l.at l.sites)
      ≡ linking.count_of (λ s. faults.is_staying_memory (named_modules l.self.parts.now) (the_site s)) l.sites;
}
