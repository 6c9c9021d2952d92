use Rattle.base_lists.proofs.Common.{length, map, Some, slice_get, ℕ, ◌≡◌}
use Rattle.base_paths.specs.declared.follow.Step.{Step}
use Rattle.wasm_meaning.specs.Linking as linking
use Rattle.merge_spec.specs.Prelude.{named_modules}
use Rattle.merge_link.specs.declared.part_tables.Ending.{Ending}
use Rattle.merge_link.specs.Prelude.{the_site, IsStep, the_end}
use Rattle.merge_link.proofs.part_tables.PartTables.steps.Given as goal

abbrev pub invariant-loop-site : goal.invariant-loop-site
invariant-loop-site l = record {
  one_each : length l.steps.items ≡ l.site-index;
  right : (n : ℕ) (a : linking.Site) (s : Step Ending) → slice_get (map the_site l.sites) n ≡ Some a → slice_get l.steps.items n ≡ Some s
      → IsStep (linking.import_step (named_modules l.self.parts.now)) (linking.sites (named_modules l.self.parts.now)) the_end a s;
}
