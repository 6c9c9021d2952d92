use Rattle.base_lists.proofs.Common.{length, map, Some, slice_get, ℕ, ◌≡◌}
use Rattle.base_paths.specs.declared.follow.Step.{Step}
use Rattle.wasm_meaning.specs.Linking as linking
use Rattle.merge_spec.specs.declared.links.Read.{Read}
use Rattle.merge_spec.specs.Prelude.{named_modules}
use Rattle.merge_link.specs.Prelude.{own_read, own_reads, the_own, the_read, IsStep}
use Rattle.merge_link.proofs.part_tables.PartTables.value_steps.Given as goal

abbrev pub invariant-loop-global : goal.invariant-loop-global
invariant-loop-global l = record {
  one_each : length l.steps.items ≡ l.global-index;
  right : (n : ℕ) (a : linking.Read) (s : Step Read) → slice_get (map (λ g. own_read (the_own g)) l.globals) n ≡ Some a → slice_get l.steps.items n ≡ Some s
      → IsStep (linking.read_step (named_modules l.self.parts.now)) (own_reads (named_modules l.self.parts.now)) the_read a s;
}
