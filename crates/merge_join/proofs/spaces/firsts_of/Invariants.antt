use Rattle.base_lists.proofs.Common.{◌≡◌, ◌+◌, ◌∷◌, [], take}
use Rattle.wasm_meaning.specs.Prelude.{defined_before}
use Rattle.merge_spec.specs.Prelude.{named_modules, by_part_from}
use Rattle.merge_join.proofs.spaces.firsts_of.Given as goal

abbrev pub invariant-loop-part : goal.invariant-loop-part
invariant-loop-part l = record {
  firsts_are : l.firsts ≡ by_part_from (λ p m. (l.staying + defined_before l.space (named_modules l.parts) p) ∷ []) 0 (take l.part (named_modules l.parts));
  first_is : l.first ≡ l.staying + defined_before l.space (named_modules l.parts) l.part;
}
