use Rattle.base_lists.proofs.Common.{◌≡◌, ◌∷◌, [], map, length, take}
use Rattle.wasm_meaning.specs.Prelude.{sites_in}
use Rattle.merge_spec.specs.Prelude.{named_modules, by_part_from}
use Rattle.merge_join.specs.Spaces.{staying_place, count_before}
use Rattle.merge_join.proofs.spaces.all_staying.Given as goal

abbrev pub invariant-loop-part : goal.invariant-loop-part
invariant-loop-part l = record {
  staying_are : l.staying ≡ by_part_from (λ p m. map (staying_place (named_modules l.parts) l.space) (sites_in p (length m.imports) 0) ∷ []) 0 (take l.part (named_modules l.parts));
  count_is : l.count ≡ count_before (named_modules l.parts) l.space l.part 0;
}
