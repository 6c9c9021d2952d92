use Rattle.base_lists.proofs.Common.{◌≡◌, [], take}
use Rattle.merge_spec.specs.Prelude.{named_modules, by_part_from, with_types}
use Rattle.merge_join.specs.Types.{ArePlaces}
use Rattle.merge_join.proofs.types.all_types.Given as goal

abbrev pub invariant-loop-part : goal.invariant-loop-part
invariant-loop-part l = record {
  list_is : l.list ≡ with_types [] (by_part_from (λ p m. m.types) 0 (take l.part (named_modules l.parts)));
  known : ArePlaces l.list l.places;
}
