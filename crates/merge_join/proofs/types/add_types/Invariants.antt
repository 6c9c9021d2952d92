use Rattle.std.proofs.Common.{◌≡◌, take}
use Rattle.merge_spec.specs.Merged.{with_types}
use Rattle.merge_join.specs.Types.{ArePlaces}
use Rattle.merge_join.proofs.types.add_types.Given as goal

abbrev pub invariant-loop-ty : goal.invariant-loop-ty
invariant-loop-ty l = record {
  list_is : l.list ≡ with_types l.initial.list (take l.ty-index l.types);
  known : ArePlaces l.list l.places;
}
