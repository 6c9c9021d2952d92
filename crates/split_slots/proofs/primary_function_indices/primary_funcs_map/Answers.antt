use Rattle.std.proofs.Common.{drop, slice_get, length, arith, ap, sym, ◌∙◌}
use Rattle.split_slots.proofs.ShiftedPlaces.{many_places, places_few}
use Rattle.split_slots.proofs.primary_function_indices.primary_funcs_map.Goals as goal

pub add_behind_from-requires : goal.add_behind_from-requires
add_behind_from-requires c =
    let marks = c.args.marks.now in
    let places = c.as_slice.ensures ∙ c.in_ok-places.ensures in
    let many = ap length places ∙ many_places marks in
    record {
      there = omega (arith, many, c.requires.there);
      few = λ i place at. places_few marks c.args.imported c.args.count i place c.requires.few (ap (λ xs. slice_get (drop c.args.imported xs) i) (sym places) ∙ at);
    }
