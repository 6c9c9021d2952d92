use Rattle.std.proofs.Common.{slice_get, ap, sym, ◌∙◌}
use Rattle.split_slots.proofs.ShiftedPlaces.{rest_is}
use Rattle.split_slots.proofs.primary_function_indices.add_behind_from.Goals as goal

pub add_behind-requires : goal.add_behind-requires
add_behind-requires c = record { few = λ i place at. c.requires.few i place (ap (λ xs. slice_get xs i) (sym (rest_is c.args.places.now c.args.from)) ∙ at) }
