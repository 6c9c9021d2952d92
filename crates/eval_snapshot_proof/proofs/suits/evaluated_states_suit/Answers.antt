use Rattle.eval_snapshot_proof.proofs.EmptyType.{empty_types_there}
use Rattle.eval_snapshot_proof.proofs.GlobalConstants.{values_typed}
use Rattle.eval_snapshot_proof.proofs.suits.evaluated_states_suit.Goals as goal

pub returns : goal.returns
returns c = record { typed = values_typed c.evaluated_references_are_there.ensures.there c.evaluated_globals_are_typed.ensures.typed; empty_type = empty_types_there c.segments_leave_functions_alone.ensures.kept c.quiet_instantiations_are_instantiations.ensures.instantiations }
