use Rattle.eval_proof.proofs.GlobalTypes.{globals_typed}
use Rattle.eval_proof.proofs.references.evaluated_globals_are_typed.Goals as goal

pub returns : goal.returns
returns c = record { typed = globals_typed c.related_steps_agree.ensures.reflexive c.steps_write_only_touched_places.ensures.writes c.valid_where_items_hold.ensures }
