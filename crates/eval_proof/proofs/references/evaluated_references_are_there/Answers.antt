use Rattle.eval_proof.proofs.StoresAfterCalls.{references_there}
use Rattle.eval_proof.proofs.references.evaluated_references_are_there.Goals as goal

pub returns : goal.returns
returns c = record { there = references_there c.related_steps_agree.ensures.steps c.related_steps_agree.ensures.known c.related_steps_agree.ensures.reflexive c.steps_write_only_touched_places.ensures.writes c.valid_where_items_hold.ensures }
