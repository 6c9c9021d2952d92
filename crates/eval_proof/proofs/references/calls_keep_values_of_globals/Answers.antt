use Rattle.eval_proof.proofs.StoresAfterCalls.{calls_keep_refs}
use Rattle.eval_proof.proofs.GlobalTypes.{calls_keep_types}
use Rattle.eval_proof.proofs.references.calls_keep_values_of_globals.Goals as goal

pub returns : goal.returns
returns c = record {
  references = calls_keep_refs c.related_steps_agree.ensures.steps c.related_steps_agree.ensures.known c.related_steps_agree.ensures.reflexive c.steps_write_only_touched_places.ensures.writes c.valid_where_items_hold.ensures;
  types = calls_keep_types c.steps_write_only_touched_places.ensures.writes;
}
