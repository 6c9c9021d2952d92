use Rattle.dce_proof.proofs.ClosureOfMarks.{closed, spaces, covers}
use Rattle.dce_proof.proofs.reach.reached_marks_are_closed.Goals as goal

pub returns : goal.returns
returns c = record {
  closed = λ g m r valid exact. closed g m r exact c.operands_pass_layer_by_layer.ensures.inside c.operands_pass_layer_by_layer.ensures.layers (c.renumbering_keeps_typing.ensures.tree_named (spaces m) m (c.renumbering_keeps_typing.ensures.tree_entries (spaces m) m valid (covers m)));
}
