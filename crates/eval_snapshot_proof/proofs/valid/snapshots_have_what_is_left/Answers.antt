use Rattle.eval_snapshot_proof.proofs.SnapshotItems.{global_from, segments_many}
use Rattle.eval_snapshot_proof.proofs.TypedCode.{code_passes}
use Rattle.eval_snapshot_proof.proofs.valid.snapshots_have_what_is_left.Goals as goal

pub returns : goal.returns
returns c = record {
  globals = global_from;
  segments = segments_many;
  code = code_passes c.operands_pass_layer_by_layer.ensures.inside c.operands_pass_layer_by_layer.ensures.any;
}
