use Rattle.eval_snapshot_proof.proofs.ValidSnapshots.{Laws, valid_in_all, single_in_all, bounded_in_all}
use Rattle.eval_snapshot_proof.proofs.valid.snapshots_are_valid.Goals as goal

laws : (c : goal.After-counts_are_within_where_none_is_over) → Laws
laws c = record {
  code = record {
    inside = c.operands_pass_layer_by_layer.ensures.inside;
    any = c.operands_pass_layer_by_layer.ensures.any;
    layers = c.operands_pass_layer_by_layer.ensures.layers;
  };
  items = c.valid_where_items_hold.ensures;
  valid = c.declared_trees_are_valid.ensures.valid;
  single = c.declared_trees_are_valid.ensures.single;
  bounded = c.declared_trees_are_valid.ensures.bounded;
  within = c.counts_are_within_where_none_is_over.ensures;
}

pub returns : goal.returns
returns c = record {
  valid = λ m s evaluated kept. valid_in_all (laws c) m s kept evaluated;
  single = λ m s evaluated kept. single_in_all (laws c) m s kept evaluated;
  bounded = λ m s evaluated kept. bounded_in_all (laws c) m s kept evaluated;
}
