use Rattle.split_proof.proofs.ValidModules.{Laws, primary_valid, primary_single, primary_bounded}
use Rattle.split_proof.proofs.valid.primary_modules_are_valid.Goals as goal

laws : (c : goal.After-replacing_calls_commutes_with_renumbering) → Laws
laws c = record {
  bodies = record {
    inside = c.operands_pass_layer_by_layer.ensures.inside;
    any = c.operands_pass_layer_by_layer.ensures.any;
    layers = c.operands_pass_layer_by_layer.ensures.layers;
    typed = c.steps_agree.ensures.typed;
    replaced = c.replacing_calls_commutes_with_renumbering.ensures;
  };
  items = c.valid_where_items_hold.ensures;
  valid = c.declared_trees_are_valid.ensures.valid;
  single = c.declared_trees_are_valid.ensures.single;
  within = c.counts_are_within_where_none_is_over.ensures;
}

pub returns : goal.returns
returns c = record {
  valid = λ namespace prefix m moved valid few can free. primary_valid (laws c) namespace prefix m moved valid can few free;
  single = λ namespace prefix m moved valid can one. primary_single (laws c) namespace prefix m moved valid can one;
  bounded = λ namespace prefix m moved valid few can none. primary_bounded (laws c) namespace prefix m moved valid can few none;
}
