use Rattle.split_proof.proofs.WellTypedBodies.{BodyLaws}
use Rattle.split_proof.proofs.PrimaryMapEntries.{primary_fits}
use Rattle.split_proof.proofs.SecondaryMapEntries.{secondary_fits}
use Rattle.split_proof.proofs.valid.maps_of_a_split_fit.Goals as goal

laws : (c : goal.After-replacing_calls_commutes_with_renumbering) → BodyLaws
laws c = record {
  inside = c.operands_pass_layer_by_layer.ensures.inside;
  any = c.operands_pass_layer_by_layer.ensures.any;
  layers = c.operands_pass_layer_by_layer.ensures.layers;
  typed = c.steps_agree.ensures.typed;
  replaced = c.replacing_calls_commutes_with_renumbering.ensures;
}

pub returns : goal.returns
returns c = record {
  primary = λ namespace prefix m moved valid can. primary_fits c.operands_pass_layer_by_layer.ensures.inside c.renumbering_keeps_typing.ensures.tree_entries namespace prefix m valid ((c.valid_where_items_hold.ensures m).0 valid) moved can;
  secondary = λ names m moved own before valid can. secondary_fits (laws c) c.renumbering_keeps_typing.ensures.tree_entries names m valid ((c.valid_where_items_hold.ensures m).0 valid) moved own before can;
}
