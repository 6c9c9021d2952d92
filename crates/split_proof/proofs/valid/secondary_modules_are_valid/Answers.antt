use Rattle.split_proof.proofs.ValidModules.{Laws, secondary_valid, secondary_single, secondary_bounded}
use Rattle.split_proof.proofs.valid.secondary_modules_are_valid.Goals as goal

pub returns : goal.returns
returns c =
    let laws : Laws = record {
      bodies = record {
        inside = c.operands_pass_layer_by_layer.ensures.inside;
        any = c.operands_pass_layer_by_layer.ensures.any;
        layers = c.operands_pass_layer_by_layer.ensures.layers;
        typed = c.steps_agree.ensures.typed;
        replaced = c.replacing_calls_commutes_with_renumbering.ensures;
      };
      items = c.valid_where_items_hold.ensures;
      valid = c.declared_trees_are_valid.ensures.valid;
      single = c.declared_trees_are_valid.ensures.single;
      within = c.counts_are_within_where_none_is_over.ensures;
    } in
    record {
      valid = λ names m moved own before valid can. secondary_valid laws names m moved own before valid can;
      single = λ names m moved own before valid can one. secondary_single laws names m moved own before valid can one;
      bounded = λ names m moved own before valid few can none. secondary_bounded laws names m moved own before valid can few none;
    }
