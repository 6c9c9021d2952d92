use Rattle.split_proof.proofs.InstantiatedSplits.{begin_alike, first_steps}
use Rattle.split_proof.proofs.IndexEntries.{Laws}
use Rattle.split_proof.proofs.AddressPartners.{one_to_one}
use Rattle.split_proof.proofs.behaves.split_modules_begin_related.Goals as goal

laws : (c : goal.After-instances_stay_typed) → Laws
laws c = record {
  bodies = record {
    inside = c.operands_pass_layer_by_layer.ensures.inside;
    any = c.operands_pass_layer_by_layer.ensures.any;
    layers = c.operands_pass_layer_by_layer.ensures.layers;
    typed = c.steps_agree.ensures.typed;
    replaced = c.replacing_calls_commutes_with_renumbering.ensures;
  };
  items = c.valid_where_items_hold.ensures;
  entries = c.renumbering_keeps_typing.ensures.tree_entries;
  tree_named = c.renumbering_keeps_typing.ensures.tree_named;
  code = c.steps_agree.ensures.replaced;
  stubs = c.loaders_begin_as_with_defined_placeholders.ensures.begin;
  primary = c.loaders_begin_as_their_primary.ensures.begin;
  inst = c.loaders_begin_as_their_primary.ensures.inst;
  adds = c.loaders_begin_as_with_defined_placeholders.ensures.added;
  leaves = c.instantiated_stores_match_their_modules.ensures.primary;
  typed = c.instances_stay_typed.ensures.made;
  segments = c.segments_leave_functions_alone.ensures.kept;
  counted = c.loaders_begin_as_with_defined_placeholders.ensures.counted;
  constants = c.constants_of_one_module_read_the_environment.ensures.values;
  declared = c.declared_references_are_one_more_segment.ensures.allocated;
}

pub returns : goal.returns
returns c = record {
  one_to_one = λ namespace names m moved owns g env loaded. one_to_one namespace names.export_prefix m ((c.valid_where_items_hold.ensures m).0 g.valid) moved g.can_move env loaded;
  begin = λ namespace names m moved owns g env. begin_alike (laws c) namespace names m moved owns g env;
  first_step = λ namespace names m moved owns g env moves. first_steps (laws c) namespace names m moved owns g env moves;
}
