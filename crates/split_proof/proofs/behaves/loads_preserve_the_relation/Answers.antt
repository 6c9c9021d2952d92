use Rattle.split_proof.proofs.IndexEntries.{Laws}
use Rattle.split_proof.proofs.RelatedInstances.{instances_alike}
use Rattle.split_proof.proofs.StoresAfterLoads.{loads_keep}
use Rattle.split_proof.proofs.behaves.loads_preserve_the_relation.Goals as goal

laws : (c : goal.After-instances_stay_typed) → Laws
laws c = record {
  bodies = record {
    inside = c.operands_pass_layer_by_layer.ensures.inside;
    any = c.operands_pass_layer_by_layer.ensures.any;
    layers = c.operands_pass_layer_by_layer.ensures.layers;
    typed = c.steps_agree.ensures.typed;
    replaced = c.replacing_calls_commutes_with_renumbering.ensures;
  };
  items = c.valid_where_items_hold.ensures;
  entries = c.renumbering_keeps_typing.ensures.tree_entries;
  tree_named = c.renumbering_keeps_typing.ensures.tree_named;
  code = c.steps_agree.ensures.replaced;
  stubs = c.loaders_begin_as_with_defined_placeholders.ensures.begin;
  primary = c.loaders_begin_as_their_primary.ensures.begin;
  inst = c.loaders_begin_as_their_primary.ensures.inst;
  adds = c.loaders_begin_as_with_defined_placeholders.ensures.added;
  leaves = c.instantiated_stores_match_their_modules.ensures.primary;
  typed = c.instances_stay_typed.ensures.made;
  segments = c.segments_leave_functions_alone.ensures.kept;
  counted = c.loaders_begin_as_with_defined_placeholders.ensures.counted;
  constants = c.constants_of_one_module_read_the_environment.ensures.values;
  declared = c.declared_references_are_one_more_segment.ensures.allocated;
}

pub returns : goal.returns
returns c = record {
  instances = instances_alike (laws c) c.loaders_begin_as_with_defined_placeholders.ensures.added c.loaders_begin_as_their_primary.ensures.inst;
  kept = loads_keep (laws c) c.code_relation_is_monotone.ensures.stores;
}
