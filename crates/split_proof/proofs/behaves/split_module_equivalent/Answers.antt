use Rattle.split_proof.proofs.LoadsInRuns.{LoadLaws}
use Rattle.split_proof.proofs.IndexEntries.{Laws}
use Rattle.split_proof.proofs.SplitEquivalence.{show_the_same}
use Rattle.split_proof.proofs.StatesAfterLoads.{SettleLaws}
use Rattle.split_proof.proofs.AnsweredSteps.{StepLaws}
use Rattle.split_proof.proofs.behaves.split_module_equivalent.Goals as goal

begins : (c : goal.After-steps_call_moved_functions_together) → Laws
begins c = record {
  bodies = record {
    inside = c.operands_pass_layer_by_layer.ensures.inside;
    any = c.operands_pass_layer_by_layer.ensures.any;
    layers = c.operands_pass_layer_by_layer.ensures.layers;
    typed = c.steps_agree.ensures.typed;
    replaced = c.replacing_calls_commutes_with_renumbering.ensures;
  };
  items = c.valid_where_items_hold.ensures;
  entries = c.renumbering_keeps_typing.ensures.tree_entries;
  tree_named = c.renumbering_keeps_typing.ensures.tree_named;
  code = c.steps_agree.ensures.replaced;
  stubs = c.loaders_begin_as_with_defined_placeholders.ensures.begin;
  primary = c.loaders_begin_as_their_primary.ensures.begin;
  inst = c.loaders_begin_as_their_primary.ensures.inst;
  adds = c.loaders_begin_as_with_defined_placeholders.ensures.added;
  leaves = c.instantiated_stores_match_their_modules.ensures.primary;
  typed = c.instances_stay_typed.ensures.made;
  segments = c.segments_leave_functions_alone.ensures.kept;
  counted = c.loaders_begin_as_with_defined_placeholders.ensures.counted;
  constants = c.constants_of_one_module_read_the_environment.ensures.values;
  declared = c.declared_references_are_one_more_segment.ensures.allocated;
}

loads : (c : goal.After-steps_call_moved_functions_together) → LoadLaws
loads c = record {
  items = c.valid_where_items_hold.ensures;
  primary = c.primary_modules_are_valid.ensures.valid;
  secondary = c.secondary_modules_are_valid.ensures.valid;
  leave = c.instantiated_stores_match_their_modules.ensures.added;
  typed = c.instances_stay_typed.ensures.made;
  stays = c.instances_stay_typed.ensures.stays;
  calls = c.stores_are_extended.ensures.call;
  loaders = c.stores_are_extended.ensures.loader;
  over = c.closed_runs_stay_closed.ensures.over;
  kept = c.store_extension_is_a_preorder.ensures.kept;
}

settles : (c : goal.After-steps_call_moved_functions_together) → SettleLaws
settles c = record {
  begin = begins c;
  load = loads c;
  added = c.stores_are_extended.ensures.added;
  code_stays = c.code_relation_is_monotone.ensures.code;
  stores_stay = c.code_relation_is_monotone.ensures.stores;
  runs_stay = c.code_relation_is_monotone.ensures.runs;
}

steps : (c : goal.After-steps_call_moved_functions_together) → StepLaws
steps c = record {
  between = c.calls_through_slots_simulate_direct_calls.ensures.passing_frames;
  runs = c.loaders_step_as_their_run.ensures.steps;
  loaders = c.stores_are_extended.ensures.loader;
  steps = c.stores_are_extended.ensures.step;
  stays = c.instances_stay_typed.ensures.stays;
  over = c.closed_runs_stay_closed.ensures.over;
  ways = c.steps_call_moved_functions_together.ensures.together;
}

pub returns : goal.returns
returns c = record {
  equivalent = show_the_same (settles c) (steps c) c.loads_preserve_the_relation.ensures.instances c.loaders_step_as_their_run.ensures.answered c.calls_through_slots_simulate_direct_calls.ensures.trampolines;
}
