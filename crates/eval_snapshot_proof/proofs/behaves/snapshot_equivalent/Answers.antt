use Rattle.eval_snapshot_proof.proofs.SnapshotCorrespondence.{Laws}
use Rattle.eval_snapshot_proof.proofs.EqualTraces.{none_evaluated}
use Rattle.eval_snapshot_proof.proofs.EquivalentSnapshots.{snapshot_equivalent}
use Rattle.eval_snapshot_proof.proofs.behaves.snapshot_equivalent.Goals as goal

pub returns : goal.returns
returns c =
    let left = c.snapshots_have_what_is_left.ensures in
    let typing = c.renumbering_keeps_typing.ensures in
    let places = c.index_spaces_list_imports_and_definitions.ensures in
    let off = c.steps_agree_off_unknown_places.ensures in
    let laws : Laws = record {
      known = c.quiet_steps_are_known.ensures.calls;
      lead = c.quiet_calls_simulate.ensures.simulate;
      agree = off.steps;
      runs = off.runs;
      reached = c.quiet_runs_end.ensures.reached;
      machines = c.quiet_instantiations_are_instantiations.ensures.instantiations;
      writes = c.steps_write_only_touched_places.ensures.writes;
      code = record {
        layers = c.operands_pass_layer_by_layer.ensures.layers;
        globals = left.globals;
        segments = left.segments;
        code = left.code;
        constants = c.constants_of_one_module_read_the_environment.ensures.values;
      };
      items = λ m. (c.valid_where_items_hold.ensures m).0;
      naming = record { entries = typing.tree_entries; named = typing.tree_named; spaces = places.spaces; indices = places.indices };
      run_own = c.segments_run_as_copies.ensures.own;
      run_alone = c.segments_run_as_copies.ensures.alone;
      leave = c.segments_run_as_copies.ensures.left;
      worlds_leave = c.instantiated_stores_match_their_modules.ensures.world;
      declared = c.declared_references_are_one_more_segment.ensures.allocated;
      made = c.corresponding_worlds_have_equal_traces.ensures.made;
    } in
    record { equivalent = snapshot_equivalent laws c.related_instances_have_equal_traces.ensures.begun c.evaluated_numbers_are_in_range.ensures.expressible; none = none_evaluated }
