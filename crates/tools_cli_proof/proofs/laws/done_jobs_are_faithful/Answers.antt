use Rattle.std.proofs.Common.{false}
use Rattle.tools_cli_proof.proofs.Faithful.{done_is_faithful}
use Rattle.tools_cli_proof.proofs.laws.done_jobs_are_faithful.Goals as goal

pub returns : goal.returns
returns c = record {
  faithful = λ words before writes lines text are h.
      done_is_faithful (record {
        plainly = λ tree writable few. c.canonical_encoding_encodes.ensures.spells tree writable.0 writable.1 (c.trees_that_fit_have_small_sizes.ensures tree few);
        ranges = c.encoded_trees_are_in_range.ensures;
        bounded = λ bytes tree s w. c.encoded_trees_are_bounded.ensures false bytes tree s w;
        several = c.link_faults_name_parts.ensures.several;
        valid = c.merged_modules_are_valid.ensures.valid;
        single = c.merged_modules_are_valid.ensures.single;
        sizes = c.merged_modules_are_valid.ensures.bounded;
        in_range = c.merged_modules_are_in_range.ensures.range;
        memory = c.merged_modules_are_in_range.ensures.memory;
        same = c.merged_module_equivalent.ensures.equivalent;
        turns = c.sequential_instantiation_equivalent.ensures.equivalent;
        samples = c.sample_modules_are_valid.ensures;
        closed = c.reached_marks_are_closed.ensures.closed;
        left_valid = c.swept_modules_are_valid.ensures.valid;
        left_single = c.swept_modules_are_valid.ensures.single;
        left_sizes = c.swept_modules_are_valid.ensures.bounded;
        left_in_range = c.swept_modules_are_in_range.ensures.range;
        left_memory = c.swept_modules_are_in_range.ensures.memory;
        left_same = c.swept_module_equivalent.ensures;
        few_move = c.split_modules_are_in_range.ensures.few;
        primary_valid = c.primary_modules_are_valid.ensures.valid;
        primary_single = c.primary_modules_are_valid.ensures.single;
        primary_sizes = c.primary_modules_are_valid.ensures.bounded;
        primary_in_range = c.split_modules_are_in_range.ensures.primary;
        primary_memory = c.split_modules_are_in_range.ensures.primary_memory;
        planned = c.what_is_planned_is_a_plan.ensures;
        pair_can = c.pairs_can_be_split.ensures;
        pair_same = c.split_module_equivalent.ensures.equivalent;
        pair_loads = c.secondary_modules_load.ensures.always;
        secondary_valid = c.secondary_modules_are_valid.ensures.valid;
        secondary_single = c.secondary_modules_are_valid.ensures.single;
        secondary_sizes = c.secondary_modules_are_valid.ensures.bounded;
        secondary_in_range = c.split_modules_are_in_range.ensures.secondary;
        secondary_memory = c.split_modules_are_in_range.ensures.secondary_memory;
        begins = λ bytes tree is s. c.encoded_trees_begin_in_range.ensures bytes tree false is s;
        after_snapshots = c.evaluated_modules_are_snapshots.ensures;
        after_valid = c.evaluated_modules_are_valid.ensures.valid;
        after_single = c.evaluated_modules_are_valid.ensures.single;
        after_sizes = c.evaluated_modules_are_valid.ensures.bounded;
        after_behaves = c.evaluated_modules_behave.ensures.behaves;
        after_runs = c.evaluated_modules_behave.ensures.machines;
        snapshot_in_range = c.snapshots_are_in_range.ensures.range;
        memory_zero = c.valid_code_names_memory_zero.ensures;
      }) words before writes lines text are h;
}
