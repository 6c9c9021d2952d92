-- This module re-exports names of evaluation and declares nothing.
pub use Rattle.eval_spec.specs.Evaluation.{called_in_order, calls_finished, done_count, evaluated, evaluated_within, state_at_end, stopped_by}
pub use Rattle.eval_spec.specs.Instantiation.{after_start, booted, copied_slots, data_tests, elem_tests, filled_from, imported_func, imported_store, in_order, instantiated, none_written, own_inst}
pub use Rattle.eval_spec.specs.Instantiation.{place_in, reads_global, slots_from, state_at_first, unknown_at_first, unknown_items, value_in, with_data, with_data_mode, with_elem, with_elem_mode}
pub use Rattle.eval_spec.specs.Instantiation.{with_segments}
pub use Rattle.eval_spec.specs.Quiet.{ComesTo, after_steps, call_end, came_to, here, host_call, host_opened, host_opened_if_there, on, quiet_step, run_end, spent, spent_at, weight}
pub use Rattle.eval_spec.specs.State.{Finished, Going, Stage, State, Stopped, Test, first_held, is_finished, is_going, left_behind, state_of, stop_of, stopped_or, tried}
pub use Rattle.eval_spec.specs.Stops.{Beginning, any_in_row, beginning, calls_import, changes_table, frame_turns, further_turns, gives_nothing, grows, host_tests, instruction_tests, is_imported}
pub use Rattle.eval_spec.specs.Stops.{is_unknown_import, opens, stack_depth, takes_and_gives_nothing, test, tests, tests_at, too_many_blocks, uses_unknown, writes_too_many, written_after}
pub use Rattle.eval_spec.specs.StateContents.{constant, is_dropped, is_unknown_global, memory_bytes, value_of_global}
