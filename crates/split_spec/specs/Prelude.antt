-- Passes on the names of this crate from one place. Declares nothing.
pub use Rattle.split_spec.specs.SubstitutedCalls.{calls_in, calls_step, with_calls}
pub use Rattle.split_spec.specs.FaultOrder.{moved_params, namespace_taken, prefix_taken, split_fault, too_many}
pub use Rattle.split_spec.specs.FromPrimary.{entities, exports_for_secondary, from_primary, imports_from_primary, is_from_primary, is_named_from_primary, marks_from_primary, name_from_primary}
pub use Rattle.split_spec.specs.FromPrimary.{slots_name}
pub use Rattle.split_spec.specs.TrampolineNeeds.{is_needed}
pub use Rattle.split_spec.specs.Primary.{added_exports, is_left, left_marks, placeholder_imports, primary, primary_func, primary_funcs, primary_map, primary_tree, primary_with}
pub use Rattle.split_spec.specs.Secondary.{HasSlots, secondary, secondary_call, secondary_call_by_place, secondary_func, secondary_imports, secondary_map, secondary_tree, secondary_with}
pub use Rattle.split_spec.specs.SplitSlots.{call_by_slot, call_through_slot, defined_at, in_slots, params_of, place_among, slot_segment, slot_table, slot_table_type, trampoline_body, type_index}
