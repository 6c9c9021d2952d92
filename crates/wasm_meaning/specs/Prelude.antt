-- Re-exports definitions of this crate.
pub use Rattle.wasm_meaning.specs.Access.{little, little_bytes, load_to, load_width, loaded, store_from, stored}
pub use Rattle.wasm_meaning.specs.Control.{branch, call_slot, end_level, func_ref, level_here, open_block, open_level, own_at, own_of, resume, shape_of, type_at, type_of_func}
pub use Rattle.wasm_meaning.specs.Environment.{Environment, ExternNumber, ExternalValue, FuncAt, FuncKey, Function, GlobalAt, GlobalKey, MemoryAt, MemoryKey, Null, Number, Offer, OwnFunc, OwnKey}
pub use Rattle.wasm_meaning.specs.Environment.{Owned, Shown, TableAt, TableKey, addressed, all_of, flat, func_of, func_value, is_environment, look_up, one_if, own_funcs, own_globals, own_memories}
pub use Rattle.wasm_meaning.specs.Environment.{own_tables, owned_at, owned_of, received, received_all, received_ref, same_key}
pub use Rattle.wasm_meaning.specs.Laws.{EndsArePaths}
pub use Rattle.wasm_meaning.specs.Linking.{Defined, End, Entity, Outside, Part, Read, Site, count_of, demands, end_of, end_step, entity_step, export_named, first_place, gathered, global_import}
pub use Rattle.wasm_meaning.specs.Linking.{has_kind, import_at, import_step, imported_as, imports_of, initial, initials_from, is_outside, joined, joined_step, least, limits_of, linked_end, met}
pub use Rattle.wasm_meaning.specs.Linking.{met_limits, module_at, outside_read, pair_of, places, read_of, read_step, same_pair, same_site, same_text, sites, sites_from, sites_in, source_of}
pub use Rattle.wasm_meaning.specs.Linking.{space_index}
pub use Rattle.wasm_meaning.specs.Loader.{LoaderRun, LoaderWorld, Secondary, begun_of, begun_under, events_loaded, fresh_loader, loader_made, placeholders_from, placeholders_of, primary_added}
pub use Rattle.wasm_meaning.specs.Loader.{if_no_start, secondary_added, secondary_of, slot_of, store_loaded, store_under, supplied, supplied_by_primary, tick_loader}
pub use Rattle.wasm_meaning.specs.Memory.{fill_memory, grow_memory, init_memory, load_from, memory_may_grow, pop_three, store_into, with_memory, writes, written}
pub use Rattle.wasm_meaning.specs.Outcomes.{Gives, IllTyped, Outcome, ResRel, Traps, bind, copies, done, onto, or_ill_typed, or_trap, overwrite, slice, split_at, trap, with_entry, wrong}
pub use Rattle.wasm_meaning.specs.Paths.{EndsWith, LeadsTo, Path, PathStep, ends, goes, walk, walk_on}
pub use Rattle.wasm_meaning.specs.Run.{Answer, Asked, BadMove, Call, Closed, Deny, Done, Event, Extend, Fresh, Get, GlobalOf, Got, Grant, GrowAsked, InstanceTrapped, Invoke, IsPrefix, LinkFault}
pub use Rattle.wasm_meaning.specs.Run.{Linked, Makes, MemoryOf, Move, Named, Opened, Out, Pending, Phase, Place, Refuse, Returned, Run, Same, Set, Size, Steps, TableOf, Take, Transition, Trapped}
pub use Rattle.wasm_meaning.specs.Run.{answered, at_entries, began, byte_of, called, closed_move, decided, delivered, does, events, events_of, extended, fresh_run, got, granted, grown_table, in_phase}
pub use Rattle.wasm_meaning.specs.Run.{is_mark, is_taken_closed, made, moved, next_move, nothing_in, open_next, or_bad, or_closed, place_at, refused, run_after, set, show_all, shows, size_of, started}
pub use Rattle.wasm_meaning.specs.Run.{tick, transition, transition_at, trapped_to, viewed_at}
pub use Rattle.wasm_meaning.specs.Sequential.{Added, HasNoActive, JoinsEarlier, NoLateSegments, SequentialRun, added, added_as, addresses_of, all_match, events_sequential, external_value_for, goes_on}
pub use Rattle.wasm_meaning.specs.Sequential.{next_inst, own_segments, tick_sequential, view_over}
pub use Rattle.wasm_meaning.specs.StartFrames.{AgreeOnFrames, GivesNothing, IsBottom, StartDependsOnlyOnItsFrames, a_call, a_frame, ended, over, trapped}
pub use Rattle.wasm_meaning.specs.State.{Act, AsksGrow, Body, Caller, Calls, CallsOwn, CallsPlaceholder, Change, Code, Data, DropData, DropElem, Elem, Ended, Ends, EndsCall, Entry, Env, ExternRef}
pub use Rattle.wasm_meaning.specs.State.{Frame, Func, FuncRef, Global, Goes, GrowMemory, GrowTable, Growing, Growth, Host, Inst, Keep, Level, Mark, Memory, Next, Num, Opening, Own, Pair, Placeholder}
pub use Rattle.wasm_meaning.specs.State.{Ran, Ref, RefVal, Running, SetGlobal, SetMemory, SetTable, Starter, Store, Table, Text, Val, Waiting, WaitsGrowth}
pub use Rattle.wasm_meaning.specs.Step.{act, changed, enter, enter_at, exec, frame_of, give, give_levels, no_bytes, no_items, perform, step, step_code, step_levels, to_mark}
pub use Rattle.wasm_meaning.specs.Tables.{fill_table, fits, get_slot, grow_table, init_table, set_slot, table_may_grow, with_table, writes_table}
pub use Rattle.wasm_meaning.specs.Touched.{ActWrites, Bytes, Nothing, OneGlobal, Slots, StepsWriteWhatTheyTouch, Touched, Writes, a_global, touched, touched_by, touched_levels, touched_next}
pub use Rattle.wasm_meaning.specs.Values.{binary, declared, global_put, global_set, go, local_put, null_of, num_of, on_values, pop, pop_num, pop_ref, pop_typed, pushes, ref_is_null, ref_of}
pub use Rattle.wasm_meaning.specs.Values.{same_func_type, same_ref, same_type, select_any, select_of, select_typed, type_of, type_of_ref, typed, unary, with_values, zero_of, zeros}
pub use Rattle.wasm_meaning.specs.World.{Begun, Filled, PlacedSegment, World, address_in, address_of, all_there, alone, and_then, base, begun, const_value, copy_bytes, copy_data, copy_elem}
pub use Rattle.wasm_meaning.specs.World.{copy_slots, defined_before, defined_count, defined_external_value, elem_of, elem_with, external_value_at, external_value_of, global_with, import_type}
pub use Rattle.wasm_meaning.specs.World.{imported_external_value, inst_of, instantiate, insts_from, is_match, is_matched, joined_stores, links, meets, meets_most, new_elem, new_func, new_global}
pub use Rattle.wasm_meaning.specs.World.{numbers, one_by_one, one_place, or_trapped, outside_external_value, own_count, own_key, own_key_of, own_store, part_store, placed_datas, placed_elems}
pub use Rattle.wasm_meaning.specs.World.{run_data, run_data_with, run_elem, run_elem_with, same_bool, seen_as, segments, segments_in, space, start_in, starts_of, store_with, stores_from, value_of}
pub use Rattle.wasm_meaning.specs.World.{value_of_read}
