-- Names of merged modules, passed on from one place. Declares nothing.
pub use Rattle.merge_spec.specs.Faults.{External, FuncOf, GlobalOf, LinkFaultsNameParts, MemoryOf, NamesPart, NoPartsWantMemory, SeveralMemoriesAddNoFault, TableOf, asked, asked_at, clash_fault}
pub use Rattle.merge_spec.specs.Faults.{defined_globals, defined_globals_from, defined_globals_in, end_fault, external_of, first_fault, found, global_fault, import_fault, is_suited, is_under}
pub use Rattle.merge_spec.specs.Faults.{kept_limits, link_fault, meets_limits, memory_count, memory_fault, same_but_limits, stays, suits}
pub use Rattle.merge_spec.specs.Joined.{FewInAll, Joins, joined_module, repeated_name}
pub use Rattle.merge_spec.specs.Linked.{by_import, end_entry, read_at, read_entry, when_fixed}
pub use Rattle.merge_spec.specs.Merged.{all_exports, by_part, by_part_from, defined_funcs, export_names, imported_count, imports_kind, map_of, merged, merged_const, merged_data, merged_data_mode}
pub use Rattle.merge_spec.specs.Merged.{merged_desc, merged_elem, merged_elem_mode, merged_global, merged_import, merged_read, merged_types, named_exports, new_index, nullary, place_of_end}
pub use Rattle.merge_spec.specs.Merged.{place_of_type, start_among, start_calls, start_of, starts, staying, staying_of, with_type, with_types}
pub use Rattle.merge_spec.specs.Parts.{named_module, named_modules}
pub use Rattle.merge_spec.specs.View.{all_entities, linked_world, merge_view}
