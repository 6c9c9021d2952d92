-- Names of reach, passed on from one place. Declares nothing.
pub use Rattle.dce_graph.specs.Entries.{entries_now, place_in_map, texts_in}
pub use Rattle.dce_graph.specs.GraphFile.{Text, entry_of, fault_of, first_repeated, first_unknown, graph_result, if_text, misshapen, names_of, node_of, place_of_name, reached_names}
pub use Rattle.dce_graph.specs.Marks.{AreExact, Spread, flags, marked, unmarked}
pub use Rattle.dce_graph.specs.Reach.{IsReached, along, body_operands, body_points, const_point, const_points, data_points, edges, elem_points, export_of_node, export_place, from_import, from_node}
pub use Rattle.dce_graph.specs.Reach.{import_points, imports_into, named_points, operand_point, pair_is, place_in_kind, point_count, root, root_nodes, roots, routes, denotes_import, start_points}
pub use Rattle.dce_graph.specs.Reach.{stays_imported}
pub use Rattle.dce_graph.specs.Walks.{AreFollowed, AreNodeChains, found_pair, is_of_pair, last_place}
