use Rattle.base_lists.proofs.Common.{◌∙◌, ap, refl, map, option_map}
use Rattle.serde_json.specs.View.{view}
use Rattle.dce_graph.specs.declared.fault.GraphFault.TheVariants.{UnknownNode}
use Rattle.dce_graph.specs.Prelude.{first_unknown, reached_names, node_of, fault_of, entries_now, place_in_map}
use Rattle.dce_graph.specs.GraphFile.{graph_of_values as graph_of_data}
use Rattle.dce_graph.proofs.Results.{fault_stays, values_come, known_come, unknown_comes}
use Rattle.dce_graph.proofs.reading.graph_of_values.Goals as goal

pub returns-clause-ok : goal.returns-clause-ok
returns-clause-ok c =
    let es = entries_now c.in_ok-entries.entries.items in
    let f = place_in_map c.in_ok-names.names in
    let come = values_come (map view c.args.values.now) es f (c.in_ok-entries.ensures.shaped refl) c.in_ok-entries.ensures.entries
    (rw c.as_slice.ensures.value at (c.in_ok-names.ensures.distinct refl)) (λ q. rw c.as_slice.ensures.value at (c.in_ok-names.ensures.places q)) in
    come ∙ known_come (first_unknown f (reached_names es)) c.in-Ok.nodes (map (node_of f) es) (rw c.as_slice-2.ensures.value at (c.in-Ok.ensures.known refl)) (rw c.as_slice-2.ensures.value at c.in-Ok.ensures.nodes)

pub returns-in-Err-clause-fault : goal.returns-in-Err-clause-fault
returns-in-Err-clause-fault c =
    let es = entries_now c.in_ok-entries.entries.items in
    let f = place_in_map c.in_ok-names.names in
    let come = values_come (map view c.args.values.now) es f (c.in_ok-entries.ensures.shaped refl) c.in_ok-entries.ensures.entries
    (rw c.as_slice.ensures.value at (c.in_ok-names.ensures.distinct refl)) (λ q. rw c.as_slice.ensures.value at (c.in_ok-names.ensures.places q)) in
    fault_stays c.in-Err.fault (option_map UnknownNode (first_unknown f (reached_names es))) (fault_of (graph_of_data (map view c.args.values.now)))
    (λ g h. ap fault_of come ∙ unknown_comes (first_unknown f (reached_names es)) (map (node_of f) es) g h)
    (rw c.as_slice-2.ensures.value at c.in-Err.ensures.fault)
