use Rattle.std.proofs.Common.{◌∙◌, ap, sym, map, arith}
use Rattle.serde_json.specs.View.{view}
use Rattle.dce_graph.specs.GraphFile.{graph_of_values as graph_of_data}
use Rattle.dce_graph.proofs.Results.{result_of_values, text_comes, no_array_comes}
use Rattle.dce_graph.proofs.Sizes.{few_items}
use Rattle.dce_graph.proofs.reading.read_graph.Goals as goal

pub returns-in-Err-clause-fault : goal.returns-in-Err-clause-fault
returns-in-Err-clause-fault c = text_comes c.args.text.now c.text_fault.result _ c.text_fault.ensures.memory c.in-Err.ensures.err

pub graph_of_values-requires : goal.graph_of_values-requires
graph_of_values-requires c =
    let few = few_items c.args.text.now (view c.in-Ok.value) c.in-Some.values.now.items c.in-Ok.ensures.ok.1 c.in-Some.ensures in
    record { few = rw c.as_slice.ensures.value (omega (arith, few)) }

pub returns-in-Some-clause-graph : goal.returns-in-Some-clause-graph
returns-in-Some-clause-graph c =
    let come = result_of_values c.args.text.now (view c.in-Ok.value) c.in-Some.values.now.items c.in-Ok.ensures.ok.0 c.in-Ok.ensures.ok.1 c.in-Some.ensures ∙ ap (λ vs. graph_of_data (map view vs)) (sym c.as_slice.ensures.value) in
    rw come c.graph_of_values.ensures.ok

pub returns-in-Some-clause-fault : goal.returns-in-Some-clause-fault
returns-in-Some-clause-fault c =
    let come = result_of_values c.args.text.now (view c.in-Ok.value) c.in-Some.values.now.items c.in-Ok.ensures.ok.0 c.in-Ok.ensures.ok.1 c.in-Some.ensures ∙ ap (λ vs. graph_of_data (map view vs)) (sym c.as_slice.ensures.value) in
    rw come c.graph_of_values.ensures.fault

pub returns-clause-fault : goal.returns-clause-fault
returns-clause-fault c = no_array_comes c.args.text.now (view c.in-Ok.value) c.in-Ok.ensures.ok.0 c.in-Ok.ensures.ok.1 c.in-None.ensures

pub returns-in-Some-clause-few : goal.returns-in-Some-clause-few
returns-in-Some-clause-few c = c.graph_of_values.ensures.few
