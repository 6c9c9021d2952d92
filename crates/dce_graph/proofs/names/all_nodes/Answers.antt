use Rattle.base_lists.proofs.Common.{◌∙◌, ◌+◌, ◌++◌, ◌∷◌, [], ap, sym, map, drop, append_assoc, refl, option_map}
use Rattle.dce_graph.specs.declared.fault.GraphFault.TheVariants.{UnknownNode}
use Rattle.dce_graph.specs.Prelude.{first_unknown, reached_names, node_of, entries_now, place_in_map}
use Rattle.dce_graph.specs.Entries.{entry_now}
use Rattle.dce_graph.proofs.Steps.{left_more}
use Rattle.dce_graph.proofs.NamePlaces.{reached_more, unknown_behind, unknown_in}
use Rattle.dce_graph.proofs.Results.{fault_stays}
use Rattle.dce_graph.proofs.names.all_nodes.Goals as goal

pub loop-entry-preserved : goal.loop-entry-preserved
loop-entry-preserved c =
    let es = c.args.entries.now in
    let i = c.loop-entry.entry-index in
    let e = c.entry-item.result in
    let f = place_in_map c.args.names.now in
    let left = left_more es i e c.loop-entry-test.true c.entry-item.is in
    record {
      ahead = sym (ap (first_unknown f) (reached_more es i e c.loop-entry-test.true c.entry-item.is) ∙ unknown_behind f (entry_now e).reaches (reached_names (entries_now (drop (i + 1) es))) (c.in-Ok.ensures.known refl)) ∙ c.loop-entry.invariant.ahead;
      made = ap (λ ns. ns ++ map (node_of f) (entries_now (drop (i + 1) es))) (c.in_ok-keep-in-Ok.ensures.ok ∙ ap (λ n. c.loop-entry.nodes ++ n ∷ []) c.in-Ok.ensures.node)
          ∙ append_assoc c.loop-entry.nodes (node_of f (entry_now e) ∷ []) (map (node_of f) (entries_now (drop (i + 1) es)))
          ∙ sym (ap (λ xs. c.loop-entry.nodes ++ map (node_of f) (entries_now xs)) left) ∙ c.loop-entry.invariant.made;
    }

pub returns-in-Err-clause-fault : goal.returns-in-Err-clause-fault
returns-in-Err-clause-fault c =
    let es = c.args.entries.now in
    let i = c.loop-entry.entry-index in
    let e = c.entry-item.result in
    let f = place_in_map c.args.names.now in
    fault_stays c.in-Err.fault (option_map UnknownNode (first_unknown f (entry_now e).reaches)) (option_map UnknownNode (first_unknown f (reached_names (entries_now es))))
    (λ g h. sym (ap (option_map UnknownNode) (sym (ap (first_unknown f) (reached_more es i e c.loop-entry-test.true c.entry-item.is)) ∙ c.loop-entry.invariant.ahead)) ∙ unknown_in f (entry_now e).reaches (reached_names (entries_now (drop (i + 1) es))) g h)
    c.in-Err.ensures.fault
