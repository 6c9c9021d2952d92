use Rattle.base_lists.proofs.Common.{◌∙◌, ap, sym, cond, Some}
use Rattle.dce_graph.specs.Prelude.{pair_is, found_pair}
use Rattle.dce_graph.proofs.NodeChainLaws.{pair_tested}
use Rattle.dce_graph.proofs.lookups.note.Goals as goal

pub returns-in_ok-insert-in-Some-clause-noted : goal.returns-in_ok-insert-in-Some-clause-noted
returns-in_ok-insert-in-Some-clause-noted c = λ a b.
    let new = c.in_ok-insert-in-Some.ensures.updates.0 (record { ref_ptr = (0, 0); now = a }, record { ref_ptr = (0, 0); now = b }) in
    let tested = pair_tested c.as_str.result.now c.as_str-in-Some.result.now a b c.in-Some.pair c.as_str.ensures.text c.as_str-in-Some.ensures.text in
    new ∙ ap (λ t. cond t (Some c.args.place) (found_pair c.args.last.now a b)) (tested ∙ ap (pair_is a b) (sym c.in-Some.is))
