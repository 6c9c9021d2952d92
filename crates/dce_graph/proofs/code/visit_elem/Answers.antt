use Rattle.base_lists.proofs.Common.{ap, filter_map}
use Rattle.dce_graph.specs.Prelude.{const_point, const_points, elem_points}
use Rattle.dce_graph.proofs.Walking.{then_ok}
use Rattle.dce_graph.proofs.code.visit_elem.Goals as goal

pub returns-in_ok-visit_const-in-Active : goal.returns-in_ok-visit_const-in-Active
returns-in_ok-visit_const-in-Active c =
    let items = c.args.segment.now.items in
    then_ok c.visit_items.result c.args.search.now c.visit_const.new.search c.visit_items.new.search (const_points c.in-Active.offset) (filter_map const_point items) (elem_points c.args.segment.now.mode items)
    (ap (λ m. elem_points m items) c.in-Active.is) c.in_ok-visit_const-in-Active.ensures (rw c.as_slice.ensures at c.visit_items.ensures)
