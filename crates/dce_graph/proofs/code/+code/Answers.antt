use Rattle.base_lists.proofs.Common.{◌++◌, filter_map}
use Rattle.wasm_tree_spec.specs.Prelude.{operands_of}
use Rattle.dce_graph.specs.Prelude.{operand_point, named_points, body_points}
use Rattle.dce_graph.proofs.Marking.{spread_then}
use Rattle.dce_graph.proofs.Walking.{then, then_ok, body_more, of_Block, of_Loop, of_If}
use Rattle.dce_graph.proofs.code.+code.Goals as goal

pub visit_body-loop-instr-preserved : goal.visit_body-loop-instr-preserved
visit_body-loop-instr-preserved t c =
    let is = c.args.body.now in
    let n = c.loop-instr.instr-index in
    let i = c.instr-item.result in
    then _ _ _ _ _ _ (body_more is n i c.loop-instr-test.true c.instr-item.is) c.loop-instr.invariant c.in_ok-visit_instr.ensures

pub visit_instr-returns-in_ok-visit_body-in-If : goal.visit_instr-returns-in_ok-visit_body-in-If
visit_instr-returns-in_ok-visit_body-in-If t c =
    let i = c.args.instr.now in
    let own = filter_map operand_point (operands_of i) in
    let first = spread_then c.args.search.now c.visit_operands.new.search c.visit_body-in-If.new.search own (body_points c.in-If.body) c.in_ok-visit_operands.ensures (rw c.as_slice-in-If.ensures at c.in_ok-visit_body-in-If.ensures) in
    then_ok c.visit_body-in-If-2.result c.args.search.now c.visit_body-in-If.new.search c.visit_body-in-If-2.new.search (own ++ body_points c.in-If.body) (body_points c.in-If.other) (named_points i)
    (of_If i c.in-If.field-0 c.in-If.body c.in-If.other c.in-If.is) first (rw c.as_slice-in-If-2.ensures at c.visit_body-in-If-2.ensures)

pub visit_instr-returns-in-Block : goal.visit_instr-returns-in-Block
visit_instr-returns-in-Block t c =
    let i = c.args.instr.now in
    then_ok c.visit_body.result c.args.search.now c.visit_operands.new.search c.visit_body.new.search (filter_map operand_point (operands_of i)) (body_points c.in-Block.body) (named_points i)
    (of_Block i c.in-Block.field-0 c.in-Block.body c.in-Block.is) c.in_ok-visit_operands.ensures (rw c.as_slice.ensures at c.visit_body.ensures)

pub visit_instr-returns-in-Loop : goal.visit_instr-returns-in-Loop
visit_instr-returns-in-Loop t c =
    let i = c.args.instr.now in
    then_ok c.visit_body-in-Loop.result c.args.search.now c.visit_operands.new.search c.visit_body-in-Loop.new.search (filter_map operand_point (operands_of i)) (body_points c.in-Loop.body) (named_points i)
    (of_Loop i c.in-Loop.field-0 c.in-Loop.body c.in-Loop.is) c.in_ok-visit_operands.ensures (rw c.as_slice-in-Loop.ensures at c.visit_body-in-Loop.ensures)
