use Rattle.base_lists.proofs.Common.{[], cons_option, filter_map}
use Rattle.wasm_tree_spec.specs.Prelude.{operands_of}
use Rattle.dce_graph.specs.Prelude.{operand_point}
use Rattle.dce_graph.proofs.Walking.{then_ok, listed_both}
use Rattle.dce_graph.proofs.code.visit_operands.Goals as goal

pub returns : goal.returns
returns c =
    let all = c.operands-operands.result in
    let os = operands_of c.args.instr.now in
    then_ok c.visit_operand-2.result c.args.search.now c.visit_operand.new.search c.visit_operand-2.new.search (filter_map operand_point (cons_option all.first [])) (filter_map operand_point (cons_option all.second [])) (filter_map operand_point os)
    (listed_both all os c.operands-operands.ensures) c.in_ok-visit_operand.ensures c.visit_operand-2.ensures
