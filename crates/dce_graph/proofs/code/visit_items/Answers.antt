use Rattle.base_lists.proofs.Common.{get_or, pos, get_or_default}
use Rattle.wasm_tree.specs.declared.module.ConstExpr.TheVariants.{I32}
use Rattle.dce_graph.specs.Prelude.{const_point}
use Rattle.dce_graph.proofs.Walking.{then, filter_more}
use Rattle.dce_graph.proofs.code.visit_items.Goals as goal

pub loop-item-preserved : goal.loop-item-preserved
loop-item-preserved c =
    let xs = c.args.items.now in
    let i = c.loop-item.item-index in
    let x = get_or xs i (I32 (pos 0)) in
    then _ _ _ _ _ _ (filter_more const_point xs i x c.loop-item-test.true (get_or_default xs i (I32 (pos 0)) x c.loop-item-test.true)) c.loop-item.invariant c.in_ok-visit_const.ensures
