use Rattle.std.proofs.Common.{get_or, pos, sym, ◌∙◌}
use Rattle.wasm_tree.specs.declared.module.ConstExpr.TheVariants as const
use Rattle.wasm_write.proofs.Loops.{all_lost, funcs_more, get_or_any}
use Rattle.wasm_write.proofs.segments.all_funcs.Goals as goal

pub returns-then-not-is_func : goal.returns-then-not-is_func
returns-then-not-is_func c =
    sym (all_lost c.args.items.now c.loop-item.item-index (get_or c.args.items.now c.loop-item.item-index (const.I32 (pos 0))) c.loop-item-test.true (get_or_any c.args.items.now c.loop-item.item-index _ _ c.loop-item-test.true) (sym c.is_func.ensures ∙ c.if-not-is_func.true))

pub loop-item-preserved : goal.loop-item-preserved
loop-item-preserved c =
    funcs_more c.args.items.now c.loop-item.item-index (get_or c.args.items.now c.loop-item.item-index (const.I32 (pos 0))) c.loop-item-test.true (get_or_any c.args.items.now c.loop-item.item-index _ _ c.loop-item-test.true) c.loop-item.invariant (sym c.is_func.ensures ∙ c.if-not-is_func.false)
