use Rattle.base_lists.proofs.Common.{arith, refl, btree_map_updates_str}
use Rattle.tools_cli_eval.proofs.Looked.{export_before}
use Rattle.tools_cli_eval.proofs.named.exports_named.Goals as goal

pub loop-at-preserved : goal.loop-at-preserved
loop-at-preserved c = λ name.
    let e = c.index-exports-at.result in
    let now = btree_map_updates_str c.as_str.result.now c.loop-at.table c.insert.new.self _ c.in_ok-insert.ensures.updates name in
    let step = export_before c.args.exports.now c.loop-at.at e name (omega arith) (omega arith) c.index-exports-at.is in
    rw (now, c.as_str.ensures.text, c.loop-at.invariant name, step) refl
