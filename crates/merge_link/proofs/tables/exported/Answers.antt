use Rattle.base_lists.proofs.Common.{◌≡◌, ◌∷◌, ◌-◌, refl, drop, arith, btree_map_updates_str}
use Rattle.base_lists.proofs.Walk.{left_back}
use Rattle.merge_link.proofs.Places.{exported_step}
use Rattle.merge_link.proofs.tables.exported.Goals as goal

pub loop-at-preserved : goal.loop-at-preserved
loop-at-preserved c = λ name.
    let back : drop (c.loop-at.at - 1) c.args.exports.now ≡ c.index-exports-at.result ∷ drop c.loop-at.at c.args.exports.now = left_back c.args.exports.now c.loop-at.at c.index-exports-at.result (omega arith) (omega arith) c.index-exports-at.is in
    let now = btree_map_updates_str c.as_str.result.now c.loop-at.map c.insert.new.self _ c.in_ok-insert.ensures.updates name in
    let before = c.loop-at.invariant name in
    let text = c.as_str.ensures.text in
    let step = exported_step c.index-exports-at.result (drop c.loop-at.at c.args.exports.now) name in
    rw (now, text, before, back, step) refl
