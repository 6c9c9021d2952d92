use Rattle.base_lists.proofs.Common.{◌≡◌, ◌∙◌, ap, sym, refl, suc, ◌∷◌, ◌-◌, drop, arith, btree_map_updates_str}
use Rattle.base_lists.proofs.Walk.{left_back}
use Rattle.merge_spec.specs.declared.parts.Part.{Part}
use Rattle.merge_link.proofs.Places.{named_step}
use Rattle.merge_link.proofs.tables.all_names.Goals as goal

pub loop-at-preserved : goal.loop-at-preserved
loop-at-preserved c = λ name.
    let back : drop (c.loop-at.at - 1) c.args.parts.now ≡ c.index-parts-at.result ∷ drop c.loop-at.at c.args.parts.now = left_back c.args.parts.now c.loop-at.at c.index-parts-at.result (omega arith) (omega arith) c.index-parts-at.is in
    let now = btree_map_updates_str c.as_str.result.now c.loop-at.map c.insert.new.self _ c.in_ok-insert.ensures.updates name in
    let before = c.loop-at.invariant name in
    let text = c.as_str.ensures.text ∙ ap (λ (x : Part). x.name) (sym c.index-parts-at.is) in
    let step = named_step c.index-parts-at.result (drop c.loop-at.at c.args.parts.now) (c.loop-at.at - 1) name in
    let next : suc (c.loop-at.at - 1) ≡ c.loop-at.at = omega arith in
    rw (now, text, before, back, step, next) refl
