use Rattle.base_lists.proofs.Common.{◌≡◌, ◌∙◌, ◌∷◌, ◌-◌, suc, ap, sym, drop, get_or, cond, Some, arith, bytes_eq, btree_map_updates_str, get_or_default}
use Rattle.base_lists.proofs.Walk.{left_back}
use Rattle.base_lists.specs.Places.{first_place}
use Rattle.dce_graph.proofs.NamePlaces.{same_back}
use Rattle.dce_graph.proofs.lookups.export_places.Goals as goal

pub loop-place-preserved : goal.loop-place-preserved
loop-place-preserved c = λ q.
    let xs = c.args.exports.now in
    let i = c.loop-place.place in
    let x = get_or xs (i - 1) c.index-exports-place.result in
    let rest = first_place (λ e. bytes_eq q e.name) (drop i xs) i in
    let back : drop (i - 1) xs ≡ x ∷ drop i xs = left_back xs i x (omega arith) (omega arith) (get_or_default xs (i - 1) c.index-exports-place.result x (omega arith)) in
    btree_map_updates_str c.as_str.result.now c.loop-place.places c.insert.new.self _ c.in_ok-insert.ensures.updates q
    ∙ ap (cond (bytes_eq c.as_str.result.now q) (Some (i - 1))) (c.loop-place.invariant q)
    ∙ ap (λ b. cond b (Some (i - 1)) rest) (ap (λ t. bytes_eq t q) c.as_str.ensures.text ∙ same_back x.name q)
    ∙ sym (ap (λ ys. first_place (λ e. bytes_eq q e.name) ys (i - 1)) back ∙ ap (λ n. cond (bytes_eq q x.name) (Some (i - 1)) (first_place (λ e. bytes_eq q e.name) (drop i xs) n)) (let e : suc (i - 1) ≡ i = omega arith in e))
