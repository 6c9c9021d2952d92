use Rattle.base_lists.proofs.Common.{◌∙◌, ap, refl, true, cond, Some, bytes_eq, get_by, nat_cmp, slice_cmp, btree_map_updates_str}
use Rattle.eval_snapshot.proofs.NamesFound.{found_more}
use Rattle.eval_snapshot.proofs.names.looked_up.Goals as goal

pub loop-name-preserved : goal.loop-name-preserved
loop-name-preserved c = λ q.
    found_more c.args.names.now (λ t. true) c.loop-name.name-index c.name-item.result q true _ _ c.loop-name-test.true c.name-item.is refl (c.loop-name.invariant q)
    (btree_map_updates_str c.as_str.result.now c.loop-name.all c.insert.new.self _ c.in_ok-insert.ensures.updates q ∙ ap (λ t. cond (bytes_eq t q) (Some true) (get_by (λ k. slice_cmp nat_cmp q k.now) c.loop-name.all)) c.as_str.ensures.text)
