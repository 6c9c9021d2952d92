use Rattle.base_lists.proofs.Common.{◌≡◌, ◌∙◌, ap, cond, Some, is_some, bytes_eq, get_by, nat_cmp, slice_cmp, btree_map_updates_str}
use Rattle.eval_snapshot_spec.specs.Snapshot.{is_among_names}
use Rattle.eval_snapshot.proofs.ExportsLeft.{some_of}
use Rattle.eval_snapshot.proofs.NamesFound.{found_more}
use Rattle.eval_snapshot.proofs.names.evaluated_names.Goals as goal

pub loop-name-preserved : goal.loop-name-preserved
loop-name-preserved c = λ q.
    let x = c.name-item.result in
    let among : c.is_some-stays.result ≡ is_among_names c.args.kept.now x =
    c.is_some-stays.ensures ∙ (ap is_some (c.found.ensures ∙ (ap (λ n. get_by (λ k. slice_cmp nat_cmp n k.now) c.in_ok-kept.kept) c.as_str.ensures.text ∙ c.in_ok-kept.ensures x)) ∙ some_of (is_among_names c.args.kept.now x)) in
    found_more c.args.evaluated.now (is_among_names c.args.kept.now) c.loop-name.name-index x q c.is_some-stays.result _ _ c.loop-name-test.true c.name-item.is among (c.loop-name.invariant q)
    (btree_map_updates_str c.as_str-in-loop-name.result.now c.loop-name.all c.insert.new.self _ c.in_ok-insert.ensures.updates q
    ∙ ap (λ t. cond (bytes_eq t q) (Some c.is_some-stays.result) (get_by (λ k. slice_cmp nat_cmp q k.now) c.loop-name.all)) c.as_str-in-loop-name.ensures.text)
