use Rattle.base_lists.proofs.Common.{◌≡◌, ◌∙◌, ◌+◌, ◌++◌, ◌∷◌, [], ap, sym, subst, take, get_or, length, cond, Some, arith, get_or_default, length-take-le}
use Rattle.dce_graph.specs.Prelude.{pair_is, AreNodeChains, found_pair}
use Rattle.dce_graph.proofs.Steps.{done_more}
use Rattle.dce_graph.proofs.NodeChainLaws.{standing_more, one_longer}
use Rattle.dce_graph.proofs.lookups.node_chains.Goals as goal

pub loop-place-preserved : goal.loop-place-preserved
loop-place-preserved c =
    let nodes = c.args.nodes.now in
    let i = c.loop-place.place in
    let x = get_or nodes i c.index-nodes-place.result in
    let long : length (take i nodes) ≡ i = length-take-le i nodes (omega arith) in
    let more : take (i + 1) nodes ≡ take i nodes ++ x ∷ [] = done_more nodes i x c.loop-place-test.true (get_or_default nodes i c.index-nodes-place.result x c.loop-place-test.true) in
    let old = c.loop-place.last in
    let new = c.note.new.last in
    let before = c.loop-place.before.items in
    let are = standing_more (take i nodes) x old new before c.in_ok-one.one c.loop-place.invariant.are (c.loop-place.invariant.one_each ∙ sym long)
    (λ a b. c.in_ok-one.ensures.noted a b ∙ ap (λ n. cond (pair_is a b x.import) (Some n) (found_pair old a b)) (sym long)) c.in_ok-one.ensures.before in
    record {
      one_each = ap length c.in_ok-push.ensures.items ∙ one_longer before c.in_ok-one.one i c.loop-place.invariant.one_each;
      are = subst (λ xs. AreNodeChains xs new c.push.new.self.items) (sym more) (subst (AreNodeChains (take i nodes ++ x ∷ []) new) (sym c.in_ok-push.ensures.items) are);
    }
