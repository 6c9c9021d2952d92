use Rattle.dce_graph.specs.Reach.{data_points}
use Rattle.dce_graph.proofs.Walking.{then, flat_more}
use Rattle.dce_graph.proofs.code.visit_datas.Goals as goal

pub loop-segment-preserved : goal.loop-segment-preserved
loop-segment-preserved c =
    let i = c.loop-segment.segment-index in
    let xs = c.args.segments.now in
    let x = c.segment-item.result in
    then _ _ _ _ _ _ (flat_more (λ s. data_points s.mode) xs i x c.loop-segment-test.true c.segment-item.is) c.loop-segment.invariant c.in_ok-visit_data.ensures
