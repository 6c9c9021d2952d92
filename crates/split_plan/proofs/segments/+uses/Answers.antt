use Rattle.std.proofs.Common.{sym, ap, ◌∙◌, ◌||◌}
use Rattle.split_plan.specs.SegmentReferences.{uses_segment, uses_segment_in}
use Rattle.split_plan.proofs.Walks.{block_uses, loop_uses, if_uses}
use Rattle.split_plan.proofs.segments.+uses.Goals as goal

pub uses_in-returns-in-Block : goal.uses_in-returns-in-Block
uses_in-returns-in-Block t c =
    c.uses_segments.ensures ∙ ap uses_segment c.as_slice.ensures
    ∙ sym (ap uses_segment_in c.in-Block.is ∙ block_uses c.operands_pass_layer_by_layer.ensures.any c.in-Block.field-0 c.in-Block.body)

pub uses_in-returns-in-Loop : goal.uses_in-returns-in-Loop
uses_in-returns-in-Loop t c =
    c.uses_segments-in-Loop.ensures ∙ ap uses_segment c.as_slice-in-Loop.ensures
    ∙ sym (ap uses_segment_in c.in-Loop.is ∙ loop_uses c.operands_pass_layer_by_layer-in-Loop.ensures.any c.in-Loop.field-0 c.in-Loop.body)

pub uses_in-returns-then-uses_segments : goal.uses_in-returns-then-uses_segments
uses_in-returns-then-uses_segments t c =
    let one = sym c.if-uses_segments.true ∙ c.uses_segments-in-If.ensures ∙ ap uses_segment c.as_slice-in-If.ensures in
    c.if-uses_segments.true ∙ sym (ap uses_segment_in c.in-If.is ∙ if_uses c.operands_pass_layer_by_layer-in-If.ensures.any c.in-If.field-0 c.in-If.body c.in-If.other ∙ ap (λ b. b || uses_segment c.in-If.other) (sym one))

pub uses_in-returns-else-uses_segments : goal.uses_in-returns-else-uses_segments
uses_in-returns-else-uses_segments t c =
    let one = sym c.if-uses_segments.false ∙ c.uses_segments-in-If.ensures ∙ ap uses_segment c.as_slice-in-If.ensures in
    let two = c.uses_segments-else-uses_segments.ensures ∙ ap uses_segment c.as_slice-else-uses_segments.ensures in
    two ∙ sym (ap uses_segment_in c.in-If.is ∙ if_uses c.operands_pass_layer_by_layer-in-If.ensures.any c.in-If.field-0 c.in-If.body c.in-If.other ∙ ap (λ b. b || uses_segment c.in-If.other) (sym one))
