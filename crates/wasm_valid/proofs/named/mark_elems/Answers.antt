use Rattle.base_lists.proofs.Common.{ap, ◌∙◌, filter_map}
use Rattle.base_kept.specs.Marks.{marked_all}
use Rattle.base_kept.proofs.Marks.{segment_step}
use Rattle.wasm_valid.specs.Prelude.{const_func}
use Rattle.wasm_valid.proofs.named.mark_elems.Goals as goal

pub loop-segment-preserved : goal.loop-segment-preserved
loop-segment-preserved c =
    segment_step (λ s. filter_map const_func s.items) c.args.elems.now c.loop-segment.segment-index c.segment-item.result c.loop-segment.marks.items c.mark_items.new.marks.items c.loop-segment-test.true c.segment-item.is
    (c.mark_items.ensures ∙ ap (λ zs. marked_all c.loop-segment.marks.items (filter_map const_func zs)) c.as_slice.ensures) ∙ c.loop-segment.invariant
