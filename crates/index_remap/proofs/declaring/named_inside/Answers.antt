use Rattle.std.proofs.Common.{ap, ◌∙◌}
use Rattle.base_kept.specs.Marks.{marked_all}
use Rattle.base_kept.proofs.Marks.{marks_of}
use Rattle.index_remap.specs.References.{refs_all, body_refs}
use Rattle.index_remap.proofs.Marks.{func_step}
use Rattle.index_remap.proofs.declaring.named_inside.Goals as goal

pub loop-func-init : goal.loop-func-init
loop-func-init c = ap (λ z. marked_all z (body_refs c.args.funcs.now)) c.in_ok-marks.ensures ∙ marks_of c.args.count (body_refs c.args.funcs.now)

pub loop-func-preserved : goal.loop-func-preserved
loop-func-preserved c =
    func_step c.args.funcs.now c.loop-func.func-index c.func-item.result c.loop-func.marks.items c.mark_body.new.marks.items c.loop-func-test.true c.func-item.is (c.mark_body.ensures ∙ ap (λ zs. marked_all c.loop-func.marks.items (refs_all zs)) c.as_slice.ensures) ∙ c.loop-func.invariant
