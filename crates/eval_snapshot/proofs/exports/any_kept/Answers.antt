use Rattle.std.proofs.Common.{◌∙◌, ap, sym}
use Rattle.eval_snapshot_spec.specs.Snapshot.{is_kept}
use Rattle.eval_snapshot.proofs.ExportsLeft.{any_here, any_behind}
use Rattle.eval_snapshot.proofs.exports.any_kept.Goals as goal

pub returns-then-keeps_export : goal.returns-then-keeps_export
returns-then-keeps_export c = λ evaluated kept h.
    any_here (λ e. is_kept evaluated kept e.name) c.args.exports.now c.loop-export.export-index c.export-item.result c.loop-export-test.true c.export-item.is (c.loop-export.invariant evaluated kept h)
    (ap (is_kept evaluated kept) (sym c.as_str.ensures.text) ∙ (sym (c.keeps_export.ensures evaluated kept h) ∙ c.if-keeps_export.true))

pub loop-export-preserved : goal.loop-export-preserved
loop-export-preserved c = λ evaluated kept h.
    any_behind (λ e. is_kept evaluated kept e.name) c.args.exports.now c.loop-export.export-index c.export-item.result c.loop-export-test.true c.export-item.is (c.loop-export.invariant evaluated kept h)
    (ap (is_kept evaluated kept) (sym c.as_str.ensures.text) ∙ (sym (c.keeps_export.ensures evaluated kept h) ∙ c.if-keeps_export.false))
