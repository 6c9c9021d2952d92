use Rattle.std.proofs.Common.{◌≡◌, ◌∙◌, ap₂, sym, subst, length, ◌≤◌, filter_map}
use Rattle.base_kept.specs.Kept.{kept as keeping}
use Rattle.eval_snapshot_spec.specs.Snapshot.{export_left}
use Rattle.eval_snapshot.proofs.ExportsLeft.{exports_left_are, if_ok}
use Rattle.eval_snapshot.proofs.exports.exports_left.Goals as goal

pub keep_marked-requires : goal.keep_marked-requires
keep_marked-requires c = subst (λ ms. length c.redirect_all.new.exports ≤ length ms) (sym c.as_slice.ensures) c.in_ok-marks.ensures.many

pub returns : goal.returns
returns c = λ evaluated kept h.
    let xs = c.args.exports in
    if_ok c.keep_marked.result (λ all. all ≡ keeping c.as_slice.result.now c.redirect_all.new.exports) (λ left. left ≡ filter_map (export_left evaluated kept c.args.empty) xs)
    (λ left e. e ∙ (ap₂ keeping (c.as_slice.ensures ∙ c.in_ok-marks.ensures.stay evaluated kept h) (c.in_ok-marks.ensures.redirected evaluated kept h) ∙ exports_left_are evaluated kept c.args.empty xs)) c.keep_marked.ensures
