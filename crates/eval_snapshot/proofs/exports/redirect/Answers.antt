use Rattle.base_lists.proofs.Common.{◌∙◌, ap, sym, get_by, nat_cmp, slice_cmp}
use Rattle.eval_snapshot_spec.specs.Snapshot.{is_among_names}
use Rattle.eval_snapshot.proofs.ExportsLeft.{none_redirected, none_stays, some_redirected, some_stays}
use Rattle.eval_snapshot.proofs.exports.redirect.Goals as goal

pub returns-in-None-clause-redirected : goal.returns-in-None-clause-redirected
returns-in-None-clause-redirected c = λ evaluated kept h.
    let e = c.args.export.now in
    none_redirected (is_among_names evaluated e.name) (is_among_names kept e.name) e c.args.empty
    (sym c.in-None.is ∙ (c.found.ensures ∙ (ap (λ n. get_by (λ k. slice_cmp nat_cmp n k.now) c.args.names.now) c.as_str.ensures.text ∙ h e.name)))

pub returns-in-None-clause-stays : goal.returns-in-None-clause-stays
returns-in-None-clause-stays c = λ evaluated kept h.
    let e = c.args.export.now in
    none_stays (is_among_names evaluated e.name) (is_among_names kept e.name) e c.args.empty
    (sym c.in-None.is ∙ (c.found.ensures ∙ (ap (λ n. get_by (λ k. slice_cmp nat_cmp n k.now) c.args.names.now) c.as_str.ensures.text ∙ h e.name)))

pub returns-in-Some-clause-redirected : goal.returns-in-Some-clause-redirected
returns-in-Some-clause-redirected c = λ evaluated kept h.
    let e = c.args.export.now in
    some_redirected (is_among_names evaluated e.name) (is_among_names kept e.name) e c.args.empty c.in-Some.kept
    (sym c.in-Some.is ∙ (c.found.ensures ∙ (ap (λ n. get_by (λ k. slice_cmp nat_cmp n k.now) c.args.names.now) c.as_str.ensures.text ∙ h e.name)))

pub returns-in-Some-clause-stays : goal.returns-in-Some-clause-stays
returns-in-Some-clause-stays c = λ evaluated kept h.
    let e = c.args.export.now in
    some_stays (is_among_names evaluated e.name) (is_among_names kept e.name) e c.args.empty c.in-Some.kept
    (sym c.in-Some.is ∙ (c.found.ensures ∙ (ap (λ n. get_by (λ k. slice_cmp nat_cmp n k.now) c.args.names.now) c.as_str.ensures.text ∙ h e.name)))
