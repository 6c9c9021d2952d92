use Rattle.std.proofs.Common.{◌∙◌, sym}
use Rattle.wasm_tree.specs.declared.module.ExportDesc.TheVariants as ex
use Rattle.eval_snapshot_spec.specs.Snapshot.{is_among_names}
use Rattle.eval_snapshot.proofs.ExportsLeft.{some_kept, none_kept}
use Rattle.eval_snapshot.proofs.exports.keeps_export.Goals as goal

pub returns-in-Some : goal.returns-in-Some
returns-in-Some c = λ evaluated kept h.
    let n = c.args.name.now in
    some_kept (is_among_names evaluated n) (is_among_names kept n) (record { name = n; desc = ex.Func 0 }) 0 c.in-Some.kept (sym c.in-Some.is ∙ (c.found.ensures ∙ h n))

pub returns-in-None : goal.returns-in-None
returns-in-None c = λ evaluated kept h.
    let n = c.args.name.now in
    none_kept (is_among_names evaluated n) (is_among_names kept n) (record { name = n; desc = ex.Func 0 }) 0 (sym c.in-None.is ∙ (c.found.ensures ∙ h n))
