use Rattle.std.proofs.Common.{◌∙◌, ap, ◌-◌, drop, length}
use Rattle.base_kept.specs.Kept.{kept}
use Rattle.dce_spec.specs.Reached.{marks_of}
use Rattle.dce_sweep.proofs.Parts.{funcs_behind, globals_behind, tree_is}
use Rattle.dce_sweep.proofs.kept.kept_module.Goals as goal

pub returns : goal.returns
returns c =
    let k = marks_of c.args.marks.now in
    let m = c.args.from in
    tree_is k m c.in_ok-keep_marked.field-0 c.in_ok-keep_defined.field-0 c.in_ok-keep_defined-2.field-0 c.in_ok-keep_marked-2.field-0 c.keep_declared.new.elems
    (c.in_ok-keep_marked.ensures ∙ ap (λ bs. kept bs m.imports) c.as_slice.ensures)
    (c.in_ok-keep_defined.ensures ∙ ap (λ bs. kept (drop (length bs - length m.funcs) bs) m.funcs) c.as_slice-2.ensures ∙ ap (λ bs. kept bs m.funcs) (funcs_behind k m c.requires.funcs))
    (c.in_ok-keep_defined-2.ensures ∙ ap (λ bs. kept (drop (length bs - length m.globals) bs) m.globals) c.as_slice-3.ensures ∙ ap (λ bs. kept bs m.globals) (globals_behind k m c.requires.globals))
    (c.in_ok-keep_marked-2.ensures ∙ ap (λ bs. kept bs m.exports) c.as_slice-4.ensures)
    c.in_ok-keep_declared.ensures
