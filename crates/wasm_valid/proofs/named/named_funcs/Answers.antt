use Rattle.std.proofs.Common.{ap, ◌∙◌}
use Rattle.base_kept.specs.Marks.{marked_all, named_from}
use Rattle.wasm_valid.specs.Named.{elem_refs, global_refs, export_refs, refs_of}
use Rattle.wasm_valid.proofs.Marked.{named_is}
use Rattle.wasm_valid.proofs.named.named_funcs.Goals as goal

pub returns : goal.returns
returns c =
    let m = c.args.module.now in
    named_is c.args.count c.in_ok-marks.marks.items c.mark_elems.new.marks.items c.mark_globals.new.marks.items c.mark_exports.new.marks.items (elem_refs m.elems) (global_refs m.globals) (export_refs m.exports)
    c.in_ok-marks.ensures
    (c.mark_elems.ensures ∙ ap (λ zs. marked_all c.in_ok-marks.marks.items (elem_refs zs)) c.as_slice.ensures)
    (c.mark_globals.ensures ∙ ap (λ zs. marked_all c.mark_elems.new.marks.items (global_refs zs)) c.as_slice-2.ensures)
    (c.mark_exports.ensures ∙ ap (λ zs. marked_all c.mark_globals.new.marks.items (export_refs zs)) c.as_slice-3.ensures)
    ∙ ap (λ n. named_from (refs_of m) 0 n) c.requires
