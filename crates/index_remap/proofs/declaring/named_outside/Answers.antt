use Rattle.std.proofs.Common.{ap, sym, ◌∙◌}
use Rattle.base_kept.specs.Marks.{marked_all, named_from}
use Rattle.base_kept.proofs.Marks.{all_marks}
use Rattle.wasm_valid.specs.Named.{refs_of}
use Rattle.index_remap.specs.References.{offset_refs}
use Rattle.index_remap.proofs.declaring.named_outside.Goals as goal

pub returns : goal.returns
returns c =
    let m = c.args.module.now in
    c.mark_offsets.ensures ∙ ap (λ zs. marked_all c.in_ok-marks.marks.items (offset_refs zs)) c.as_slice.ensures
    ∙ ap (λ z. marked_all z (offset_refs m.elems)) (c.in_ok-marks.ensures ∙ ap (λ n. named_from (refs_of m) 0 n) (sym c.requires))
    ∙ all_marks (refs_of m) (offset_refs m.elems) c.args.count
