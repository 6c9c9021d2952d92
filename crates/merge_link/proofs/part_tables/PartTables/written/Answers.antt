use Rattle.base_lists.proofs.Common.{◌∙◌, ap, map, Some}
use Rattle.merge_spec.specs.Prelude.{end_entry}
use Rattle.merge_link.specs.declared.part_tables.Ending.{Ending}
use Rattle.merge_link.specs.Prelude.{cut_by, import_counts, the_end}
use Rattle.merge_link.proofs.Whole.{entries_linked, limits_kept, reads_written}
use Rattle.merge_link.proofs.part_tables.PartTables.written.Goals as goal

pub returns : goal.returns
returns c =
    let ps = c.args.self.now.parts.now in
    let counts = import_counts ps in
    record {
      ends = ap (map (map Some)) (c.in_ok-cut.ensures ∙ ap (cut_by counts) (c.deref-2.ensures.value ∙ c.in_ok-entries.ensures ∙ ap (map (λ (e : Ending). end_entry (the_end e))) c.deref.ensures.value))
          ∙ entries_linked ps c.args.sites.now c.args.kept.now.linked.items c.requires.sites c.requires.kept.ends;
      limits = c.in_ok-cut-2.ensures ∙ ap (cut_by counts) c.deref-3.ensures.value ∙ limits_kept ps c.args.sites.now c.args.kept.now.limits.items c.requires.sites c.requires.kept.limits;
      reads = c.in_ok-cut-3.ensures ∙ reads_written ps c.args.sites.now c.args.reads.now c.requires.sites c.requires.reads;
    }
