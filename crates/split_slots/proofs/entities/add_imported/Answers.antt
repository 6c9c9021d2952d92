use Rattle.base_lists.proofs.Common.{[], ◌++◌, append_assoc, ap, sym, ◌∙◌, cons_option}
use Rattle.split_slots.specs.EntityDescriptions.{desc_in}
use Rattle.split_slots.proofs.DescribedEntities.{described_more}
use Rattle.split_slots.proofs.entities.add_imported.Goals as goal

pub loop-import-preserved : goal.loop-import-preserved
loop-import-preserved c =
    let one = cons_option (desc_in c.args.space c.import-item.result.desc) [] in
    c.in_ok-add_import.ensures ∙ ap (λ xs. xs ++ one) c.loop-import.invariant ∙ append_assoc c.args.all.now _ one
    ∙ ap (λ xs. c.args.all.now ++ xs) (sym (described_more c.args.space c.args.imports.now c.loop-import.import-index c.import-item.result c.loop-import-test.true c.import-item.is))
