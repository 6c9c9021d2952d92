use Rattle.std.proofs.Common.{◌++◌, ap, ap₂, ◌∙◌}
use Rattle.split_slots.specs.EntityDescriptions.{defined_in, imported_in}
use Rattle.split_slots.proofs.DescribedEntities.{all_described}
use Rattle.split_slots.proofs.entities.entities.Goals as goal

pub returns : goal.returns
returns c =
    let m = c.args.module.now in
    let space = c.args.space in
    c.in_ok-add_defined.ensures
    ∙ ap (λ xs. xs ++ defined_in m space) (c.in_ok-add_imported.ensures ∙ ap₂ (λ xs is. xs ++ imported_in space is) c.new-all.ensures c.as_slice.ensures)
    ∙ all_described m space
