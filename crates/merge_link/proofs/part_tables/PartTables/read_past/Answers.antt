use Rattle.base_lists.proofs.Common.{◌∙◌, ap, sym, None, get_or, slice_get-get_or}
use Rattle.merge_spec.specs.Prelude.{named_modules}
use Rattle.merge_link.specs.declared.part_tables.Ending.{Ending}
use Rattle.merge_link.specs.Prelude.{the_end, the_entity}
use Rattle.merge_link.specs.Reads.{read_past}
use Rattle.merge_link.proofs.Through.{number_within, value_numbered}
use Rattle.merge_link.proofs.part_tables.PartTables.read_past.Goals as goal

pub returns-in-Some : goal.returns-in-Some
returns-in-Some c =
    let ps = c.args.self.now.parts.now in
    let values = c.args.values.now in
    let n = c.in-Some.number in
    let e = the_entity c.in-Defined.entity in
    let read = slice_get-get_or values n None (number_within ps values e n c.requires.values c.in-Some.ensures) in
    value_numbered ps values e n (get_or values n None) c.requires.values c.in-Some.ensures read ∙ ap (λ (x : Ending). read_past (named_modules ps) (the_end x)) (sym c.in-Defined.is)
