use Rattle.std.proofs.Common.{sym, subst}
use Rattle.base_paths.specs.declared.follow.Step.TheVariants.{Leads}
use Rattle.merge_link.specs.declared.part_tables.Ending.{Ending}
use Rattle.merge_link.specs.Globals.{IsEndStep}
use Rattle.merge_link.specs.PartTables.{the_end, the_entity}
use Rattle.merge_link.proofs.Reading.{step_to}
use Rattle.merge_link.proofs.part_tables.PartTables.end_step.Goals as goal

pub returns-in-Some : goal.returns-in-Some
returns-in-Some c =
    let ps = c.args.self.now.parts.now in
    subst (λ (e : Ending). IsEndStep ps (the_end e) (Leads c.in-Some.number)) (sym c.in-Defined.is) (step_to ps (the_entity c.in-Defined.entity) c.in-Some.number c.in-Some.ensures)
