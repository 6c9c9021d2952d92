use Rattle.base_lists.proofs.Common.{length, map, subst, sym, ap, arith, List, ◌∙◌, map_twice}
use Rattle.base_paths.specs.declared.follow.Step.{Step}
use Rattle.base_paths.specs.Steps.{AreNamed, AreEndings}
use Rattle.wasm_meaning.specs.Linking as linking
use Rattle.merge_spec.specs.Prelude.{named_modules}
use Rattle.merge_link.specs.declared.part_tables.Ending.{Ending}
use Rattle.merge_link.specs.Prelude.{the_site, AreSteps, the_end}
use Rattle.merge_link.specs.PartTables.{end_at}
use Rattle.merge_link.proofs.Steps.{steps_named, endings_told, ending_stops}
use Rattle.merge_link.proofs.part_tables.PartTables.ends.Goals as goal

pub endings-requires-clause-there : goal.endings-requires-clause-there
endings-requires-clause-there c =
    let lp = named_modules c.args.self.now.parts.now in
    let steps : AreSteps (linking.import_step lp) (linking.sites lp) the_end (linking.sites lp) c.in_ok-steps.steps.items =
    subst (λ (xs : List linking.Site). AreSteps (linking.import_step lp) (linking.sites lp) the_end xs c.in_ok-steps.steps.items) c.requires.sites c.in_ok-steps.ensures in
    subst AreNamed (sym c.deref.ensures.value) (steps_named (linking.import_step lp) (linking.sites lp) the_end c.in_ok-steps.steps.items steps)

pub endings-requires-clause-few : goal.endings-requires-clause-few
endings-requires-clause-few c = omega (arith, ap length c.deref.ensures.value, c.in_ok-steps.ensures.one_each, ap length c.requires.sites, c.requires.joining.imports)

pub returns-clause-ends : goal.returns-clause-ends
unfolding end_at
returns-clause-ends c =
    let lp = named_modules c.args.self.now.parts.now in
    let steps : AreSteps (linking.import_step lp) (linking.sites lp) the_end (linking.sites lp) c.in_ok-steps.steps.items =
    subst (λ (xs : List linking.Site). AreSteps (linking.import_step lp) (linking.sites lp) the_end xs c.in_ok-steps.steps.items) c.requires.sites c.in_ok-steps.ensures in
    let endings : AreEndings c.in_ok-steps.steps.items c.in_ok-ends.ends.items = subst (λ (xs : List (Step Ending)). AreEndings xs c.in_ok-ends.ends.items) c.deref.ensures.value c.in_ok-ends.ensures in
    endings_told (linking.import_step lp) (linking.sites lp) the_end c.in_ok-steps.steps.items c.in_ok-ends.ends.items steps endings (linking.end_of lp) (c.ends_and_reads_are_paths.ensures.ends lp)
    ∙ ap (map (linking.end_of lp)) (sym c.requires.sites) ∙ map_twice (linking.end_of lp) the_site c.args.sites.now

pub returns-clause-stops : goal.returns-clause-stops
returns-clause-stops c =
    let lp = named_modules c.args.self.now.parts.now in
    let steps : AreSteps (linking.import_step lp) (linking.sites lp) the_end (linking.sites lp) c.in_ok-steps.steps.items =
    subst (λ (xs : List linking.Site). AreSteps (linking.import_step lp) (linking.sites lp) the_end xs c.in_ok-steps.steps.items) c.requires.sites c.in_ok-steps.ensures in
    let endings : AreEndings c.in_ok-steps.steps.items c.in_ok-ends.ends.items = subst (λ (xs : List (Step Ending)). AreEndings xs c.in_ok-ends.ends.items) c.deref.ensures.value c.in_ok-ends.ensures in
    ending_stops (linking.import_step lp) (linking.sites lp) the_end c.in_ok-steps.steps.items c.in_ok-ends.ends.items steps endings
