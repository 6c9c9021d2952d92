use Rattle.base_lists.proofs.Common.{length, map, subst, sym, ap, arith, List, ◌≡◌, ◌∙◌, length-map, map_twice}
use Rattle.base_paths.specs.declared.follow.Step.{Step}
use Rattle.base_paths.specs.Steps.{AreNamed, AreEndings}
use Rattle.wasm_meaning.specs.Linking as linking
use Rattle.merge_spec.specs.declared.links.Read.{Read}
use Rattle.merge_spec.specs.Prelude.{named_modules}
use Rattle.merge_link.specs.declared.globals.DefinedGlobal.{DefinedGlobal}
use Rattle.merge_link.specs.Prelude.{own_read, own_reads, the_own, the_read, AreSteps}
use Rattle.merge_link.specs.Globals.{value_at}
use Rattle.merge_link.proofs.Steps.{steps_named, endings_told}
use Rattle.merge_link.proofs.part_tables.PartTables.values.Goals as goal

pub endings-requires-clause-there : goal.endings-requires-clause-there
endings-requires-clause-there c =
    let lp = named_modules c.args.self.now.parts.now in
    let froms : map (λ (g : DefinedGlobal). own_read (the_own g)) c.args.globals.now ≡ own_reads lp = sym (map_twice own_read the_own c.args.globals.now) ∙ ap (map own_read) c.requires.globals in
    let steps : AreSteps (linking.read_step lp) (own_reads lp) the_read (own_reads lp) c.in_ok-steps.steps.items =
    subst (λ (xs : List linking.Read). AreSteps (linking.read_step lp) (own_reads lp) the_read xs c.in_ok-steps.steps.items) froms c.in_ok-steps.ensures in
    subst AreNamed (sym c.deref.ensures.value) (steps_named (linking.read_step lp) (own_reads lp) the_read c.in_ok-steps.steps.items steps)

pub endings-requires-clause-few : goal.endings-requires-clause-few
endings-requires-clause-few c =
    let lp = named_modules c.args.self.now.parts.now in
    omega (arith, ap length c.deref.ensures.value, c.in_ok-steps.ensures.one_each, length-map c.args.globals.now (λ (g : DefinedGlobal). own_read (the_own g)), ap length c.requires.globals, length-map c.args.globals.now the_own, c.requires.joining.globals)

pub returns : goal.returns
unfolding value_at
returns c =
    let lp = named_modules c.args.self.now.parts.now in
    let froms : map (λ (g : DefinedGlobal). own_read (the_own g)) c.args.globals.now ≡ own_reads lp = sym (map_twice own_read the_own c.args.globals.now) ∙ ap (map own_read) c.requires.globals in
    let steps : AreSteps (linking.read_step lp) (own_reads lp) the_read (own_reads lp) c.in_ok-steps.steps.items =
    subst (λ (xs : List linking.Read). AreSteps (linking.read_step lp) (own_reads lp) the_read xs c.in_ok-steps.steps.items) froms c.in_ok-steps.ensures in
    let endings : AreEndings c.in_ok-steps.steps.items c.in_ok-values.values.items = subst (λ (xs : List (Step Read)). AreEndings xs c.in_ok-values.values.items) c.deref.ensures.value c.in_ok-values.ensures in
    let tell = λ (r : linking.Read). linking.read_of lp r.part r.expr in
    endings_told (linking.read_step lp) (own_reads lp) the_read c.in_ok-steps.steps.items c.in_ok-values.values.items steps endings tell (λ a e. c.ends_and_reads_are_paths.ensures.reads lp a.part a.expr e)
    ∙ ap (map tell) (sym froms) ∙ map_twice tell (λ (g : DefinedGlobal). own_read (the_own g)) c.args.globals.now
