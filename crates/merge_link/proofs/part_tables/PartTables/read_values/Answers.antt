use Rattle.base_lists.proofs.Common.{◌∙◌, inr, sym, ap, subst, map}
use Rattle.merge_spec.specs.Faults as faults
use Rattle.merge_spec.specs.Prelude.{named_modules}
use Rattle.merge_link.specs.declared.globals.DefinedGlobal.{DefinedGlobal}
use Rattle.merge_link.specs.Prelude.{the_own, value_at, AreGlobalReads}
use Rattle.merge_link.specs.Resolving.{read_entry_at}
use Rattle.merge_link.proofs.Whole.{global_faults_are, values_own}
use Rattle.merge_link.proofs.part_tables.PartTables.read_values.Goals as goal

pub returns-in-Some : goal.returns-in-Some
returns-in-Some c =
    let ps = c.args.self.now.parts.now in
    inr (sym (global_faults_are ps c.in_ok-globals.globals.items c.in_ok-globals.ensures)
    ∙ ap (faults.first_fault (λ (g : DefinedGlobal). faults.global_fault (named_modules ps) (the_own g))) (sym c.deref-2.ensures.value) ∙ sym c.first_global_fault.ensures ∙ c.in-Some.is)

pub reads-requires-clause-values : goal.reads-requires-clause-values
reads-requires-clause-values c =
    let ps = c.args.self.now.parts.now in
    subst (AreGlobalReads ps) (sym c.deref-in-None.ensures.value)
    (values_own ps c.in_ok-globals.globals.items c.in_ok-values.values.items c.in_ok-globals.ensures (c.in_ok-values.ensures ∙ ap (map (value_at ps)) c.deref.ensures.value))

pub returns : goal.returns
unfolding read_entry_at
returns c =
    let ps = c.args.self.now.parts.now in (
      c.in_ok-reads-in-None.ensures,
      sym (global_faults_are ps c.in_ok-globals.globals.items c.in_ok-globals.ensures)
          ∙ ap (faults.first_fault (λ (g : DefinedGlobal). faults.global_fault (named_modules ps) (the_own g))) (sym c.deref-2.ensures.value) ∙ sym c.first_global_fault.ensures ∙ c.in-None.is,
    )
