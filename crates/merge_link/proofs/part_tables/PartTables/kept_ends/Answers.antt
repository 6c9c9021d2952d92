use Rattle.std.proofs.Common.{◌∙◌, inr, sym}
use Rattle.merge_link.specs.Resolving.{kept_entry_at}
use Rattle.merge_link.proofs.Whole.{clash_faults_are}
use Rattle.merge_link.proofs.part_tables.PartTables.kept_ends.Goals as goal

pub returns-in-Some : goal.returns-in-Some
returns-in-Some c = inr (sym (clash_faults_are c.args.self.now.parts.now c.args.sites.now c.requires.sites) ∙ sym c.first_clash.ensures ∙ c.in-Some.is)

pub returns-in-None : goal.returns-in-None
unfolding kept_entry_at
returns-in-None c = (
  record { ends = c.in_ok-linked.ensures; limits = c.in_ok-limits.ensures },
  sym (clash_faults_are c.args.self.now.parts.now c.args.sites.now c.requires.sites) ∙ sym c.first_clash.ensures ∙ c.in-None.is,
)
