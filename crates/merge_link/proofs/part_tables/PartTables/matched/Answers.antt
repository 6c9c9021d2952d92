use Rattle.std.proofs.Common.{◌≡◌, ◌∙◌, inr, sym, subst, List, Option, Some, None, slice_get, ℕ}
use Rattle.merge_link.specs.declared.part_tables.Ending.{Ending}
use Rattle.merge_link.proofs.Whole.{all_end, all_known, import_faults_are}
use Rattle.merge_link.proofs.part_tables.PartTables.matched.Goals as goal

pub returns-in-Some : goal.returns-in-Some
returns-in-Some c = inr (sym (import_faults_are c.args.self.now.parts.now c.args.sites.now c.requires.sites) ∙ sym c.first_import_fault.ensures ∙ c.in-Some.is)

pub known_ends-requires : goal.known_ends-requires
known_ends-requires c =
    subst (λ (xs : List (Option Ending)). (n : ℕ) → slice_get xs n ≡ Some None → ⊥) (sym c.deref-in-None.ensures.value)
    (all_end c.args.self.now.parts.now c.args.sites.now c.in_ok-ends.ends.items c.in_ok-ends.ensures.ends (sym c.first_import_fault.ensures ∙ c.in-None.is))

pub returns : goal.returns
returns c = (
  all_known c.args.self.now.parts.now c.args.sites.now c.in_ok-ends.ends.items c.in_ok-known_ends-in-None.field-0.items c.in_ok-ends.ensures.ends c.in_ok-ends.ensures.stops (c.in_ok-known_ends-in-None.ensures ∙ c.deref-in-None.ensures.value),
  sym (import_faults_are c.args.self.now.parts.now c.args.sites.now c.requires.sites) ∙ sym c.first_import_fault.ensures ∙ c.in-None.is,
)
