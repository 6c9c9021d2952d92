use Rattle.base_lists.proofs.Common.{◌≡◌, ◌∙◌, sym, ap, List, ℕ, Some, None}
use Rattle.wasm_meaning.specs.Linking as linking
use Rattle.merge_spec.specs.Prelude.{named_modules}
use Rattle.merge_link.specs.declared.part_tables.Ending.{Ending}
use Rattle.merge_link.specs.Prelude.{the_site, the_end, first_memory}
use Rattle.merge_link.proofs.Gathers.{first_there, gathered_memory, gathered_other}
use Rattle.merge_link.proofs.part_tables.PartTables.gathered.Goals as goal

pub returns-in-None-clause-end : goal.returns-in-None-clause-end
returns-in-None-clause-end c =
    let ps = c.args.self.now.parts.now in
    let i = c.import_at-import.result.now in
    let first : first_memory ps (i.«module», i.field) c.args.sites.now ≡ None =
    ap (λ (a : List ℕ). first_memory ps (a, i.field) c.args.sites.now) (sym c.as_str.ensures.text) ∙ ap (λ (b : List ℕ). first_memory ps (c.as_str.result.now, b) c.args.sites.now) (sym c.as_str-then-is_in.ensures.text)
    ∙ sym (c.in-None.ensures.value ∙ c.requires.firsts c.as_str.result.now c.as_str-then-is_in.result.now) in
    sym (ap (λ (e : Ending). linking.gathered (named_modules ps) (the_end e)) c.in-Outside.is
    ∙ gathered_memory ps c.args.sites.now (the_site c.in-Outside.site) i None c.requires.sites c.import_at-import.ensures (sym c.is_in.ensures ∙ c.if-is_in.true) first)

pub returns-in-Some-clause-end : goal.returns-in-Some-clause-end
returns-in-Some-clause-end c =
    let ps = c.args.self.now.parts.now in
    let i = c.import_at-import.result.now in
    let first : first_memory ps (i.«module», i.field) c.args.sites.now ≡ Some c.in-Some.first.now =
    ap (λ (a : List ℕ). first_memory ps (a, i.field) c.args.sites.now) (sym c.as_str.ensures.text) ∙ ap (λ (b : List ℕ). first_memory ps (c.as_str.result.now, b) c.args.sites.now) (sym c.as_str-then-is_in.ensures.text)
    ∙ sym (c.in-Some.ensures.value ∙ c.requires.firsts c.as_str.result.now c.as_str-then-is_in.result.now) in
    sym (ap (λ (e : Ending). linking.gathered (named_modules ps) (the_end e)) c.in-Outside.is
    ∙ gathered_memory ps c.args.sites.now (the_site c.in-Outside.site) i (Some c.in-Some.first.now) c.requires.sites c.import_at-import.ensures (sym c.is_in.ensures ∙ c.if-is_in.true) first)

pub returns-else-is_in-clause-end : goal.returns-else-is_in-clause-end
returns-else-is_in-clause-end c =
    let ps = c.args.self.now.parts.now in
    sym (ap (λ (e : Ending). linking.gathered (named_modules ps) (the_end e)) c.in-Outside.is
    ∙ gathered_other ps (the_site c.in-Outside.site) c.import_at-import.result.now c.import_at-import.ensures (sym c.is_in.ensures ∙ c.if-is_in.false))

pub returns-in-Some-clause-there : goal.returns-in-Some-clause-there
returns-in-Some-clause-there c =
    let ps = c.args.self.now.parts.now in
    first_there ps (c.as_str.result.now, c.as_str-then-is_in.result.now) c.args.sites.now c.in-Some.first.now c.requires.sites (sym (c.in-Some.ensures.value ∙ c.requires.firsts c.as_str.result.now c.as_str-then-is_in.result.now))
