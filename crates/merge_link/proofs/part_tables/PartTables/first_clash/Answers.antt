use Rattle.base_lists.proofs.Common.{◌≡◌, ◌∙◌, ◌<◌, sym, ap, Some, None, length, get_or, arith, get_or_default, length-map, slice_get-get_or}
use Rattle.merge_spec.specs.Faults as faults
use Rattle.merge_spec.specs.Prelude.{named_modules}
use Rattle.merge_link.specs.declared.sites.Site.{Site}
use Rattle.merge_link.specs.Prelude.{the_site}
use Rattle.merge_link.proofs.Firsts.{first_pass, first_stop}
use Rattle.merge_link.proofs.Meets.{clash_here, kept_known}
use Rattle.merge_link.proofs.part_tables.PartTables.first_clash.Goals as goal

pub returns-in-Some : goal.returns-in-Some
returns-in-Some c =
    let ps = c.args.self.now.parts.now in
    let lp = named_modules ps in
    let sites = c.args.sites.now in
    let kept = c.args.kept.now in
    let at = c.loop-at.at in
    let d : Site = record { part = 0; import = 0 } in
    let within : at < length sites = omega arith in
    let size = ap length c.requires ∙ length-map sites (λ (s : Site). faults.kept_limits lp (the_site s)) in
    let known = kept_known ps sites kept at (get_or sites at d) (get_or kept at None) c.requires (slice_get-get_or sites at d within) (slice_get-get_or kept at None (omega (arith, size))) in
    let fault : faults.clash_fault lp (the_site (get_or sites at d)) ≡ Some c.in-Some.fault = sym (clash_here ps (get_or sites at d) (get_or kept at None) known) ∙ sym c.clash.ensures ∙ c.in-Some.is in
    first_stop (λ (s : Site). faults.clash_fault lp (the_site s)) sites at (get_or sites at d) _ c.in-Some.fault within (get_or_default sites at d (get_or sites at d) within) fault c.loop-at.invariant

pub loop-at-preserved : goal.loop-at-preserved
loop-at-preserved c =
    let ps = c.args.self.now.parts.now in
    let lp = named_modules ps in
    let sites = c.args.sites.now in
    let kept = c.args.kept.now in
    let at = c.loop-at.at in
    let d : Site = record { part = 0; import = 0 } in
    let within : at < length sites = omega arith in
    let size = ap length c.requires ∙ length-map sites (λ (s : Site). faults.kept_limits lp (the_site s)) in
    let known = kept_known ps sites kept at (get_or sites at d) (get_or kept at None) c.requires (slice_get-get_or sites at d within) (slice_get-get_or kept at None (omega (arith, size))) in
    let none : faults.clash_fault lp (the_site (get_or sites at d)) ≡ None = sym (clash_here ps (get_or sites at d) (get_or kept at None) known) ∙ sym c.clash.ensures ∙ c.in-None.is in
    first_pass (λ (s : Site). faults.clash_fault lp (the_site s)) sites at (get_or sites at d) _ within (get_or_default sites at d (get_or sites at d) within) none c.loop-at.invariant
