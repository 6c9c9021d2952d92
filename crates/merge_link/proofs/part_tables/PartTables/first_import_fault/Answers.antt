use Rattle.base_lists.proofs.Common.{◌≡◌, ◌∙◌, sym, ◌<◌, Some, None, length, get_or, arith, slice_get-get_or, get_or_default}
use Rattle.std.specs.Option.{option_map}
use Rattle.merge_spec.specs.Faults as faults
use Rattle.merge_spec.specs.Prelude.{named_modules}
use Rattle.merge_link.specs.declared.sites.Site.{Site}
use Rattle.merge_link.specs.Prelude.{the_site, end_at, the_end}
use Rattle.merge_link.proofs.Found.{there_at, stop_at, fault_at, lengths_same}
use Rattle.merge_link.proofs.Firsts.{first_pass, first_stop}
use Rattle.merge_link.proofs.part_tables.PartTables.first_import_fault.Goals as goal

pub import_fault-requires-clause-there : goal.import_fault-requires-clause-there
import_fault-requires-clause-there c =
    let d : Site = record { part = 0; import = 0 } in
    there_at c.args.self.now.parts.now c.args.sites.now c.loop-at.at (get_or c.args.sites.now c.loop-at.at d) c.requires.sites (slice_get-get_or c.args.sites.now c.loop-at.at d (omega arith))

pub import_fault-requires-clause-stop : goal.import_fault-requires-clause-stop
import_fault-requires-clause-stop c =
    let ps = c.args.self.now.parts.now in
    let size = lengths_same (option_map the_end) (end_at ps) c.args.ends.now c.args.sites.now c.requires.ends in
    stop_at ps c.args.ends.now c.loop-at.at (get_or c.args.ends.now c.loop-at.at None) c.requires.stops (slice_get-get_or c.args.ends.now c.loop-at.at None (omega (arith, size)))

pub returns-in-Some : goal.returns-in-Some
returns-in-Some c =
    let lp = named_modules c.args.self.now.parts.now in
    let sites = c.args.sites.now in
    let at = c.loop-at.at in
    let d : Site = record { part = 0; import = 0 } in
    let within : at < length sites = omega arith in
    let size = lengths_same (option_map the_end) (end_at c.args.self.now.parts.now) c.args.ends.now sites c.requires.ends in
    let here = fault_at c.args.self.now.parts.now sites c.args.ends.now at (get_or sites at d) (get_or c.args.ends.now at None) c.requires.ends (slice_get-get_or sites at d within) (slice_get-get_or c.args.ends.now at None (omega (arith, size))) in
    let fault : faults.import_fault lp (the_site (get_or sites at d)) ≡ Some c.in-Some.fault = here ∙ sym c.import_fault.ensures ∙ c.in-Some.is in
    first_stop (λ (s : Site). faults.import_fault lp (the_site s)) sites at (get_or sites at d) _ c.in-Some.fault within (get_or_default sites at d (get_or sites at d) within) fault c.loop-at.invariant

pub loop-at-preserved : goal.loop-at-preserved
loop-at-preserved c =
    let lp = named_modules c.args.self.now.parts.now in
    let sites = c.args.sites.now in
    let at = c.loop-at.at in
    let d : Site = record { part = 0; import = 0 } in
    let within : at < length sites = omega arith in
    let size = lengths_same (option_map the_end) (end_at c.args.self.now.parts.now) c.args.ends.now sites c.requires.ends in
    let here = fault_at c.args.self.now.parts.now sites c.args.ends.now at (get_or sites at d) (get_or c.args.ends.now at None) c.requires.ends (slice_get-get_or sites at d within) (slice_get-get_or c.args.ends.now at None (omega (arith, size))) in
    let none : faults.import_fault lp (the_site (get_or sites at d)) ≡ None = here ∙ sym c.import_fault.ensures ∙ c.in-None.is in
    first_pass (λ (s : Site). faults.import_fault lp (the_site s)) sites at (get_or sites at d) _ within (get_or_default sites at d (get_or sites at d) within) none c.loop-at.invariant
