use Rattle.base_lists.proofs.Common.{length, map, get_or, ◌+◌, sym, ap, Some, slice_get, arith, ◌≡◌, ◌∙◌, slice_get-map, slice_get-get_or, length-map, length_push}
use Rattle.std.specs.Option.{option_map}
use Rattle.wasm_meaning.specs.Linking as linking
use Rattle.merge_spec.specs.Prelude.{named_modules}
use Rattle.merge_link.specs.Prelude.{the_site, the_end}
use Rattle.merge_link.proofs.Numbers.{site_there}
use Rattle.merge_link.proofs.Steps.{steps_more, no_steps}
use Rattle.merge_link.proofs.part_tables.PartTables.steps.Goals as goal

pub loop-site-init : goal.loop-site-init
loop-site-init c =
    let lp = named_modules c.args.self.now.parts.now in
    record {
      one_each = ap length c.new-steps.ensures.items;
      right = no_steps (linking.import_step lp) (linking.sites lp) the_end (map the_site c.args.sites.now) c.new-steps.result.items c.new-steps.ensures.items;
    }

pub import_at-import-requires : goal.import_at-import-requires
import_at-import-requires c =
    let lp = named_modules c.args.self.now.parts.now in
    let site = get_or c.args.sites.now c.loop-site.site-index (record { part = 0; import = 0 }) in
    let at : slice_get (map the_site c.args.sites.now) c.loop-site.site-index ≡ Some (the_site site) =
    slice_get-map the_site c.args.sites.now c.loop-site.site-index ∙ ap (option_map the_site) (slice_get-get_or c.args.sites.now c.loop-site.site-index (record { part = 0; import = 0 }) (omega arith)) in
    record { there = site_there lp c.loop-site.site-index (the_site site) (ap (λ xs. slice_get xs c.loop-site.site-index) (sym c.requires.sites) ∙ at) }

pub loop-site-preserved : goal.loop-site-preserved
loop-site-preserved c =
    let lp = named_modules c.args.self.now.parts.now in
    let i = c.loop-site.invariant in
    let site = get_or c.args.sites.now c.loop-site.site-index (record { part = 0; import = 0 }) in
    let at : slice_get (map the_site c.args.sites.now) c.loop-site.site-index ≡ Some (the_site site) =
    slice_get-map the_site c.args.sites.now c.loop-site.site-index ∙ ap (option_map the_site) (slice_get-get_or c.args.sites.now c.loop-site.site-index (record { part = 0; import = 0 }) (omega arith)) in
    record {
      one_each = ap length c.in_ok-push.ensures.items ∙ length_push c.loop-site.steps.items c.step_of.result ∙ ap (λ n. n + 1) i.one_each;
      right = rw c.in_ok-push.ensures.items (steps_more (linking.import_step lp) (linking.sites lp) the_end (map the_site c.args.sites.now) c.loop-site.steps.items c.loop-site.site-index (the_site site) c.step_of.result i.one_each at c.step_of.ensures i.right);
    }

pub returns : goal.returns
returns c =
    let i = c.loop-site.invariant in
    record { one_each = i.one_each ∙ omega arith ∙ sym (length-map c.args.sites.now the_site); right = i.right }
