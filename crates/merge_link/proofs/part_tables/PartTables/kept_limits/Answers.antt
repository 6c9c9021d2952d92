use Rattle.base_lists.proofs.Common.{◌≡◌, ◌∙◌, ◌∷◌, ◌++◌, ◌<◌, [], sym, ap, refl, List, Option, map, take, length, get_or, arith, length-map, map_push, take_more, slice_get-get_or, slice_get_read}
use Rattle.wasm_tree_spec.specs.Prelude.{Limits}
use Rattle.wasm_tree.specs.declared.module.ExportDesc.TheVariants.{Func}
use Rattle.merge_spec.specs.Faults as faults
use Rattle.merge_spec.specs.Prelude.{named_modules}
use Rattle.merge_link.specs.declared.sites.Site.{Site}
use Rattle.merge_link.specs.declared.part_tables.Ending.{Ending}
use Rattle.merge_link.specs.declared.part_tables.Ending.TheVariants.{Defined}
use Rattle.merge_link.specs.Prelude.{the_site, the_end}
use Rattle.merge_link.specs.Limits.{met_at}
use Rattle.merge_link.proofs.Found.{there_at}
use Rattle.merge_link.proofs.Meets.{kept_here, linked_known, linked_size, met_known}
use Rattle.merge_link.proofs.part_tables.PartTables.kept_limits.Goals as goal

pub kept-requires : goal.kept-requires
kept-requires c =
    let d : Site = record { part = 0; import = 0 } in
    record { there = there_at c.args.self.now.parts.now c.args.sites.now c.loop-at.at (get_or c.args.sites.now c.loop-at.at d) c.requires.sites (slice_get-get_or c.args.sites.now c.loop-at.at d (omega arith)) }

pub loop-at-preserved : goal.loop-at-preserved
loop-at-preserved c =
    let ps = c.args.self.now.parts.now in
    let sites = c.args.sites.now in
    let n = c.loop-at.at in
    let d : Site = record { part = 0; import = 0 } in
    let e : Ending = Defined (record { part = 0; what = Func 0 }) in
    let f = λ (s : Site). faults.kept_limits (named_modules ps) (the_site s) in
    let within : n < length sites = omega arith in
    let site = slice_get-get_or sites n d within in
    let end = linked_known ps sites c.args.linked.now n (get_or sites n d) (get_or c.args.linked.now n e) c.requires.linked site (slice_get-get_or c.args.linked.now n e (omega (arith, linked_size ps sites c.args.linked.now c.requires.linked))) in
    let all = c.in_ok-met.met.items in
    let read = slice_get_read all (length all) n c.index.result.now refl (omega (arith, ap length c.in_ok-met.ensures, length-map sites (met_at ps))) c.index.ensures in
    let met : c.index.result.now ≡ met_at ps (get_or sites n d) = met_known ps sites all n (get_or sites n d) c.index.result.now c.in_ok-met.ensures site read in
    let here : c.kept.result ≡ f (get_or sites n d) = c.kept.ensures ∙ kept_here ps (get_or sites n d) (the_end (get_or c.args.linked.now n e)) c.index.result.now end met in
    c.in_ok-push.ensures.items ∙ ap (λ (xs : List (Option Limits)). xs ++ c.kept.result ∷ []) c.loop-at.invariant
    ∙ ap (λ (o : Option Limits). map f (take n sites) ++ o ∷ []) here
    ∙ sym (ap (map f) (take_more sites n d within) ∙ map_push f (take n sites) (get_or sites n d))
