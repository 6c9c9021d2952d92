use Rattle.base_lists.proofs.Common.{◌≡◌, ◌∙◌, ◌∷◌, ◌++◌, ◌<◌, [], sym, ap, List, Option, map, take, length, get_or, arith, map_push, take_more, slice_get-get_or}
use Rattle.wasm_tree.specs.declared.module.ExportDesc.TheVariants.{Func}
use Rattle.merge_spec.specs.declared.links.Read.{Read}
use Rattle.merge_spec.specs.Linked as links
use Rattle.merge_spec.specs.Prelude.{named_modules}
use Rattle.merge_link.specs.declared.sites.Site.{Site}
use Rattle.merge_link.specs.declared.part_tables.Ending.{Ending}
use Rattle.merge_link.specs.declared.part_tables.Ending.TheVariants.{Defined}
use Rattle.merge_link.specs.Prelude.{the_site, the_end}
use Rattle.merge_link.proofs.Found.{known_at, known_size, there_at}
use Rattle.merge_link.proofs.Through.{fixed_is}
use Rattle.merge_link.proofs.part_tables.PartTables.reads.Goals as goal

pub read_through-requires-clause-there : goal.read_through-requires-clause-there
read_through-requires-clause-there c =
    let d : Site = record { part = 0; import = 0 } in
    there_at c.args.self.now.parts.now c.args.sites.now c.loop-at.at (get_or c.args.sites.now c.loop-at.at d) c.requires.sites (slice_get-get_or c.args.sites.now c.loop-at.at d (omega arith))

pub read_through-requires-clause-stop : goal.read_through-requires-clause-stop
read_through-requires-clause-stop c =
    let e : Ending = Defined (record { part = 0; what = Func 0 }) in
    let size = known_size c.args.self.now.parts.now c.args.sites.now c.args.ends.now c.requires.ends in
    c.requires.ends.stops c.loop-at.at (get_or c.args.ends.now c.loop-at.at e) (slice_get-get_or c.args.ends.now c.loop-at.at e (omega (arith, size)))

pub loop-at-preserved : goal.loop-at-preserved
loop-at-preserved c =
    let ps = c.args.self.now.parts.now in
    let sites = c.args.sites.now in
    let ends = c.args.ends.now in
    let n = c.loop-at.at in
    let d : Site = record { part = 0; import = 0 } in
    let e : Ending = Defined (record { part = 0; what = Func 0 }) in
    let f = λ (s : Site). links.read_at (named_modules ps) (the_site s) in
    let within : n < length sites = omega arith in
    let site = slice_get-get_or sites n d within in
    let end = known_at ps sites ends n (get_or sites n d) (get_or ends n e) c.requires.ends site (slice_get-get_or ends n e (omega (arith, known_size ps sites ends c.requires.ends))) in
    let there = there_at ps sites n (get_or sites n d) c.requires.sites site in
    let here : c.read_through.result ≡ f (get_or sites n d) = c.read_through.ensures ∙ fixed_is (named_modules ps) (c.ends_and_reads_are_paths.ensures.reads (named_modules ps)) (the_site (get_or sites n d)) there.0 (the_end (get_or ends n e)) there.1 end in
    c.in_ok-push.ensures.items ∙ ap (λ (xs : List (Option Read)). xs ++ c.read_through.result ∷ []) c.loop-at.invariant
    ∙ ap (λ (o : Option Read). map f (take n sites) ++ o ∷ []) here
    ∙ sym (ap (map f) (take_more sites n d within) ∙ map_push f (take n sites) (get_or sites n d))
