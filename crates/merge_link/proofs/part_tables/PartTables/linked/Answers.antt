use Rattle.base_lists.proofs.Common.{◌≡◌, ◌∙◌, ◌<◌, ◌++◌, ◌∷◌, [], sym, ap, List, Option, Some, map, take, length, get_or, arith, map_push, take_all, take_more, slice_get-get_or}
use Rattle.wasm_tree.specs.declared.module.ExportDesc.TheVariants.{Func}
use Rattle.wasm_meaning.specs.Linking as linking
use Rattle.merge_link.specs.declared.sites.Site.{Site}
use Rattle.merge_link.specs.declared.part_tables.Ending.{Ending}
use Rattle.merge_link.specs.declared.part_tables.Ending.TheVariants.{Defined}
use Rattle.merge_link.specs.Prelude.{the_end, linked_at}
use Rattle.merge_link.proofs.Found.{known_at, known_size}
use Rattle.merge_link.proofs.Gathers.{linked_here, there_more, there_none}
use Rattle.merge_link.proofs.part_tables.PartTables.linked.Goals as goal

pub gathered-requires-clause-stop : goal.gathered-requires-clause-stop
gathered-requires-clause-stop c =
    let e : Ending = Defined (record { part = 0; what = Func 0 }) in
    c.requires.ends.stops c.loop-end.end-index (get_or c.args.ends.now c.loop-end.end-index e) (slice_get-get_or c.args.ends.now c.loop-end.end-index e (omega arith))

pub loop-end-init : goal.loop-end-init
loop-end-init c = record { same = ap (map (λ x. Some (the_end x))) c.new-linked.ensures.items; there = there_none c.args.self.now.parts.now c.new-linked.result.items c.new-linked.ensures.items }

pub loop-end-preserved : goal.loop-end-preserved
loop-end-preserved c =
    let ps = c.args.self.now.parts.now in
    let sites = c.args.sites.now in
    let n = c.loop-end.end-index in
    let d : Site = record { part = 0; import = 0 } in
    let e : Ending = Defined (record { part = 0; what = Func 0 }) in
    let size = known_size ps sites c.args.ends.now c.requires.ends in
    let within : n < length c.args.ends.now = omega arith in
    let end = known_at ps sites c.args.ends.now n (get_or sites n d) (get_or c.args.ends.now n e) c.requires.ends (slice_get-get_or sites n d (omega (arith, size))) (slice_get-get_or c.args.ends.now n e within) in
    let here : Some (the_end c.gathered.result) ≡ linked_at ps (get_or sites n d) = linked_here ps (get_or sites n d) _ _ end c.gathered.ensures.end in
    let same = ap (map (λ x. Some (the_end x))) c.in_ok-push.ensures.items ∙ map_push (λ x. Some (the_end x)) c.loop-end.linked.items c.gathered.result
    ∙ ap (λ (xs : List (Option linking.End)). xs ++ Some (the_end c.gathered.result) ∷ []) c.loop-end.invariant.same
    ∙ ap (λ (o : Option linking.End). map (linked_at ps) (take n sites) ++ o ∷ []) here
    ∙ sym (ap (map (linked_at ps)) (take_more sites n d (omega (arith, size))) ∙ map_push (linked_at ps) (take n sites) (get_or sites n d)) in
    record { same = same; there = rw c.in_ok-push.ensures.items (there_more ps c.loop-end.linked.items c.gathered.result c.loop-end.invariant.there c.gathered.ensures.there) }

pub returns : goal.returns
returns c =
    let size = known_size c.args.self.now.parts.now c.args.sites.now c.args.ends.now c.requires.ends in
    record { same = c.loop-end.invariant.same ∙ ap (map (linked_at c.args.self.now.parts.now)) (take_all c.loop-end.end-index c.args.sites.now (omega (arith, size))); there = c.loop-end.invariant.there }
