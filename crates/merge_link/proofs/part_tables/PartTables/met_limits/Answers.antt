use Rattle.base_lists.proofs.Common.{◌≡◌, ◌∙◌, ◌∷◌, ◌-◌, ◌<◌, sym, ap, refl, List, ℕ, map, drop, length, get_or, arith, drop_all, get_or_default, length-map, slice_get-get_or, slice_get_read}
use Rattle.base_lists.proofs.Walk.{left_back}
use Rattle.wasm_tree.specs.declared.module.ExportDesc.TheVariants.{Func}
use Rattle.merge_spec.specs.Prelude.{named_modules}
use Rattle.merge_link.specs.declared.sites.Site.{Site}
use Rattle.merge_link.specs.declared.part_tables.Ending.{Ending}
use Rattle.merge_link.specs.declared.part_tables.Ending.TheVariants.{Defined}
use Rattle.merge_link.specs.Prelude.{the_site, the_end, met_of}
use Rattle.merge_link.proofs.Found.{there_at}
use Rattle.merge_link.proofs.Meets.{all_met, all_none, all_same, all_set, demand_there, linked_known, linked_size}
use Rattle.merge_link.proofs.part_tables.PartTables.met_limits.Goals as goal

pub loop-at-init : goal.loop-at-init
loop-at-init c =
    let ps = c.args.self.now.parts.now in
    c.in_ok-all.ensures ∙ all_none ps c.args.sites.now ∙ ap (λ (ts : List Site). map (met_of ps ts) c.args.sites.now) (sym (drop_all (length c.args.sites.now) c.args.sites.now (omega arith)))

pub demand-requires-clause-there : goal.demand-requires-clause-there
demand-requires-clause-there c =
    let d : Site = record { part = 0; import = 0 } in
    there_at c.args.self.now.parts.now c.args.sites.now (c.loop-at.at - 1) (get_or c.args.sites.now (c.loop-at.at - 1) d) c.requires.sites (slice_get-get_or c.args.sites.now (c.loop-at.at - 1) d (omega arith))

pub demand-requires-clause-end : goal.demand-requires-clause-end
demand-requires-clause-end c =
    let e : Ending = Defined (record { part = 0; what = Func 0 }) in
    let size = linked_size c.args.self.now.parts.now c.args.sites.now c.args.linked.now c.requires.linked in
    c.requires.linked.there (c.loop-at.at - 1) (get_or c.args.linked.now (c.loop-at.at - 1) e) (slice_get-get_or c.args.linked.now (c.loop-at.at - 1) e (omega (arith, size)))

pub loop-at-preserved-in-None : goal.loop-at-preserved-in-None
loop-at-preserved-in-None c =
    let ps = c.args.self.now.parts.now in
    let sites = c.args.sites.now in
    let n = c.loop-at.at - 1 in
    let d : Site = record { part = 0; import = 0 } in
    let e : Ending = Defined (record { part = 0; what = Func 0 }) in
    let within : n < length sites = omega arith in
    let back : drop n sites ≡ get_or sites n d ∷ drop c.loop-at.at sites = left_back sites c.loop-at.at (get_or sites n d) (omega arith) (omega arith) (get_or_default sites n d (get_or sites n d) within) in
    let end = linked_known ps sites c.args.linked.now n (get_or sites n d) (get_or c.args.linked.now n e) c.requires.linked (slice_get-get_or sites n d within) (slice_get-get_or c.args.linked.now n e (omega (arith, linked_size ps sites c.args.linked.now c.requires.linked))) in
    c.loop-at.invariant ∙ sym (ap (λ (ts : List Site). map (met_of ps ts) sites) back ∙ all_same ps (drop c.loop-at.at sites) (get_or sites n d) (the_end (get_or c.args.linked.now n e)) sites end c.in-None.ensures)

pub index-met-requires : goal.index-met-requires
index-met-requires c =
    let lp = named_modules c.args.self.now.parts.now in
    let n = demand_there lp _ _ (c.in-Some.number, c.in-Some.limits) c.in-Some.ensures in
    omega (arith, n, ap length c.requires.sites, length-map c.args.sites.now the_site, ap length c.loop-at.invariant, length-map c.args.sites.now (met_of c.args.self.now.parts.now (drop c.loop-at.at c.args.sites.now)))

pub index_mut-requires : goal.index_mut-requires
index_mut-requires c =
    let lp = named_modules c.args.self.now.parts.now in
    let n = demand_there lp _ _ (c.in-Some.number, c.in-Some.limits) c.in-Some.ensures in
    omega (arith, n, ap length c.requires.sites, length-map c.args.sites.now the_site, ap length c.loop-at.invariant, length-map c.args.sites.now (met_of c.args.self.now.parts.now (drop c.loop-at.at c.args.sites.now)))

pub loop-at-preserved : goal.loop-at-preserved
loop-at-preserved c =
    let ps = c.args.self.now.parts.now in
    let sites = c.args.sites.now in
    let all = c.loop-at.all.items in
    let n = c.loop-at.at - 1 in
    let d : Site = record { part = 0; import = 0 } in
    let e : Ending = Defined (record { part = 0; what = Func 0 }) in
    let within : n < length sites = omega arith in
    let back : drop n sites ≡ get_or sites n d ∷ drop c.loop-at.at sites = left_back sites c.loop-at.at (get_or sites n d) (omega arith) (omega arith) (get_or_default sites n d (get_or sites n d) within) in
    let end = linked_known ps sites c.args.linked.now n (get_or sites n d) (get_or c.args.linked.now n e) c.requires.linked (slice_get-get_or sites n d within) (slice_get-get_or c.args.linked.now n e (omega (arith, linked_size ps sites c.args.linked.now c.requires.linked))) in
    let there = demand_there (named_modules ps) _ _ (c.in-Some.number, c.in-Some.limits) c.in-Some.ensures in
    let inside : c.in-Some.number < length all = omega (arith, there, ap length c.requires.sites, length-map sites the_site, ap length c.loop-at.invariant, length-map sites (met_of ps (drop c.loop-at.at sites))) in
    let old = slice_get_read all (length all) c.in-Some.number c.index-met.result.now refl inside c.index-met.ensures in
    all_set ps sites (drop c.loop-at.at sites) (get_or sites n d) (the_end (get_or c.args.linked.now n e)) c.in-Some.number c.in-Some.limits c.meet.result all c.requires.sites end c.in-Some.ensures c.loop-at.invariant c.index-met.result.now old c.meet.ensures
    ∙ ap (λ (ts : List Site). map (met_of ps ts) sites) (sym back)

pub returns : goal.returns
returns c =
    let ps = c.args.self.now.parts.now in
    let sites = c.args.sites.now in
    let z : c.loop-at.at ≡ 0 = omega arith in
    c.loop-at.invariant ∙ ap (λ (n : ℕ). map (met_of ps (drop n sites)) sites) z ∙ all_met ps sites sites c.requires.sites
