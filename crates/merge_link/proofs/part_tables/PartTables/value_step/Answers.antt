use Rattle.base_lists.proofs.Common.{sym, ap, subst, ◌<◌, length, get_or, arith, length-map, slice_get-get_or, slice_get_within}
use Rattle.wasm_tree_spec.specs.Prelude.{ConstExpr}
use Rattle.wasm_tree.specs.declared.module.ExportDesc.TheVariants.{Func}
use Rattle.wasm_meaning.specs.Linking as linking
use Rattle.merge_spec.specs.Prelude.{named_modules}
use Rattle.merge_link.specs.declared.part_tables.Ending.{Ending}
use Rattle.merge_link.specs.declared.part_tables.Ending.TheVariants.{Defined}
use Rattle.merge_link.specs.Prelude.{the_site, IsStep, the_end, own_reads, the_read}
use Rattle.merge_link.proofs.Found.{known_size}
use Rattle.merge_link.proofs.Reading.{end_numbered, step_read}
use Rattle.merge_link.proofs.part_tables.PartTables.value_step.Goals as goal

pub end_step-requires-clause-stop : goal.end_step-requires-clause-stop
end_step-requires-clause-stop c =
    let ps = c.args.self.now.parts.now in
    let ends = c.args.ends.now in
    let n = c.in-Some.number in
    let e : Ending = Defined (record { part = 0; what = Func 0 }) in
    let within = slice_get_within (linking.sites (named_modules ps)) n c.in-Some.ensures.0 c.in-Some.ensures.1 in
    let inside : n < length ends = omega (arith, within, ap length c.requires.sites, length-map c.args.sites.now the_site, known_size ps c.args.sites.now ends c.requires.ends) in
    c.requires.ends.stops n (get_or ends n e) (slice_get-get_or ends n e inside)

pub returns-in-Some : goal.returns-in-Some
returns-in-Some c =
    let ps = c.args.self.now.parts.now in
    let ends = c.args.ends.now in
    let n = c.in-Some.number in
    let e : Ending = Defined (record { part = 0; what = Func 0 }) in
    let within = slice_get_within (linking.sites (named_modules ps)) n c.in-Some.ensures.0 c.in-Some.ensures.1 in
    let inside : n < length ends = omega (arith, within, ap length c.requires.sites, length-map c.args.sites.now the_site, known_size ps c.args.sites.now ends c.requires.ends) in
    let end = end_numbered ps c.args.sites.now ends n c.in-Some.ensures.0 (get_or ends n e) c.requires.sites c.requires.ends c.in-Some.ensures.1 (slice_get-get_or ends n e inside) in
    subst (λ (x : ConstExpr). IsStep (linking.read_step (named_modules ps)) (own_reads (named_modules ps)) the_read (record { part = c.args.global.part; expr = x }) c.end_step.result) (sym c.in-Global.is)
    (step_read ps c.args.global.part c.in-Global.index c.in-Some.ensures.0 (the_end (get_or ends n e)) c.end_step.result c.in-Some.ensures.2 end c.end_step.ensures)
