use Rattle.base_lists.proofs.Common.{◌≡◌, ◌∙◌, ◌<◌, sym, length, get_or, arith, get_or_default, slice_get-get_or}
use Rattle.wasm_tree.specs.declared.module.ExportDesc.TheVariants.{Func}
use Rattle.merge_spec.specs.Faults as faults
use Rattle.merge_spec.specs.Prelude.{named_modules}
use Rattle.merge_link.specs.declared.sites.Site.{Site}
use Rattle.merge_link.specs.declared.part_tables.Ending.{Ending}
use Rattle.merge_link.specs.declared.part_tables.Ending.TheVariants.{Defined}
use Rattle.merge_link.specs.Prelude.{the_site, the_end}
use Rattle.merge_link.proofs.Counts.{count_not, count_yes, staying_here}
use Rattle.merge_link.proofs.Found.{there_at}
use Rattle.merge_link.proofs.Meets.{linked_known, linked_size}
use Rattle.merge_link.proofs.part_tables.PartTables.staying_memories.Goals as goal
use Rattle.merge_link.proofs.part_tables.PartTables.staying_memories.Goals.{then-is_staying_memory, else-is_staying_memory}

pub is_staying_memory-requires : goal.is_staying_memory-requires
is_staying_memory-requires c =
    let d : Site = record { part = 0; import = 0 } in
    there_at c.args.self.now.parts.now c.args.sites.now c.loop-at.at (get_or c.args.sites.now c.loop-at.at d) c.requires.sites (slice_get-get_or c.args.sites.now c.loop-at.at d (omega arith))

pub loop-at-preserved : goal.loop-at-preserved
loop-at-preserved c =
    let ps = c.args.self.now.parts.now in
    let sites = c.args.sites.now in
    let n = c.loop-at.at in
    let d : Site = record { part = 0; import = 0 } in
    let e : Ending = Defined (record { part = 0; what = Func 0 }) in
    let f = λ (s : Site). faults.is_staying_memory (named_modules ps) (the_site s) in
    let within : n < length sites = omega arith in
    let end = linked_known ps sites c.args.linked.now n (get_or sites n d) (get_or c.args.linked.now n e) c.requires.linked (slice_get-get_or sites n d within) (slice_get-get_or c.args.linked.now n e (omega (arith, linked_size ps sites c.args.linked.now c.requires.linked))) in
    let here : c.is_staying_memory.result ≡ f (get_or sites n d) = c.is_staying_memory.ensures ∙ staying_here ps (get_or sites n d) (the_end (get_or c.args.linked.now n e)) end in
    let is = get_or_default sites n d (get_or sites n d) within in
    let i = c.loop-at.invariant in
    elim c.if-is_staying_memory.branch [
      | then-is_staying_memory w ↦ let more = count_yes f sites n (get_or sites n d) within is (sym here ∙ w.if-is_staying_memory.true) in record { most = omega (arith, w.count-is, i.most); count = omega (arith, w.count-is, i.count, more) }
      | else-is_staying_memory w ↦ let same = count_not f sites n (get_or sites n d) within is (sym here ∙ w.if-is_staying_memory.false) in record { most = omega (arith, w.count-is, i.most); count = omega (arith, w.count-is, i.count, same) }
    ]
