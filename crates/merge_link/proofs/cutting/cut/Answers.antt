use Rattle.std.proofs.Common.{◌≡◌, ◌∙◌, ◌++◌, ◌∷◌, [], ◌+◌, ◌<◌, sym, ap, suc, drop, length, arith}
use Rattle.merge_spec.specs.Parts.{named_modules}
use Rattle.merge_link.specs.Cutting.{cut_by, import_count, import_counts}
use Rattle.merge_link.specs.Tables.{imports_before}
use Rattle.merge_link.proofs.Cuts.{one_cut}
use Rattle.merge_link.proofs.Joins.{module_read}
use Rattle.merge_link.proofs.Numbers.{imports_more, imports_most, imports_none}
use Rattle.merge_link.proofs.cutting.cut.Goals as goal

pub loop-part-init : goal.loop-part-init
loop-part-init g c = record {
  from = sym (imports_none (named_modules c.args.parts.now));
  lists = ap (λ xs. xs ++ cut_by (import_counts c.args.parts.now) c.args.flat.now) c.new-lists.ensures;
}

pub piece-requires : goal.piece-requires
piece-requires g c =
    let lp = named_modules c.args.parts.now in
    let n = c.loop-part.part-index in
    let at = module_read c.args.parts.now n c.part-item.result c.module.result.now (omega arith) c.part-item.is c.module.ensures.value in
    omega (arith, imports_most lp 0 n c.module.result.now at, c.requires, c.loop-part.invariant.from, c.len-count.ensures)

pub overflow_add-from : goal.overflow_add-from
overflow_add-from g c =
    let lp = named_modules c.args.parts.now in
    let n = c.loop-part.part-index in
    let at = module_read c.args.parts.now n c.part-item.result c.module.result.now (omega arith) c.part-item.is c.module.ensures.value in
    omega (arith, imports_most lp 0 n c.module.result.now at, c.requires, c.loop-part.invariant.from, c.len-count.ensures)

pub loop-part-preserved : goal.loop-part-preserved
loop-part-preserved g c =
    let ps = c.args.parts.now in
    let lp = named_modules ps in
    let n = c.loop-part.part-index in
    let k = c.len-count.result in
    let from = c.loop-part.from in
    let flat = c.args.flat.now in
    let within : n < length ps = omega arith in
    let at = module_read ps n c.part-item.result c.module.result.now within c.part-item.is c.module.ensures.value in
    let suc_n : n + 1 ≡ suc n = omega arith in
    let count : k ≡ import_count c.part-item.result = c.len-count.ensures ∙ ap (λ m. length m.imports) c.module.ensures.value in
    record {
      from = omega (arith, c.loop-part.invariant.from, c.len-count.ensures, ap (imports_before lp) suc_n, imports_more lp n c.module.result.now at);
      lists = ap (λ xs. xs ++ cut_by (import_counts (drop (n + 1) ps)) (drop (from + k) flat)) (c.in_ok-keep.ensures.ok ∙ ap (λ p. c.loop-part.lists ++ p ∷ []) c.in_ok-piece.ensures)
          ∙ one_cut ps n c.part-item.result k from flat c.loop-part.lists within c.part-item.is count ∙ c.loop-part.invariant.lists;
    }
