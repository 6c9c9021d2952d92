use Rattle.base_lists.proofs.Common.{◌≡◌, ◌∙◌, sym, ap, ◌+◌, ◌++◌, length, map, take, arith, take_all}
use Rattle.index_remap.specs.Prelude.{new_export}
use Rattle.merge_spec.specs.Prelude.{named_modules, by_part_from, named_exports}
use Rattle.merge_spec.specs.Merged.{all_exports}
use Rattle.merge_join.proofs.ByPart.{named_length}
use Rattle.merge_join.proofs.Exported.{new_exports, exports_few, exports_next, exports_grow}
use Rattle.merge_join.proofs.exports.merged_exports.Goals as goal

pub add_exports-requires-clause-named : goal.add_exports-requires-clause-named
add_exports-requires-clause-named c =
    let ps = named_modules c.args.joining.now.parts.now in
    omega (arith, c.loop-part.invariant.0, exports_few ps c.loop-part.part c.module_of.result.now c.module_of.ensures.at, ap length c.as_slice-exports.ensures, c.requires.named)

pub overflow_add-first : goal.overflow_add-first
overflow_add-first c =
    let ps = named_modules c.args.joining.now.parts.now in
    omega (arith, c.loop-part.invariant.0, exports_few ps c.loop-part.part c.module_of.result.now c.module_of.ensures.at, ap length c.as_slice-exports.ensures, c.requires.named, c.well_formed)

pub loop-part-preserved : goal.loop-part-preserved
loop-part-preserved c =
    let ps = named_modules c.args.joining.now.parts.now in
    let m = c.module_of.result.now in
    let p = c.loop-part.part in
    let before = by_part_from (new_exports ps) 0 (take p ps) in
    let after : before ++ map (new_export c.map.result.now) c.as_slice-exports.result.now ≡ by_part_from (new_exports ps) 0 (take (p + 1) ps) =
    ap (λ es. before ++ map (new_export c.map.result.now) es) c.as_slice-exports.ensures ∙ ap (λ r. before ++ map (new_export r) m.exports) (c.map.ensures.is m c.module_of.ensures.at)
    ∙ exports_next ps p m c.module_of.ensures.at in (
      omega (arith, c.loop-part.invariant.0, exports_grow ps p m c.module_of.ensures.at, ap length c.as_slice-exports.ensures),
      c.in_ok-add_exports.ensures before (sym c.loop-part.invariant.0) c.loop-part.invariant.1 ∙ ap (λ x. named_exports x c.args.names.now) after,
    )

pub returns : goal.returns
unfolding all_exports
returns c =
    let ps = named_modules c.args.joining.now.parts.now in
    let whole = take_all c.loop-part.part ps (omega (arith, c.loop-part-test.false, named_length c.args.joining.now.parts.now)) in
    c.loop-part.invariant.1 ∙ ap (λ x. named_exports (by_part_from (new_exports ps) 0 x) c.args.names.now) whole
