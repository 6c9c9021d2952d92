use Rattle.base_lists.proofs.Common.{◌∙◌, sym, ap, ◌++◌, ◌∷◌, [], arith}
use Rattle.merge_spec.specs.Prelude.{named_modules, map_of}
use Rattle.merge_join.proofs.ByPart.{part_more, part_all}
use Rattle.wasm_tree_spec.specs.Prelude.{ElementSegments, DataSegments}
use Rattle.merge_join.proofs.Counts.{defined_more}
use Rattle.merge_join.proofs.maps.all_maps.Goals as goal

pub loop-part-init : goal.loop-part-init
loop-part-init c = record { maps_are = c.new-maps.ensures; elem_is = sym (c.definitions_are_counted_by_part.ensures.none ElementSegments (named_modules c.args.parts.now)); data_is = sym (c.definitions_are_counted_by_part.ensures.none DataSegments (named_modules c.args.parts.now)) }

pub overflow_add-first : goal.overflow_add-first
overflow_add-first c =
    let ps = named_modules c.args.parts.now in
    omega (arith, c.loop-part.invariant.elem_is, c.len.ensures, c.definitions_are_counted_by_part.ensures.all ElementSegments ps c.loop-part.part c.module_of-module.result.now c.module_of-module.ensures.at, c.requires.linked.few.entries ElementSegments)

pub overflow_add-first-in-loop-part : goal.overflow_add-first-in-loop-part
overflow_add-first-in-loop-part c =
    let ps = named_modules c.args.parts.now in
    omega (arith, c.loop-part.invariant.data_is, c.len-in-loop-part.ensures, c.definitions_are_counted_by_part.ensures.all DataSegments ps c.loop-part.part c.module_of-module.result.now c.module_of-module.ensures.at, c.requires.linked.few.entries DataSegments)

pub loop-part-preserved : goal.loop-part-preserved
loop-part-preserved c =
    let ps = named_modules c.args.parts.now in
    let p = c.loop-part.part in
    let m = c.module_of-module.result.now in
    let at = c.module_of-module.ensures.at in
    record {
      maps_are = part_more (λ p m. map_of ps p m ∷ []) ps p m c.loop-part.maps _ at c.loop-part.invariant.maps_are (c.in_ok-keep.ensures.ok ∙ ap (λ x. c.loop-part.maps ++ x ∷ []) (c.in_ok-map_of.ensures m at));
      elem_is = omega (arith, c.loop-part.invariant.elem_is, c.len.ensures, defined_more c.definitions_are_counted_by_part.ensures.next ElementSegments ps p m at);
      data_is = omega (arith, c.loop-part.invariant.data_is, c.len-in-loop-part.ensures, defined_more c.definitions_are_counted_by_part.ensures.next DataSegments ps p m at);
    }

pub returns : goal.returns
returns c = part_all (λ p m. map_of (named_modules c.args.parts.now) p m ∷ []) c.args.parts.now c.loop-part.part c.loop-part.maps c.loop-part-test.false c.loop-part.invariant.maps_are
