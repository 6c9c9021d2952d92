use Rattle.std.proofs.Common.{◌≡◌, ◌∙◌, sym, ap, ◌+◌, ◌++◌, ◌∷◌, [], length, arith}
use Rattle.wasm_meaning.specs.World.{defined_before}
use Rattle.merge_spec.specs.Parts.{named_modules}
use Rattle.merge_join.proofs.ByPart.{part_more, part_all, named_length}
use Rattle.merge_join.proofs.Counts.{defined_more}
use Rattle.merge_join.proofs.spaces.firsts_of.Goals as goal

pub loop-part-init : goal.loop-part-init
loop-part-init c = record { firsts_are = c.new-firsts.ensures; first_is = omega (arith, c.definitions_are_counted_by_part.ensures.none c.args.space (named_modules c.args.parts.now)) }

pub loop-part-preserved : goal.loop-part-preserved
loop-part-preserved c =
    let ps = named_modules c.args.parts.now in
    let k = c.args.space in
    let p = c.loop-part.part in
    let m = c.module_of.result.now in
    let i = c.loop-part.invariant in
    record {
      firsts_are = part_more (λ p m. (c.args.staying + defined_before k ps p) ∷ []) ps p m c.loop-part.firsts _ c.module_of.ensures.at i.firsts_are
          (c.in_ok-keep.ensures.ok ∙ ap (λ n. c.loop-part.firsts ++ n ∷ []) i.first_is);
      first_is = omega (arith, i.first_is, c.defined_count.ensures, defined_more c.definitions_are_counted_by_part.ensures.next k ps p m c.module_of.ensures.at);
    }

pub overflow_add-first : goal.overflow_add-first
overflow_add-first c =
    let ps = named_modules c.args.parts.now in
    let k = c.args.space in
    let m = c.module_of.result.now in
    let all : defined_before k ps (length c.args.parts.now) ≡ defined_before k ps (length ps) = ap (defined_before k ps) (sym (named_length c.args.parts.now)) in
    omega (arith, all, c.loop-part.invariant.first_is, c.defined_count.ensures, c.definitions_are_counted_by_part.ensures.all k ps c.loop-part.part m c.module_of.ensures.at, c.requires.few)

pub overflow_cast-first : goal.overflow_cast-first
overflow_cast-first c =
    let ps = named_modules c.args.parts.now in
    let k = c.args.space in
    let m = c.module_of.result.now in
    let all : defined_before k ps (length c.args.parts.now) ≡ defined_before k ps (length ps) = ap (defined_before k ps) (sym (named_length c.args.parts.now)) in
    omega (arith, all, c.defined_count.ensures, c.definitions_are_counted_by_part.ensures.all k ps c.loop-part.part m c.module_of.ensures.at, c.requires.few)

pub returns : goal.returns
returns c =
    let ps = named_modules c.args.parts.now in
    let k = c.args.space in
    let end : c.loop-part.part ≡ length c.args.parts.now = omega arith in
    record {
      firsts = part_all (λ p m. (c.args.staying + defined_before k ps p) ∷ []) c.args.parts.now c.loop-part.part c.loop-part.firsts (omega arith) c.loop-part.invariant.firsts_are;
      count = c.loop-part.invariant.first_is ∙ ap (λ n. c.args.staying + defined_before k ps n) end;
    }
