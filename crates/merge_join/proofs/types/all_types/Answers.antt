use Rattle.std.proofs.Common.{◌∙◌, sym, ap, refl, ◌++◌, [], length, take, arith}
use Rattle.merge_spec.specs.Parts.{named_modules}
use Rattle.merge_spec.specs.Merged.{by_part_from, with_types, merged_types}
use Rattle.merge_join.proofs.ByPart.{part_more, part_all, part_room, flat_is}
use Rattle.merge_join.proofs.Interning.{with_types_join, with_types_length}
use Rattle.merge_join.proofs.types.all_types.Goals as goal

pub loop-part-preserved : goal.loop-part-preserved
loop-part-preserved c =
    let ps = named_modules c.args.parts.now in
    let p = c.loop-part.part in
    let m = c.module_of.result.now in
    let before = by_part_from (λ p m. m.types) 0 (take p ps) in
    record {
      list_is = c.in_ok-add_types.ensures.list ∙ ap (with_types c.loop-part.list) c.as_slice-types.ensures ∙ ap (λ ts. with_types ts m.types) c.loop-part.invariant.list_is
          ∙ sym (with_types_join [] before m.types) ∙ ap (with_types []) (part_more (λ p m. m.types) ps p m before (before ++ m.types) c.module_of.ensures.at refl refl);
      known = c.in_ok-add_types.ensures.known;
    }

pub add_types-requires-clause-few : goal.add_types-requires-clause-few
add_types-requires-clause-few c =
    let ps = named_modules c.args.parts.now in
    let p = c.loop-part.part in
    let m = c.module_of.result.now in
    let before = by_part_from (λ p m. m.types) 0 (take p ps) in
    omega (arith, ap length c.as_slice-types.ensures, ap length c.loop-part.invariant.list_is, with_types_length [] before, part_room (λ p m. m.types) ps p m c.module_of.ensures.at, ap length (flat_is (λ m. m.types) ps), c.requires)

pub returns : goal.returns
unfolding merged_types
returns c =
    let ps = named_modules c.args.parts.now in
    let p = c.loop-part.part in
    c.loop-part.invariant.list_is ∙ ap (with_types []) (part_all (λ p m. m.types) c.args.parts.now p (by_part_from (λ p m. m.types) 0 (take p ps)) (omega arith) refl ∙ sym (flat_is (λ m. m.types) ps))
