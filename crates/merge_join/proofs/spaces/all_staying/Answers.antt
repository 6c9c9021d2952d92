use Rattle.std.proofs.Common.{◌∙◌, sym, ap, ◌++◌, ◌∷◌, [], length, map}
use Rattle.wasm_meaning.specs.Linking.{sites_in}
use Rattle.merge_spec.specs.Parts.{named_modules}
use Rattle.merge_join.specs.Spaces.{staying_place}
use Rattle.merge_join.proofs.ByPart.{part_more, part_all, by_import_is, module_exists}
use Rattle.merge_join.proofs.Counts.{count_all, count_none}
use Rattle.merge_join.proofs.spaces.all_staying.Goals as goal

pub loop-part-init : goal.loop-part-init
loop-part-init c = record { staying_are = c.new-staying.ensures; count_is = sym (count_none (named_modules c.args.parts.now) c.args.space) }

pub loop-part-preserved : goal.loop-part-preserved
loop-part-preserved c =
    let ps = named_modules c.args.parts.now in
    let k = c.args.space in
    let p = c.loop-part.part in
    let (m, at) = module_exists c.args.parts.now p c.loop-part-test.true in
    record {
      staying_are = part_more (λ p m. map (staying_place ps k) (sites_in p (length m.imports) 0) ∷ []) ps p m c.loop-part.staying _ at c.loop-part.invariant.staying_are
          (c.in_ok-keep.ensures.ok ∙ ap (λ r. c.loop-part.staying ++ r ∷ []) (c.in_ok-staying_in.ensures.row m at));
      count_is = c.in_ok-staying_in.ensures.count;
    }

pub returns : goal.returns
returns c =
    let ps = named_modules c.args.parts.now in
    let k = c.args.space in
    let p = c.loop-part.part in
    record {
      staying = part_all (λ p m. map (staying_place ps k) (sites_in p (length m.imports) 0) ∷ []) c.args.parts.now p c.loop-part.staying c.loop-part-test.false c.loop-part.invariant.staying_are ∙ sym (by_import_is (staying_place ps k) ps);
      count = c.loop-part.invariant.count_is ∙ count_all c.args.parts.now k p c.loop-part-test.false;
    }
