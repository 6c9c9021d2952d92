use Rattle.base_lists.proofs.Common.{◌∙◌, ap, sym, subst, ◌+◌, ◌∷◌, [], arith, length, length-append}
use Rattle.merge_spec.specs.Prelude.{named_modules}
use Rattle.merge_join.proofs.ByPart.{part_there}
use Rattle.merge_join.proofs.Values.{DenoteEach, each_more}
use Rattle.merge_join.proofs.consts.all_values.Goals as goal

pub loop-part-preserved : goal.loop-part-preserved
loop-part-preserved c =
    let ps = named_modules c.args.joining.now.parts.now in
    let values = c.in_ok-values_of.field-0 in (
      ap length c.in_ok-keep.ensures.ok ∙ length-append c.loop-part.all (values ∷ []) ∙ ap (λ n. n + 1) c.loop-part.invariant.0,
      subst (DenoteEach ps (c.loop-part.part + 1)) (sym c.in_ok-keep.ensures.ok) (each_more ps c.loop-part.part c.loop-part.all values c.loop-part.invariant.0 c.in_ok-values_of.ensures c.loop-part.invariant.1),
    )

pub returns : goal.returns
returns c = λ p m at. c.loop-part.invariant.1 p (omega (arith, c.loop-part-test.false, part_there c.args.joining.now.parts.now p m at))
