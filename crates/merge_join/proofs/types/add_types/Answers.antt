use Rattle.base_lists.proofs.Common.{◌∙◌, sym, ap, ◌++◌, ◌∷◌, [], length, take, arith, take_more, length-take-le}
use Rattle.merge_spec.specs.Prelude.{with_types, with_type}
use Rattle.merge_join.proofs.Interning.{with_types_push, with_types_length}
use Rattle.merge_join.proofs.types.add_types.Goals as goal

pub loop-ty-preserved : goal.loop-ty-preserved
loop-ty-preserved c =
    let old = c.args.list.now in
    let types = c.args.types.now in
    let i = c.loop-ty.ty-index in
    let ty = c.ty-item.result in
    record {
      list_is = c.in_ok-add_type.ensures.list ∙ ap (λ ts. with_type ts ty) c.loop-ty.invariant.list_is ∙ sym (with_types_push old (take i types) ty)
          ∙ ap (with_types old) (ap (λ t. take i types ++ t ∷ []) c.ty-item.is ∙ sym (take_more types i ty c.loop-ty-test.true));
      known = c.in_ok-add_type.ensures.known;
    }

pub add_type-requires-clause-few : goal.add_type-requires-clause-few
add_type-requires-clause-few c =
    let old = c.args.list.now in
    let types = c.args.types.now in
    let i = c.loop-ty.ty-index in
    omega (arith, ap length c.loop-ty.invariant.list_is, with_types_length old (take i types), length-take-le i types (omega arith), c.requires.few)
