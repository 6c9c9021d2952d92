use Rattle.base_lists.proofs.Common.{◌≡◌, ◌∙◌, ap, sym, subst, ◌+◌, ◌∷◌, [], Some, arith, length, length-append, take_all, filter_map_most}
use Rattle.wasm_tree.specs.declared.module.ConstExpr.TheVariants as const
use Rattle.wasm_tree_spec.specs.Prelude.{Import, global_of, imported_globals}
use Rattle.wasm_valid.specs.Prelude.{const_type}
use Rattle.merge_spec.specs.Prelude.{named_modules}
use Rattle.merge_join.specs.Reads.{HasType}
use Rattle.merge_join.proofs.Values.{Denotes, one_longer, inside, may_be_named, is_fixed, no_global, none_more, stand_more, stand_all}
use Rattle.merge_join.proofs.consts.values_of.Goals as goal
use Rattle.merge_join.proofs.consts.values_of.Goals.{in-Global+in_ok-keep, in_default}

pub value_of-requires-clause-typed : goal.value_of-requires-clause-typed
value_of-requires-clause-typed c = λ fixed.
    let m = c.module_of.result.now in
    let ty = c.in-Global.ty in (
      m,
      ty.ty,
      c.module_of.ensures.at,
      subst (λ x. const_type m (const.Global x) ≡ Some ty.ty) (sym c.loop-import.invariant.0)
          (may_be_named c.as_slice-import-items.result.now c.loop-import.import-index c.import-item.result ty c.loop-import-test.true c.import-item.is c.in-Global.is m c.as_slice-import-items.ensures fixed),
    )

pub overflow_add-global : goal.overflow_add-global
overflow_add-global c =
    let is = c.as_slice-import-items.result.now in
    omega (
      arith,
      c.loop-import.invariant.0,
      inside is c.loop-import.import-index c.import-item.result c.in-Global.ty c.loop-import-test.true c.import-item.is c.in-Global.is,
      filter_map_most (λ (i : Import). global_of i.desc) is,
      ap length c.as_slice-import-items.ensures,
      c.module_of.ensures.bounded.imports,
    )

pub loop-import-preserved : goal.loop-import-preserved
loop-import-preserved c =
    let ps = named_modules c.args.joining.now.parts.now in
    let p = c.args.part in
    let m = c.module_of.result.now in
    let is = c.as_slice-import-items.result.now in
    let n = c.loop-import.import-index in
    let i = c.import-item.result in
    let count = c.loop-import.global in
    let values = c.loop-import.values in
    elim c.match-import.branch [
      | in-Global+in_ok-keep w ↦
          let ty = w.in-Global.ty in
          let new = w.values-is ∙ w.in_ok-keep.ensures.ok in
          let stand = stand_more ps p count values w.value_of.result c.loop-import.invariant.1
          (λ typed. w.value_of.ensures (is_fixed is n i ty c.loop-import-test.true c.import-item.is w.in-Global.is ps p m c.module_of.ensures.at c.as_slice-import-items.ensures
          (subst (λ x. HasType ps p (const.Global x)) c.loop-import.invariant.0 typed))) c.loop-import.invariant.2 in (
            w.global-is ∙ ap (λ k. k + 1) c.loop-import.invariant.0 ∙ sym (one_longer is n i ty c.loop-import-test.true c.import-item.is w.in-Global.is),
            ap length new ∙ length-append values (w.value_of.result ∷ []) ∙ ap (λ k. k + 1) c.loop-import.invariant.1 ∙ sym w.global-is,
            subst (λ k. Denotes ps p k c.match-import.values) (sym w.global-is) (subst (Denotes ps p (count + 1)) (sym new) stand),
          )
      | in_default w ↦ (
        w.global-is ∙ c.loop-import.invariant.0 ∙ sym (none_more is n i c.loop-import-test.true c.import-item.is (no_global i.desc w.in_default.not-Global)),
        ap length w.values-is ∙ c.loop-import.invariant.1 ∙ sym w.global-is,
        subst (λ k. Denotes ps p k c.match-import.values) (sym w.global-is) (subst (Denotes ps p count) (sym w.values-is) c.loop-import.invariant.2),
      )
    ]

pub returns : goal.returns
returns c =
    let is = c.as_slice-import-items.result.now in
    let n = c.loop-import.import-index in
    stand_all (named_modules c.args.joining.now.parts.now) c.args.part c.module_of.result.now is c.loop-import.global c.loop-import.values c.module_of.ensures.at c.as_slice-import-items.ensures
    (c.loop-import.invariant.0 ∙ ap (λ x. length (imported_globals x)) (take_all n is (omega (arith, c.loop-import-test.false)))) c.loop-import.invariant.2
