use Rattle.base_lists.proofs.Common.{◌≡◌, ◌∙◌, sym, ap, ◌++◌, ◌∷◌, [], length, arith, Some, slice_index}
use Rattle.merge_spec.specs.Prelude.{named_modules, start_of}
use Rattle.merge_join.proofs.Covering.{start_fits, start_entry}
use Rattle.merge_join.proofs.Results.{ok_map}
use Rattle.merge_join.proofs.starts.add_start.Goals as goal

pub bounds-as_slice-start : goal.bounds-as_slice-start
bounds-as_slice-start c =
    let m = c.module_of.result.now in
    omega (arith, start_fits c.map.result.now m c.in-Some.start (c.map.ensures.fits m c.module_of.ensures.at) c.in-Some.is, ap length c.as_slice.ensures)

pub returns-in-Some : goal.returns-in-Some
returns-in-Some c =
    let ps = named_modules c.args.joining.now.parts.now in
    let p = c.args.part in
    let m = c.module_of.result.now in
    let f = c.in-Some.start in
    ok_map c.keep.result _ _ c.keep.ensures.ok (λ h n at.
    let there : Some m ≡ Some n = sym c.module_of.ensures.at ∙ at in
    let same : m ≡ n = cc in
    h ∙ ap (λ x. c.args.starts.now ++ slice_index x f ∷ []) c.as_slice.ensures
    ∙ ap (λ x. c.args.starts.now ++ x) (start_entry ps p m c.map.result.now f (c.map.ensures.is m c.module_of.ensures.at) (start_fits c.map.result.now m f (c.map.ensures.fits m c.module_of.ensures.at) c.in-Some.is) c.in-Some.is ∙ ap (λ k. start_of ps p k.start) same))
