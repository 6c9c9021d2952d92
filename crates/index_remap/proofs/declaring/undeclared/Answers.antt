use Rattle.base_lists.proofs.Common.{length, ap, sym, ◌∙◌, arith, IfOk-weaker}
use Rattle.base_kept.specs.Marks.{named_from}
use Rattle.base_kept.proofs.Marks.{marks_length}
use Rattle.index_remap.specs.Prelude.{body_refs, outside_refs}
use Rattle.index_remap.proofs.Marks.{items_are}
use Rattle.index_remap.proofs.declaring.undeclared.Goals as goal

pub items_of-requires-clause-same : goal.items_of-requires-clause-same
items_of-requires-clause-same c =
    let m = c.args.module.now in
    ap length (c.as_slice-3.ensures.value ∙ c.in_ok-outside.ensures) ∙ marks_length (outside_refs m) 0 c.func_space-count.result
    ∙ sym (ap length (c.as_slice-2.ensures.value ∙ c.in_ok-inside.ensures) ∙ marks_length (body_refs c.as_slice.result.now) 0 c.func_space-count.result)

pub items_of-requires-clause-few : goal.items_of-requires-clause-few
items_of-requires-clause-few c =
    let size = ap length (c.as_slice-2.ensures.value ∙ c.in_ok-inside.ensures) ∙ marks_length (body_refs c.as_slice.result.now) 0 c.func_space-count.result in
    let few = c.requires in
    omega (arith, size, c.func_space-count.ensures, few)

pub returns : goal.returns
returns c =
    let m = c.args.module.now in
    IfOk-weaker c.items_of.result _ _
    (λ items h. items_are c.func_space-count.result _ (body_refs m.funcs) (outside_refs m) c.as_slice-2.result.now c.as_slice-3.result.now items
    (c.as_slice-2.ensures.value ∙ c.in_ok-inside.ensures ∙ ap (λ fs. named_from (body_refs fs) 0 c.func_space-count.result) c.as_slice.ensures)
    (c.as_slice-3.ensures.value ∙ c.in_ok-outside.ensures) c.func_space-count.ensures h)
    c.items_of.ensures
