use Rattle.base_lists.proofs.Common.{ap, ◌∙◌, sym, refl, ◌||◌, list_any-append}
use Rattle.wasm_tree_spec.specs.Prelude.{out-Instr, outs-Block, outs-Loop, outs-If, uses_data, uses_data_in}
use Rattle.wasm_tree.specs.declared.instr.Instr.TheOpen.{Instr-F}
use Rattle.eval_snapshot.proofs.HeldData.{answer_inside}
use Rattle.eval_snapshot.proofs.data_use.+uses.Goals as goal

pub uses_data_in-returns-in-Block : goal.uses_data_in-returns-in-Block
uses_data_in-returns-in-Block t c =
    let ty = c.in-Block.field-0 in
    let layer = ap out-Instr c.in-Block.is ∙ outs-Block ty c.in-Block.body in
    answer_inside c.operands_pass_layer_by_layer.ensures.any _ (Instr-F.Block ty c.in-Block.body) layer ty refl _ (c.uses_data.ensures ∙ ap uses_data c.as_slice.ensures)

pub uses_data_in-returns-in-Loop : goal.uses_data_in-returns-in-Loop
uses_data_in-returns-in-Loop t c =
    let ty = c.in-Loop.field-0 in
    let layer = ap out-Instr c.in-Loop.is ∙ outs-Loop ty c.in-Loop.body in
    answer_inside c.operands_pass_layer_by_layer.ensures.any _ (Instr-F.Loop ty c.in-Loop.body) layer ty refl _ (c.uses_data-in-Loop.ensures ∙ ap uses_data c.as_slice-in-Loop.ensures)

pub uses_data_in-returns-then-uses_data : goal.uses_data_in-returns-then-uses_data
uses_data_in-returns-then-uses_data t c =
    let ty = c.in-If.field-0 in
    let layer = ap out-Instr c.in-If.is ∙ outs-If ty c.in-If.body c.in-If.other in
    let one = sym c.if-uses_data.true ∙ c.uses_data-in-If.ensures ∙ ap uses_data c.as_slice-in-If.ensures in
    answer_inside c.operands_pass_layer_by_layer.ensures.any _ (Instr-F.If ty c.in-If.body c.in-If.other) layer ty refl _
    (c.if-uses_data.true ∙ ap (λ b. b || uses_data c.in-If.other) one ∙ sym (list_any-append uses_data_in c.in-If.body c.in-If.other))

pub uses_data_in-returns-else-uses_data : goal.uses_data_in-returns-else-uses_data
uses_data_in-returns-else-uses_data t c =
    let ty = c.in-If.field-0 in
    let layer = ap out-Instr c.in-If.is ∙ outs-If ty c.in-If.body c.in-If.other in
    let one = sym c.if-uses_data.false ∙ c.uses_data-in-If.ensures ∙ ap uses_data c.as_slice-in-If.ensures in
    let two = c.uses_data-else-uses_data.ensures ∙ ap uses_data c.as_slice-else-uses_data.ensures in
    answer_inside c.operands_pass_layer_by_layer.ensures.any _ (Instr-F.If ty c.in-If.body c.in-If.other) layer ty refl _
    (two ∙ ap (λ b. b || uses_data c.in-If.other) one ∙ sym (list_any-append uses_data_in c.in-If.body c.in-If.other))
