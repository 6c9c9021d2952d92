use Rattle.index_remap.proofs.Marks.{body_step, block_marks, loop_marks, if_marks}
use Rattle.std.proofs.Common.{◌∙◌}
use Rattle.index_remap.proofs.declaring.+refs.Goals as goal

pub mark_instr-returns-in-Block : goal.mark_instr-returns-in-Block
mark_instr-returns-in-Block t c = block_marks _ _ _ _ _ _ c.in-Block.is c.as_slice.ensures c.mark_body.ensures

pub mark_instr-returns-in-Loop : goal.mark_instr-returns-in-Loop
mark_instr-returns-in-Loop t c = loop_marks _ _ _ _ _ _ c.in-Loop.is c.as_slice-in-Loop.ensures c.mark_body-in-Loop.ensures

pub mark_instr-returns-in-If : goal.mark_instr-returns-in-If
mark_instr-returns-in-If t c = if_marks _ _ _ _ _ _ _ _ _ c.in-If.is c.as_slice-in-If.ensures c.as_slice-in-If-2.ensures c.mark_body-in-If.ensures c.mark_body-in-If-2.ensures

pub mark_body-loop-instr-preserved : goal.mark_body-loop-instr-preserved
mark_body-loop-instr-preserved t c = body_step c.args.body.now c.loop-instr.instr-index c.instr-item.result _ _ c.loop-instr-test.true c.instr-item.is c.mark_instr.ensures ∙ c.loop-instr.invariant
