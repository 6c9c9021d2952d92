use Rattle.std.proofs.Common.{Err, arith, ap}
use Rattle.wasm_read.proofs.file.frame_list.Goals as goal

pub returns-in-Ok-clause-gives : goal.returns-in-Ok-clause-gives
returns-in-Ok-clause-gives c = (c.framing_is_decided.ensures.framed c.args.bytes.now _ (λ i. omega (arith, c.type_inv.bytes i))).1 c.in-Ok.ensures.ok

pub returns-in-Err-NotModule-clause-gives : goal.returns-in-Err-NotModule-clause-gives
returns-in-Err-NotModule-clause-gives c = (c.framing_is_decided.ensures.not_module c.args.bytes.now (λ i. omega (arith, c.type_inv.bytes i))).1 (c.in-Err-NotModule.ensures.not_module.0 (ap Err c.in-Err-NotModule.field-0-is))

pub returns-in-Err-BadFrame-clause-gives : goal.returns-in-Err-BadFrame-clause-gives
returns-in-Err-BadFrame-clause-gives c = (c.framing_is_decided.ensures.bad c.args.bytes.now c.in-Err-BadFrame.section (λ i. omega (arith, c.type_inv.bytes i))).1 (c.in-Err-BadFrame.ensures.bad c.in-Err-BadFrame.section (ap Err (c.in-Err-BadFrame.field-0-is)))
