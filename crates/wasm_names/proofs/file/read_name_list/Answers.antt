use Rattle.std.proofs.Common.{Err, arith, ap}
use Rattle.wasm_names.proofs.NameLists.{names_of_frames, none_without_header, none_in_bad_frames}
use Rattle.wasm_names.proofs.file.read_name_list.Goals as goal

pub returns-in-Ok-clause-list : goal.returns-in-Ok-clause-list
returns-in-Ok-clause-list c =
    let slice = c.as_slice.ensures in let k2 = c.first_names_content.ensures in
    names_of_frames c.args.bytes.now c.in-Ok.all _ c.names_or_none.result ((c.framing_is_decided.ensures.framed c.args.bytes.now _ (λ i. omega (arith, c.type_inv.bytes i))).1 c.in-Ok.ensures.ok) (rw slice at k2) c.names_or_none.ensures

pub returns-in-Err-NotModule-clause-list : goal.returns-in-Err-NotModule-clause-list
returns-in-Err-NotModule-clause-list c = rw c.new.ensures (none_without_header c.args.bytes.now ((c.framing_is_decided.ensures.not_module c.args.bytes.now (λ i. omega (arith, c.type_inv.bytes i))).1 (c.in-Err-NotModule.ensures.not_module.0 (ap Err c.in-Err-NotModule.field-0-is))))

pub returns-in-Err-BadFrame-clause-list : goal.returns-in-Err-BadFrame-clause-list
returns-in-Err-BadFrame-clause-list c = rw c.new-in-Err-BadFrame.ensures (none_in_bad_frames c.args.bytes.now c.in-Err-BadFrame.field-0-0
    ((c.framing_is_decided.ensures.bad c.args.bytes.now c.in-Err-BadFrame.field-0-0 (λ i. omega (arith, c.type_inv.bytes i))).1 (c.in-Err-BadFrame.ensures.bad c.in-Err-BadFrame.field-0-0 (ap Err c.in-Err-BadFrame.field-0-is))))
