use Rattle.std.proofs.Common.{arith}
use Rattle.wasm_read_items.proofs.Forms.{variable_token}
use Rattle.wasm_read_items.proofs.tokens.read_token.Goals as goal

pub returns-in-32-to-38-clause-gives : goal.returns-in-32-to-38-clause-gives
returns-in-32-to-38-clause-gives c =
    rw (variable_token c.args.many c.args.cursor.now c.byte.new.self c.in_ok-opcode.opcode (omega (arith, c.in-32-to-38)) (omega (arith, c.in-32-to-38)) (rw c.in_ok-opcode.ensures.gives)) (c.read_variable.ensures.gives c.args.many)
