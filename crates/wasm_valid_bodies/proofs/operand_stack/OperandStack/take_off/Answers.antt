use Rattle.std.proofs.Common.{◌++◌, ◌-◌, ap, ◌∙◌, arith, drop}
use Rattle.wasm_valid_bodies.specs.Typing.{operands}
use Rattle.wasm_valid_bodies.specs.OperandStack.{lowest}
use Rattle.wasm_valid_bodies.proofs.Known.{taken_off}
use Rattle.wasm_valid_bodies.proofs.operand_stack.OperandStack.take_off.Goals as goal

pub returns-then-count-len-clause-value : goal.returns-then-count-len-clause-value
returns-then-count-len-clause-value c =
    let stack = c.args.self.now in
    let k = c.len-then-count-len.result - c.args.count in
    ap (λ z. operands (drop stack.base z) ++ lowest stack.bottom) c.truncate.ensures.items
    ∙ taken_off stack.types.items stack.base k c.args.count (lowest stack.bottom) (omega (arith, stack.within, c.len.ensures, c.len-then-count-len.ensures, c.if-count-len.true)) (omega (arith, stack.within, c.len.ensures, c.len-then-count-len.ensures, c.if-count-len.true))
