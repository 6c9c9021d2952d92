use Rattle.base_lists.proofs.Common.{◌≡◌, [], Some, sym, ◌∙◌, arith, eqb-true}
use Rattle.wasm_valid_bodies.specs.OperandStack.{stack_of}
use Rattle.wasm_valid_bodies.proofs.Known.{none_left}
use Rattle.wasm_valid_bodies.proofs.operand_stack.OperandStack.ends.Goals as goal

pub returns-else-len-self-clause-value : goal.returns-else-len-self-clause-value
returns-else-len-self-clause-value c =
    let stack = c.pop_all.new.self in (
      λ t. absurd (c.if-len-self.false (eqb-true c.len.result stack.base t)),
      λ e. let some : Some (stack_of stack) ≡ Some [] = sym c.if-not-pop_all.ensures.value ∙ e in
          let none : stack_of stack ≡ [] = cc in
          absurd (c.if-len-self.false (omega (arith, (none_left stack.types.items stack.base stack.bottom none).0, stack.within, c.len.ensures))),
    )
