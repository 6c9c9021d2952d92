use Rattle.base_lists.proofs.Common.{Some, sym, ap, ◌∙◌, reverse, length, drop, length-reverse}
use Rattle.wasm_valid_bodies.specs.OperandStack.{stack_of, when}
use Rattle.wasm_valid_bodies.proofs.Known.{popped}
use Rattle.wasm_valid_bodies.proofs.operand_stack.OperandStack.pop_all.Goals as goal

pub returns-clause-value : goal.returns-clause-value
returns-clause-value c =
    let xs = stack_of c.args.self.now in
    let ts = c.args.ts.now in
    popped xs c.args.self.now.any_below (reverse ts)
    ∙ ap (λ b. when b (drop (length (reverse ts)) xs)) (sym c.can_pop.ensures ∙ c.if-not-can_pop.false)
    ∙ ap Some (ap (λ n. drop n xs) (length-reverse ts) ∙ sym c.take_off.ensures.value)
