use Rattle.std.proofs.Common.{sym, ap, ◌∙◌, Some, true}
use Rattle.wasm_valid_bodies.specs.OperandStack.{stack_of}
use Rattle.wasm_valid_bodies.specs.Labels.{label_list}
use Rattle.wasm_valid_bodies.proofs.Branching.{branches_yes, branches_no}
use Rattle.wasm_valid_bodies.proofs.operand_stack.OperandStack.branches.Goals as goal

pub returns-then-not-branch : goal.returns-then-not-branch
returns-then-not-branch c = (
  branches_no (label_list c.args.labels.now) _ _ _ _ c.args.last c.args.others.now c.in-Some.types.now (sym c.in-Some.ensures) c.if-not-pop_type.ensures.value c.pop_type.ensures.any_below (sym c.in_ok-allows_each.ensures ∙ c.if-not-branch.true),
  c.pop_type.ensures.beneath,
)

pub returns : goal.returns
returns c = (
  branches_yes (label_list c.args.labels.now) _ _ _ _ c.args.last c.args.others.now c.in-Some.types.now (sym c.in-Some.ensures) c.if-not-pop_type.ensures.value c.pop_type.ensures.any_below (sym c.if-not-allows.ensures) (sym c.in_ok-allows_each.ensures ∙ c.if-not-branch.false)
      ∙ ap (λ xs. Some (xs, true)) (sym c.forgets.ensures.value)
      ∙ ap (λ o. Some (stack_of c.forgets.new.self, o)) (sym c.forgets.ensures.any_below),
  c.forgets.ensures.beneath ∙ c.pop_type.ensures.beneath,
)
