use Rattle.base_lists.proofs.Common.{◌≡◌, true, Some, sym, ◌∙◌, subst, slice_get, slice_index}
use Rattle.wasm_valid_bodies.specs.Tracking.{allows_types}
use Rattle.wasm_valid_bodies.specs.OperandStack.{stack_of}
use Rattle.wasm_valid_bodies.specs.Labels.{label_list}
use Rattle.wasm_valid_bodies.proofs.Branching.{allowed_at}
use Rattle.wasm_valid_bodies.proofs.Places.{marked_by}
use Rattle.wasm_valid_bodies.proofs.operand_stack.OperandStack.allows_each.Goals as goal

pub loop-label-preserved : goal.loop-label-preserved
loop-label-preserved c = record {
  passed = sym (allowed_at (label_list c.args.labels.now) _ _ _ c.loop-label.label-index c.args.others.now c.loop-label-test.true (sym c.if-not-allows.ensures)) ∙ c.loop-label.invariant.passed;
  marked = λ k e. marked_by (λ z. allows_types (stack_of c.args.self.now) c.args.self.now.any_below c.args.n (slice_get (label_list c.args.labels.now) z) ≡ true)
      c.loop-label.seen.items (slice_index c.args.others.now c.loop-label.label-index) c.loop-label.invariant.marked (sym c.if-not-allows.ensures) k
      (subst (λ zs. slice_get zs k ≡ Some true) c.mark.ensures e);
}
