use Rattle.base_lists.proofs.Common.{[], ◌∷◌, ◌++◌, Some, ◌↔◌, IsTrue, drop, length, refl, ap, subst, ◌∙◌, arith}
use Rattle.wasm_tree_spec.specs.Prelude.{I32}
use Rattle.wasm_valid_bodies.specs.Typing.{Gives, effect_of, Fits, WellTyped}
use Rattle.wasm_valid_bodies.specs.Tracking.{TracksStep}
use Rattle.wasm_valid_bodies.specs.OperandStack.{stack_of}
use Rattle.wasm_valid_bodies.specs.Labels.{label_list}
use Rattle.wasm_valid_bodies.specs.ScopeContexts.{context_of, signature}
use Rattle.wasm_valid_bodies.proofs.Runs.{is_plain, block_stopped, loop_stopped, then_stopped, else_stopped, block_done, loop_done, if_done, plain_done, rest_start, rest_end, turn, stopped, on_true, true_or_not, kept_so}
use Rattle.wasm_valid_bodies.proofs.Around.{after_block, answered, undisturbed, back_again, back}
use Rattle.wasm_valid_bodies.proofs.check.+body.Goals as goal

pub step-returns-then-not-branch-clause-typed : goal.step-returns-then-not-branch-clause-typed
step-returns-then-not-branch-clause-typed t c =
    block_stopped (context_of c.args.scope.now (label_list c.args.labels.now)) _ _ c.in-Block.body (signature c.in-Some.shape) c.as_slice-body.result.now _ _ c.in-Some.ensures c.as_slice-body.ensures _ c.in-Block.is c.in_ok-is_well_typed-in-Block.ensures.typed c.if-not-branch.true

pub step-returns-then-not-branch-2-clause-typed : goal.step-returns-then-not-branch-2-clause-typed
step-returns-then-not-branch-2-clause-typed t c =
    loop_stopped (context_of c.args.scope.now (label_list c.args.labels.now)) _ _ c.in-Loop.body (signature c.in-Some-shape_of.shape) c.as_slice-body-in-Loop.result.now _ _ c.in-Some-shape_of.ensures c.as_slice-body-in-Loop.ensures _ c.in-Loop.is c.in_ok-is_well_typed-in-Loop.ensures.typed
    c.if-not-branch-2.true

pub step-returns-then-not-branch-3-clause-typed : goal.step-returns-then-not-branch-3-clause-typed
step-returns-then-not-branch-3-clause-typed t c =
    then_stopped (context_of c.args.scope.now (label_list c.args.labels.now)) _ _ c.in-If.body (signature c.in-Some-shape_of-2.shape) c.as_slice-body-in-If.result.now _ _ c.in-Some-shape_of-2.ensures c.as_slice-body-in-If.ensures c.in-If.other _ c.in-If.is c.in_ok-is_well_typed-in-If.ensures.typed
    c.if-not-branch-3.true

pub step-returns-then-not-branch-4-clause-typed : goal.step-returns-then-not-branch-4-clause-typed
step-returns-then-not-branch-4-clause-typed t c =
    let shape = signature c.in-Some-shape_of-2.shape in
    let same = on_true _ _ c.in_ok-is_well_typed-in-If.ensures.labels c.if-not-branch-3.false in
    let other = subst (λ ls. IsTrue c.in_ok-is_well_typed-in-If-2.field-0 ↔ WellTyped (context_of c.args.scope.now (shape.results ∷ ls)) c.as_slice-other.result.now shape.params shape.results) same c.in_ok-is_well_typed-in-If-2.ensures.typed in
    else_stopped (context_of c.args.scope.now (label_list c.args.labels.now)) _ _ c.in-If.other shape c.as_slice-other.result.now _ _ c.in-Some-shape_of-2.ensures c.as_slice-other.ensures c.in-If.body _ c.in-If.is other c.if-not-branch-4.true

pub step-returns-else-not-branch-clause-typed : goal.step-returns-else-not-branch-clause-typed
step-returns-else-not-branch-clause-typed t c =
    let back = on_true _ _ c.in_ok-is_well_typed-in-Block.ensures.back c.if-not-branch.false in
    block_done (context_of c.args.scope.now (label_list c.args.labels.now)) _ _ c.in-Block.body (signature c.in-Some.shape) c.as_slice-body.result.now (stack_of c.args.stack.now) c.args.stack.now.any_below c.in-Some.ensures c.as_slice-body.ensures _ _ _ _ c.in-Block.is
    c.in_ok-is_well_typed-in-Block.ensures.typed c.if-not-branch.false
    (answered (Some (Gives c.in-Some.shape.params.now c.in-Some.shape.results.now)) c.args.stack.now c.gives.new.self c.gives.result
    (after_block (Some (Gives c.in-Some.shape.params.now c.in-Some.shape.results.now)) c.args.stack.now c.is_well_typed.new.stack c.gives.new.self c.gives.result back c.gives.ensures))

pub step-returns-else-not-branch-clause-beneath : goal.step-returns-else-not-branch-clause-beneath
step-returns-else-not-branch-clause-beneath t c =
    let back = on_true _ _ c.in_ok-is_well_typed-in-Block.ensures.back c.if-not-branch.false in
    undisturbed (Some (Gives c.in-Some.shape.params.now c.in-Some.shape.results.now)) c.args.stack.now c.gives.new.self c.gives.result
    (after_block (Some (Gives c.in-Some.shape.params.now c.in-Some.shape.results.now)) c.args.stack.now c.is_well_typed.new.stack c.gives.new.self c.gives.result back c.gives.ensures)

pub step-returns-else-not-branch-2-clause-typed : goal.step-returns-else-not-branch-2-clause-typed
step-returns-else-not-branch-2-clause-typed t c =
    let back = on_true _ _ c.in_ok-is_well_typed-in-Loop.ensures.back c.if-not-branch-2.false in
    loop_done (context_of c.args.scope.now (label_list c.args.labels.now)) _ _ c.in-Loop.body (signature c.in-Some-shape_of.shape) c.as_slice-body-in-Loop.result.now (stack_of c.args.stack.now) c.args.stack.now.any_below c.in-Some-shape_of.ensures c.as_slice-body-in-Loop.ensures _ _ _ _ c.in-Loop.is
    c.in_ok-is_well_typed-in-Loop.ensures.typed c.if-not-branch-2.false
    (answered (Some (Gives c.in-Some-shape_of.shape.params.now c.in-Some-shape_of.shape.results.now)) c.args.stack.now c.gives-in-Loop.new.self c.gives-in-Loop.result
    (after_block (Some (Gives c.in-Some-shape_of.shape.params.now c.in-Some-shape_of.shape.results.now)) c.args.stack.now c.is_well_typed-in-Loop.new.stack c.gives-in-Loop.new.self c.gives-in-Loop.result back c.gives-in-Loop.ensures))

pub step-returns-else-not-branch-2-clause-beneath : goal.step-returns-else-not-branch-2-clause-beneath
step-returns-else-not-branch-2-clause-beneath t c =
    let back = on_true _ _ c.in_ok-is_well_typed-in-Loop.ensures.back c.if-not-branch-2.false in
    undisturbed (Some (Gives c.in-Some-shape_of.shape.params.now c.in-Some-shape_of.shape.results.now)) c.args.stack.now c.gives-in-Loop.new.self c.gives-in-Loop.result
    (after_block (Some (Gives c.in-Some-shape_of.shape.params.now c.in-Some-shape_of.shape.results.now)) c.args.stack.now c.is_well_typed-in-Loop.new.stack c.gives-in-Loop.new.self c.gives-in-Loop.result back c.gives-in-Loop.ensures)

pub step-returns-else-not-branch-4-clause-typed : goal.step-returns-else-not-branch-4-clause-typed
step-returns-else-not-branch-4-clause-typed t c =
    let shape = signature c.in-Some-shape_of-2.shape in
    let same = on_true _ _ c.in_ok-is_well_typed-in-If.ensures.labels c.if-not-branch-3.false in
    let other = subst (λ ls. IsTrue c.in_ok-is_well_typed-in-If-2.field-0 ↔ WellTyped (context_of c.args.scope.now (shape.results ∷ ls)) c.as_slice-other.result.now shape.params shape.results) same c.in_ok-is_well_typed-in-If-2.ensures.typed in
    let back = back_again c.args.stack.now c.is_well_typed-in-If.new.stack c.is_well_typed-in-If-2.new.stack (on_true _ _ c.in_ok-is_well_typed-in-If.ensures.back c.if-not-branch-3.false) (on_true _ _ c.in_ok-is_well_typed-in-If-2.ensures.back c.if-not-branch-4.false) in
    if_done (context_of c.args.scope.now (label_list c.args.labels.now)) _ _ c.in-If.body shape c.as_slice-body-in-If.result.now (stack_of c.args.stack.now) c.args.stack.now.any_below c.in-Some-shape_of-2.ensures c.as_slice-body-in-If.ensures c.in-If.other c.as_slice-other.result.now _ _ _ _ _
    c.as_slice-other.ensures c.in-If.is c.in_ok-is_well_typed-in-If.ensures.typed c.if-not-branch-3.false other c.if-not-branch-4.false
    (answered (Some (Gives (c.in-Some-shape_of-2.shape.params.now ++ I32 ∷ []) c.in-Some-shape_of-2.shape.results.now)) c.args.stack.now c.gives_over.new.self c.gives_over.result
    (after_block (Some (Gives (c.in-Some-shape_of-2.shape.params.now ++ I32 ∷ []) c.in-Some-shape_of-2.shape.results.now)) c.args.stack.now c.is_well_typed-in-If-2.new.stack c.gives_over.new.self c.gives_over.result back c.gives_over.ensures))

pub step-returns-else-not-branch-4-clause-beneath : goal.step-returns-else-not-branch-4-clause-beneath
step-returns-else-not-branch-4-clause-beneath t c =
    let back = back_again c.args.stack.now c.is_well_typed-in-If.new.stack c.is_well_typed-in-If-2.new.stack (on_true _ _ c.in_ok-is_well_typed-in-If.ensures.back c.if-not-branch-3.false) (on_true _ _ c.in_ok-is_well_typed-in-If-2.ensures.back c.if-not-branch-4.false) in
    undisturbed (Some (Gives (c.in-Some-shape_of-2.shape.params.now ++ I32 ∷ []) c.in-Some-shape_of-2.shape.results.now)) c.args.stack.now c.gives_over.new.self c.gives_over.result
    (after_block (Some (Gives (c.in-Some-shape_of-2.shape.params.now ++ I32 ∷ []) c.in-Some-shape_of-2.shape.results.now)) c.args.stack.now c.is_well_typed-in-If-2.new.stack c.gives_over.new.self c.gives_over.result back c.gives_over.ensures)

pub step-returns-in_default : goal.step-returns-in_default
step-returns-in_default t c = record {
  typed = plain_done (context_of c.args.scope.now (label_list c.args.labels.now)) c.args.instr.now (stack_of c.args.stack.now) c.args.stack.now.any_below _ _ _ (is_plain c.args.instr.now c.in_default.not-Block c.in_default.not-Loop c.in_default.not-If)
      (answered (effect_of (context_of c.args.scope.now (label_list c.args.labels.now)) c.args.instr.now) c.args.stack.now c.plain.new.stack c.plain.result c.plain.ensures);
  labels = kept_so _ _ refl;
  beneath = undisturbed (effect_of (context_of c.args.scope.now (label_list c.args.labels.now)) c.args.instr.now) c.args.stack.now c.plain.new.stack c.plain.result c.plain.ensures;
}

pub is_well_typed-loop-instr-init : goal.is_well_typed-loop-instr-init
is_well_typed-loop-instr-init t c = record {
  rest = rest_start _ c.args.body.now c.args.shape.params.now _ _ c.in_ok-outer.ensures.0 c.in_ok-outer.ensures.1;
  labels = c.in_ok-open.ensures;
  beneath = c.in_ok-outer.ensures.2;
}

pub is_well_typed-returns-then-not-branch-clause-typed : goal.is_well_typed-returns-then-not-branch-clause-typed
is_well_typed-returns-then-not-branch-clause-typed t c =
    let moved = subst (λ ls. TracksStep (Fits (context_of c.args.scope.now ls) c.instr-item.result) (stack_of c.loop-instr.stack) c.loop-instr.stack.any_below (stack_of c.step.new.stack) c.step.new.stack.any_below c.in_ok-step.field-0) c.loop-instr.invariant.labels c.in_ok-step.ensures.typed in
    stopped _ c.args.body.now c.args.shape.params.now c.args.shape.results.now _ _ _ _ _ c.loop-instr.instr-index c.instr-item.result c.loop-instr-test.true c.instr-item.is c.loop-instr.invariant.rest moved c.if-not-branch.true

pub is_well_typed-loop-instr-preserved : goal.is_well_typed-loop-instr-preserved
is_well_typed-loop-instr-preserved t c =
    let moved = subst (λ ls. TracksStep (Fits (context_of c.args.scope.now ls) c.instr-item.result) (stack_of c.loop-instr.stack) c.loop-instr.stack.any_below (stack_of c.step.new.stack) c.step.new.stack.any_below c.in_ok-step.field-0) c.loop-instr.invariant.labels c.in_ok-step.ensures.typed in
    record {
      rest = turn _ c.args.body.now c.args.shape.params.now _ _ _ _ _ c.loop-instr.instr-index c.instr-item.result c.loop-instr-test.true c.instr-item.is c.loop-instr.invariant.rest moved c.if-not-branch.false;
      labels = on_true _ _ c.in_ok-step.ensures.labels c.if-not-branch.false ∙ c.loop-instr.invariant.labels;
      beneath = on_true _ _ c.in_ok-step.ensures.beneath c.if-not-branch.false ∙ c.loop-instr.invariant.beneath;
    }

pub is_well_typed-returns-clause-typed : goal.is_well_typed-returns-clause-typed
is_well_typed-returns-clause-typed t c =
    rest_end _ c.args.body.now c.args.shape.params.now c.args.shape.results.now _ _ c.loop-instr.instr-index _ c.loop-instr-test.false c.loop-instr.invariant.rest c.ends-ends.ensures.value

pub is_well_typed-returns-clause-labels : goal.is_well_typed-returns-clause-labels
is_well_typed-returns-clause-labels t c =
    true_or_not c.ends-ends.result _ (c.close.ensures ∙ ap (drop 1) c.loop-instr.invariant.labels)

pub is_well_typed-returns-clause-back : goal.is_well_typed-returns-clause-back
is_well_typed-returns-clause-back t c =
    let inside = c.in_ok-outer.ensures in
    let beneath = c.ends-ends.ensures.beneath ∙ c.loop-instr.invariant.beneath in
    true_or_not c.ends-ends.result _
    (back c.args.stack.now c.ends-ends.new.self c.leave.new.self c.in_ok-outer.outer beneath c.leave.ensures.items inside.3 c.leave.ensures.base inside.4 c.leave.ensures.bottom inside.5 c.leave.ensures.any_below)

pub is_well_typed-leave-requires : goal.is_well_typed-leave-requires
is_well_typed-leave-requires t c =
    let beneath = c.ends-ends.ensures.beneath ∙ c.loop-instr.invariant.beneath in
    omega (arith, c.args.stack.now.within, c.in_ok-outer.ensures.3, ap length beneath)
