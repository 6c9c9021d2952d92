use Rattle.std.proofs.Common.{◌≡◌, ◌∷◌, drop}
use Rattle.wasm_valid_bodies.specs.OperandStack.{stack_of, beneath}
use Rattle.wasm_valid_bodies.specs.Labels.{label_list}
use Rattle.wasm_valid_bodies.specs.ScopeContexts.{context_of}
use Rattle.wasm_valid_bodies.proofs.Runs.{Rest}
use Rattle.wasm_valid_bodies.proofs.check.+body.Given as goal

abbrev pub invariant-is_well_typed-loop-instr : goal.invariant-is_well_typed-loop-instr
invariant-is_well_typed-loop-instr l = record {
  rest : Rest (context_of l.scope (l.label ∷ label_list l.fn.labels)) l.body l.fn.shape.params.now (stack_of l.stack) l.stack.any_below (drop l.instr-index l.body);
  labels : label_list l.labels ≡ l.label ∷ label_list l.fn.labels;
  beneath : beneath l.stack ≡ l.fn.stack.types.items;
}
