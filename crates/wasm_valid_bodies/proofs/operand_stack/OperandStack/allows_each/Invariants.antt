use Rattle.base_lists.proofs.Common.{◌≡◌, ℕ, true, Some, drop, slice_get}
use Rattle.wasm_valid_bodies.specs.Tracking.{allows_types, allows_all}
use Rattle.wasm_valid_bodies.specs.OperandStack.{stack_of}
use Rattle.wasm_valid_bodies.specs.Labels.{label_list}
use Rattle.wasm_valid_bodies.proofs.operand_stack.OperandStack.allows_each.Given as goal

abbrev pub invariant-loop-label : goal.invariant-loop-label
invariant-loop-label l = record {
  passed : allows_all (label_list l.labels) (stack_of l.self) l.self.any_below l.n (drop l.label-index l.others) ≡ allows_all (label_list l.labels) (stack_of l.self) l.self.any_below l.n l.others;
  marked : (k : ℕ) → slice_get l.seen.items k ≡ Some true → allows_types (stack_of l.self) l.self.any_below l.n (slice_get (label_list l.labels) k) ≡ true;
}
