use Rattle.base_lists.proofs.Common.{◌≡◌, ◌-◌, ◌≤◌, length}
use Rattle.wasm_tree_spec.specs.Prelude.{limit, Locals}
use Rattle.wasm_read_spec.specs.Prelude.{each_from, local_at, with_group, with_front}
use Rattle.wasm_read_items.proofs.entry.read_groups.Given as goal

abbrev pub invariant-loop-i : goal.invariant-loop-i
invariant-loop-i l = record {
  reads : each_from local_at with_group l.count 0 l.initial.cursor ≡ with_front l.groups (each_from local_at with_group (l.count - l._i) l.sum l.cursor);
  left : length l.cursor ≤ length l.initial.cursor;
  few : l.sum ≤ limit Locals;
}
