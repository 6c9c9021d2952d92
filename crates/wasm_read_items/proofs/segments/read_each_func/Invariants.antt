use Rattle.std.proofs.Common.{◌≡◌, ◌-◌, ◌≤◌, length}
use Rattle.wasm_read_spec.specs.Reading.{each_at, func_item_at, with_front}
use Rattle.wasm_read_items.proofs.segments.read_each_func.Given as goal

abbrev pub invariant-loop-i : goal.invariant-loop-i
invariant-loop-i l = record {
  reads : each_at func_item_at l.count l.initial.cursor ≡ with_front l.items (each_at func_item_at (l.count - l._i) l.cursor);
  left : length l.cursor ≤ length l.initial.cursor;
}
