use Rattle.std.proofs.Common.{◌≡◌, ◌-◌, ◌≤◌, length}
use Rattle.wasm_read_spec.specs.Reading.{each_at, with_front}
use Rattle.wasm_read_items.proofs.vectors.read_each.Given as goal

abbrev pub invariant-loop-i : goal.invariant-loop-i
invariant-loop-i g l = record {
  reads : each_at g.T.Spelled.reading l.count l.initial.cursor ≡ with_front l.items (each_at g.T.Spelled.reading (l.count - l._i) l.cursor);
  count : length l.items ≡ l._i;
  left : length l.cursor ≤ length l.initial.cursor;
}
