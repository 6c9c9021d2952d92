use Rattle.std.proofs.Common.{◌≡◌, ◌-◌}
use Rattle.wasm_read_spec.specs.Reading.{each_from, with_front}
use Rattle.wasm_names.specs.Reading.{func_name_at, least_after}
use Rattle.wasm_names.proofs.name_map.read_each_func_name.Given as goal

abbrev pub invariant-loop-i : goal.invariant-loop-i
invariant-loop-i l = each_from func_name_at least_after l.count 0 l.initial.cursor ≡ with_front l.names (each_from func_name_at least_after (l.count - l._i) l.least l.cursor)
