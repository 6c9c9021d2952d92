use Rattle.base_lists.proofs.Common.{◌≡◌, map, ◌||◌, ◌-◌, ◌+◌}
use Rattle.wasm_tree_spec.specs.Prelude.{any_uses_data}
use Rattle.wasm_read_spec.specs.Prelude.{code_in, untyped, each_from, with_front, entry_at, next_func}
use Rattle.wasm_read.proofs.codes.read_entries.Given as goal

abbrev pub invariant-loop-i : goal.invariant-loop-i
invariant-loop-i l = record {
  reads : each_from (entry_at l.many l.section) next_func l.count l.first l.initial.cursor ≡ with_front (map code_in l.codes) (each_from (entry_at l.many l.section) next_func (l.count - l._i) l.func l.cursor);
  no_types : map untyped (map code_in l.codes) ≡ l.codes;
  number : l.func ≡ l.first + l._i;
  uses : l.pile.uses_data ≡ (l.initial.pile.uses_data || any_uses_data l.codes);
}
