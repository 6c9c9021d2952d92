use Rattle.std.proofs.Common.{◌≡◌}
use Rattle.base_lists.specs.Every.{Every}
use Rattle.wasm_write_spec.specs.PlainValues.{each_text}
use Rattle.wasm_write.proofs.plain.spell_each.Given as goal

abbrev pub invariant-loop-item : goal.invariant-loop-item
invariant-loop-item g l = record {
  text : g.T.Target.preceded l.target (each_text g.P.Plain.text l.item-iterator.iter.rest.now) ≡ g.T.Target.preceded l.initial.target (each_text g.P.Plain.text l.items);
  range : Every g.P.Plain.is_in_range l.item-iterator.iter.rest.now → Every g.P.Plain.is_in_range l.items;
}
