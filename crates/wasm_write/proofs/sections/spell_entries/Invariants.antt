use Rattle.std.proofs.Common.{◌≡◌, ◌||◌}
use Rattle.wasm_tree.specs.DataUse.{any_uses_data}
use Rattle.base_lists.specs.Every.{Every}
use Rattle.wasm_write_proof.specs.Ranges.{CodeInRange}
use Rattle.wasm_write_spec.specs.PlainCode.{entry_text}
use Rattle.wasm_write_spec.specs.PlainValues.{each_text}
use Rattle.wasm_write.proofs.sections.spell_entries.Given as goal

abbrev pub invariant-loop-func : goal.invariant-loop-func
invariant-loop-func g l = record {
  text : g.T.Target.preceded l.target (each_text entry_text l.func-iterator.iter.rest.now) ≡ g.T.Target.preceded l.initial.target (each_text entry_text l.funcs);
  uses : (any_uses_data l.func-iterator.iter.rest.now || l.uses) ≡ (any_uses_data l.funcs || l.initial.uses);
  range : Every CodeInRange l.func-iterator.iter.rest.now → Every CodeInRange l.funcs;
}
