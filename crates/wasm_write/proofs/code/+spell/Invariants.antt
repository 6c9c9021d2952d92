use Rattle.std.proofs.Common.{◌≡◌, ◌||◌, true}
use Rattle.wasm_tree.specs.DataUse.{uses_data}
use Rattle.wasm_write_proof.specs.Ranges.{all_in_range}
use Rattle.wasm_write_spec.specs.PlainCode.{instr_text}
use Rattle.wasm_write_spec.specs.PlainValues.{each_text}
use Rattle.wasm_write.proofs.code.+spell.Given as goal

abbrev pub invariant-spell_instrs-loop-instr : goal.invariant-spell_instrs-loop-instr
invariant-spell_instrs-loop-instr g l = record {
  text : g.T.Target.preceded l.target (each_text instr_text l.instr-iterator.iter.rest.now) ≡ g.T.Target.preceded l.initial.target (each_text instr_text l.instrs);
  uses : (uses_data l.instr-iterator.iter.rest.now || l.uses) ≡ (uses_data l.instrs || l.initial.uses);
  range : all_in_range l.instr-iterator.iter.rest.now ≡ true → all_in_range l.instrs ≡ true;
}
