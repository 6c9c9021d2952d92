use Rattle.wasm_tree_spec.specs.Prelude.{Func, uses_data}
use Rattle.wasm_write_spec.specs.PlainCode.{entry_text}
use Rattle.wasm_write_proof.specs.Ranges.{CodeInRange}
use Rattle.wasm_write.proofs.Loops.{any_next, range_next, spelled_next}
use Rattle.wasm_write.proofs.sections.spell_entries.Goals as goal

pub loop-func-preserved : goal.loop-func-preserved
loop-func-preserved g c = record {
  text = spelled_next g.T.Target.preceded g.met.T.Target.joined entry_text _ _ _ _ _ _ c.in-Some.ensures.steps c.loop-func.invariant.text c.in_ok-spell_entry.ensures.text;
  uses = any_next (λ (f : Func). uses_data f.body) _ _ _ _ _ _ c.in-Some.ensures.steps c.loop-func.invariant.uses c.in_ok-spell_entry.ensures.uses;
  range = range_next CodeInRange _ _ _ c.in-Some.ensures.steps c.loop-func.invariant.range c.in_ok-spell_entry.ensures.range;
}
