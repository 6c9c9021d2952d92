use Rattle.base_lists.proofs.Common.{◌∙◌, ap}
use Rattle.wasm_bytes.specs.Prelude.{u32_text}
use Rattle.wasm_tree_spec.specs.Prelude.{ConstExpr}
use Rattle.wasm_write_spec.specs.PlainValues.{func_of}
use Rattle.wasm_write_proof.specs.Ranges.{ConstInRange}
use Rattle.wasm_write.proofs.Loops.{spelled_next, range_next}
use Rattle.wasm_write.proofs.segments.spell_funcs.Goals as goal

pub loop-item-preserved : goal.loop-item-preserved
loop-item-preserved g c = record {
  text = spelled_next g.T.Target.preceded g.met.T.Target.joined (λ (x : ConstExpr). u32_text (func_of x)) _ _ _ _ _ _ c.in-Some.ensures.steps c.loop-item.invariant.text (c.in_ok-spell_u32.ensures.text ∙ ap (λ n. g.T.Target.preceded c.loop-item.target (u32_text n)) c.func_of.ensures.func);
  range = range_next ConstInRange _ _ _ c.in-Some.ensures.steps c.loop-item.invariant.range c.func_of.ensures.range;
}
