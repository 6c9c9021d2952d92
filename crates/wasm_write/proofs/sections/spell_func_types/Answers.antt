use Rattle.wasm_bytes.specs.Prelude.{u32_text}
use Rattle.wasm_tree_spec.specs.Prelude.{Func}
use Rattle.wasm_write_proof.specs.Ranges.{TypeInRange}
use Rattle.wasm_write.proofs.Loops.{spelled_next, range_next}
use Rattle.wasm_write.proofs.sections.spell_func_types.Goals as goal

pub loop-func-preserved : goal.loop-func-preserved
loop-func-preserved g c = record {
  text = spelled_next g.T.Target.preceded g.met.T.Target.joined (λ (f : Func). u32_text f.ty) _ _ _ _ _ _ c.in-Some.ensures.steps c.loop-func.invariant.text c.in_ok-spell_u32.ensures.text;
  range = range_next TypeInRange _ _ _ c.in-Some.ensures.steps c.loop-func.invariant.range c.in_ok-spell_u32.ensures.range;
}
