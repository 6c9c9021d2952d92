use Rattle.wasm_write.proofs.Loops.{spelled_next, range_next}
use Rattle.wasm_write.proofs.plain.spell_each.Goals as goal

pub loop-item-preserved : goal.loop-item-preserved
loop-item-preserved g c = record {
  text = spelled_next g.T.Target.preceded g.met.T.Target.joined g.P.Plain.text _ _ _ _ _ _ c.in-Some.ensures.steps c.loop-item.invariant.text c.in_ok-spell.ensures.text;
  range = range_next g.P.Plain.is_in_range _ _ _ c.in-Some.ensures.steps c.loop-item.invariant.range c.in_ok-spell.ensures.range;
}
