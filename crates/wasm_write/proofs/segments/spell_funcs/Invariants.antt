use Rattle.base_lists.proofs.Common.{◌≡◌}
use Rattle.wasm_bytes.specs.Prelude.{u32_text}
use Rattle.wasm_tree_spec.specs.Prelude.{ConstExpr}
use Rattle.base_lists.specs.Every.{Every}
use Rattle.wasm_write_proof.specs.Ranges.{ConstInRange}
use Rattle.wasm_write_spec.specs.PlainValues.{func_of, each_text}
use Rattle.wasm_write.proofs.segments.spell_funcs.Given as goal

abbrev pub invariant-loop-item : goal.invariant-loop-item
invariant-loop-item g l = record {
  text : g.T.Target.preceded l.target (each_text (λ (x : ConstExpr). u32_text (func_of x)) l.item-iterator.iter.rest.now) ≡ g.T.Target.preceded l.initial.target (each_text (λ (x : ConstExpr). u32_text (func_of x)) l.items);
  range : Every ConstInRange l.item-iterator.iter.rest.now → Every ConstInRange l.items;
}
