use Rattle.base_lists.proofs.Common.{◌≡◌}
use Rattle.wasm_bytes.specs.Prelude.{u32_text}
use Rattle.wasm_tree_spec.specs.Prelude.{Func}
use Rattle.base_lists.specs.Every.{Every}
use Rattle.wasm_write_proof.specs.Ranges.{TypeInRange}
use Rattle.wasm_write_spec.specs.PlainValues.{each_text}
use Rattle.wasm_write.proofs.sections.spell_func_types.Given as goal

abbrev pub invariant-loop-func : goal.invariant-loop-func
invariant-loop-func g l = record {
  text : g.T.Target.preceded l.target (each_text (λ (f : Func). u32_text f.ty) l.func-iterator.iter.rest.now) ≡ g.T.Target.preceded l.initial.target (each_text (λ (f : Func). u32_text f.ty) l.funcs);
  range : Every TypeInRange l.func-iterator.iter.rest.now → Every TypeInRange l.funcs;
}
