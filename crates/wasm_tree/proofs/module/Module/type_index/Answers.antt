use Rattle.std.proofs.Common.{ap, length, Some, None, arith}
use Rattle.wasm_tree.specs.Spaces.{func_of}
use Rattle.base_lists.proofs.Found.{found_behind}
use Rattle.wasm_tree.proofs.module.Module.type_index.Goals as goal

pub returns-in-Some : goal.returns-in-Some
returns-in-Some c = record {
  value = found_behind (λ i. func_of i.desc) c.args.self.now.imports c.loop-import.import-index (λ f. f.ty) c.args.self.now.funcs c.loop-import.left _ (Some c.in-Some.func) c.loop-import.invariant (omega (arith, ap length c.as_slice-import-items.ensures)) c.in-Some.ensures.value;
}

pub returns-in-None : goal.returns-in-None
returns-in-None c = record {
  value = found_behind (λ i. func_of i.desc) c.args.self.now.imports c.loop-import.import-index (λ f. f.ty) c.args.self.now.funcs c.loop-import.left _ None c.loop-import.invariant (omega (arith, ap length c.as_slice-import-items.ensures)) c.in-None.ensures.value;
}
