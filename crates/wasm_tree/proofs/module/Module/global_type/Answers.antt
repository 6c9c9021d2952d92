use Rattle.base_lists.proofs.Common.{ap, length, ◌≡◌, Some, None, slice_get, arith, common_steps, found_nothing, found_something}
use Rattle.wasm_tree.specs.Spaces.{global_of, globals_of}
use Rattle.base_lists.proofs.Found.{found_behind}
use Rattle.wasm_tree.proofs.module.Module.global_type.Goals as goal

pub returns-then-left-eq0-clause-none : goal.returns-then-left-eq0-clause-none
returns-then-left-eq0-clause-none c =
    let value : Some c.in-Global.ty ≡ slice_get (globals_of c.args.self.now) c.args.global = grind (arith, common_steps) in
    found_something c.in-Global.ty (globals_of c.args.self.now) c.args.global value

pub returns-in-Some-clause-value : goal.returns-in-Some-clause-value
returns-in-Some-clause-value c =
    found_behind (λ i. global_of i.desc) c.args.self.now.imports c.loop-import.import-index (λ g. g.ty) c.args.self.now.globals c.loop-import.left _ (Some c.in-Some.global) c.loop-import.invariant (omega (arith, ap length c.as_slice-import-items.ensures)) c.in-Some.ensures.value

pub returns-in-Some-clause-none : goal.returns-in-Some-clause-none
returns-in-Some-clause-none c =
    found_something c.in-Some.global.now.ty (globals_of c.args.self.now) c.args.global (returns-in-Some-clause-value c)

pub returns-in-None-clause-value : goal.returns-in-None-clause-value
returns-in-None-clause-value c =
    found_behind (λ i. global_of i.desc) c.args.self.now.imports c.loop-import.import-index (λ g. g.ty) c.args.self.now.globals c.loop-import.left _ None c.loop-import.invariant (omega (arith, ap length c.as_slice-import-items.ensures)) c.in-None.ensures.value

pub returns-in-None-clause-none : goal.returns-in-None-clause-none
returns-in-None-clause-none c = found_nothing None (globals_of c.args.self.now) c.args.global (returns-in-None-clause-value c)
