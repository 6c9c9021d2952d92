use Rattle.base_lists.proofs.Common.{◌≡◌, Some, slice_get, arith, option_copied, common_steps, found_nothing, found_something}
use Rattle.wasm_tree.specs.Spaces.{memories_of}
use Rattle.wasm_tree.proofs.module.Module.memory_limits.Goals as goal

pub returns-then-left-eq0-clause-none : goal.returns-then-left-eq0-clause-none
returns-then-left-eq0-clause-none c =
    let value : Some c.in-Memory.limits ≡ slice_get (memories_of c.args.self.now) c.args.memory = grind (arith, common_steps) in
    found_something c.in-Memory.limits (memories_of c.args.self.now) c.args.memory value

pub returns-clause-none : goal.returns-clause-none
returns-clause-none c =
    let value : option_copied c.get.result ≡ slice_get (memories_of c.args.self.now) c.args.memory = grind (arith, common_steps) in
    found_nothing c.get.result (memories_of c.args.self.now) c.args.memory value
