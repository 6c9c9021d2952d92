use Rattle.base_lists.proofs.Common.{◌≡◌, map, take}
use Rattle.wasm_tree_spec.specs.Prelude.{Call}
use Rattle.merge_join.proofs.starts.calls.Given as goal

abbrev pub invariant-loop-start : goal.invariant-loop-start
invariant-loop-start l = l.body ≡ map Call (take l.start-index l.starts)
