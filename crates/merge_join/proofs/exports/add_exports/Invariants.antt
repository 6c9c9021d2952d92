use Rattle.base_lists.proofs.Common.{◌≡◌, ◌++◌, List, length, map, take}
use Rattle.wasm_tree_spec.specs.Prelude.{Export}
use Rattle.index_remap.specs.Prelude.{new_export}
use Rattle.merge_spec.specs.Prelude.{named_exports}
use Rattle.merge_join.proofs.exports.add_exports.Given as goal

abbrev pub invariant-loop-at : goal.invariant-loop-at
invariant-loop-at l = (before : List Export) → length before ≡ l.fn.first → l.initial.all ≡ named_exports before l.names → l.all ≡ named_exports (before ++ map (new_export l.entries) (take l.at l.exports)) l.names
