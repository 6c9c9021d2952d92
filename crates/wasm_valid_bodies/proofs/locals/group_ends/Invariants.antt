use Rattle.std.proofs.Common.{◌≡◌, ◌+◌, ◌<◌, ◌^◌, ◌++◌, drop}
use Rattle.wasm_tree.specs.Bounds.{declared_count}
use Rattle.wasm_valid_bodies.specs.Groups.{ends_of}
use Rattle.wasm_valid_bodies.proofs.locals.group_ends.Given as goal

abbrev pub invariant-loop-group : goal.invariant-loop-group
invariant-loop-group l = record {
  joined : l.ends.items ++ ends_of l.end (drop l.group-index l.groups) ≡ ends_of l.before l.groups;
  fits : l.end + declared_count (drop l.group-index l.groups) < 2 ^ 32;
}
