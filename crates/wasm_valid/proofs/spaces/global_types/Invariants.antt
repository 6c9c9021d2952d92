use Rattle.std.proofs.Common.{◌≡◌, ◌++◌, map, take}
use Rattle.wasm_tree.specs.Spaces.{imported_globals}
use Rattle.wasm_valid.proofs.spaces.global_types.Given as goal

abbrev pub invariant-loop-global : goal.invariant-loop-global
invariant-loop-global l = l.all.items ≡ imported_globals l.module.imports ++ map (λ g. g.ty) (take l.global-index l.global-items)
