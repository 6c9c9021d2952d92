use Rattle.std.proofs.Common.{◌≡◌, ◌++◌, map, take}
use Rattle.wasm_tree.specs.Spaces.{imported_funcs}
use Rattle.wasm_valid.proofs.spaces.func_types.Given as goal

abbrev pub invariant-loop-func : goal.invariant-loop-func
invariant-loop-func l = l.all.items ≡ imported_funcs l.module.imports ++ map (λ f. f.ty) (take l.func-index l.func-items)
