use Rattle.std.proofs.Common.{◌≡◌, take}
use Rattle.wasm_tree.proofs.copy.copy_types.Given as goal

abbrev pub invariant-loop-ty : goal.invariant-loop-ty
invariant-loop-ty l = l.all ≡ take l.ty-index l.types
