use Rattle.std.proofs.Common.{◌≡◌, take}
use Rattle.wasm_tree.proofs.copy.copy_elems.Given as goal

abbrev pub invariant-loop-elem : goal.invariant-loop-elem
invariant-loop-elem l = l.all ≡ take l.elem-index l.elems
