use Rattle.std.proofs.Common.{◌≡◌, ◌++◌, map, take}
use Rattle.wasm_tree.specs.declared.module.ImportDesc.TheVariants as im
use Rattle.split_slots.proofs.entities.add_memories.Given as goal

abbrev pub invariant-loop-limits : goal.invariant-loop-limits
invariant-loop-limits l = l.all ≡ l.initial.all ++ map (λ m. im.Memory m) (take l.limits-index l.mems)
