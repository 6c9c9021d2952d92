use Rattle.std.proofs.Common.{◌≡◌, ◌++◌, map, take}
use Rattle.wasm_tree.specs.declared.module.ImportDesc.TheVariants as im
use Rattle.split_slots.proofs.entities.add_globals.Given as goal

abbrev pub invariant-loop-global : goal.invariant-loop-global
invariant-loop-global l = l.all ≡ l.initial.all ++ map (λ g. im.Global g.ty) (take l.global-index l.globals)
