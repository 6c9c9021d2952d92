use Rattle.std.proofs.Common.{◌≡◌, ◌++◌, map, take}
use Rattle.split_slots.proofs.types.add_defined.Given as goal

abbrev pub invariant-loop-func : goal.invariant-loop-func
invariant-loop-func l = l.all ≡ l.initial.all ++ map (λ f. f.ty) (take l.func-index l.funcs)
