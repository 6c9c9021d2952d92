use Rattle.std.proofs.Common.{◌≡◌, take}
use Rattle.split_slots.proofs.types.copy_types.Given as goal

abbrev pub invariant-loop-ty : goal.invariant-loop-ty
invariant-loop-ty l = l.all ≡ take l.ty-index l.types
