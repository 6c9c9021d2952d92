use Rattle.std.proofs.Common.{◌≡◌, drop, map}
use Rattle.eval_machine.specs.DenotedValues.{are_typed, val_of}
use Rattle.eval_machine.proofs.operands.have_types.Given as goal

abbrev pub invariant-loop-i : goal.invariant-loop-i
invariant-loop-i l = are_typed (drop l.i l.types) (map val_of (drop l.i l.values)) ≡ are_typed l.types (map val_of l.values)
