use Rattle.std.proofs.Common.{◌≡◌, take}
use Rattle.split_slots.specs.DividedDefinitions.{own_funcs}
use Rattle.split_slots.proofs.DividedFunctions.{parted_to}
use Rattle.split_slots.proofs.function_division.part_funcs.Given as goal

abbrev pub invariant-loop-at : goal.invariant-loop-at
invariant-loop-at l = record {
  left : l.funcs ≡ parted_to l.types l.calls l.first l.initial.funcs l.at;
  own : l.own ≡ own_funcs l.calls l.first (take l.at l.initial.funcs);
}
