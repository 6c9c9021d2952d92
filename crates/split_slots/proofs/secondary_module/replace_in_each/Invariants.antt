use Rattle.base_lists.proofs.Common.{◌≡◌, part}
use Rattle.split_slots.specs.DividedDefinitions.{own_func}
use Rattle.split_slots.proofs.secondary_module.replace_in_each.Given as goal

abbrev pub invariant-loop-at : goal.invariant-loop-at
invariant-loop-at l = l.own ≡ part (own_func l.calls) l.initial.own l.at
