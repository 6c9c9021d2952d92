use Rattle.std.proofs.Common.{◌≡◌, ◌++◌, take}
use Rattle.base_lists.specs.Places.{places}
use Rattle.split_spec.specs.FromPrimary.{exports_for_secondary}
use Rattle.split_slots.specs.ExportList.{desc_of}
use Rattle.split_slots.proofs.exports.add_named.Given as goal

abbrev pub invariant-loop-at : goal.invariant-loop-at
invariant-loop-at l = l.exports ≡ l.initial.exports ++ exports_for_secondary l.prefix l.space (desc_of l.space) (places (λ named. named) (take l.at l.marks) 0)
