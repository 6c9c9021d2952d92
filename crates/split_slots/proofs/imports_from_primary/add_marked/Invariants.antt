use Rattle.base_lists.proofs.Common.{◌≡◌, ◌++◌, take, filter_map}
use Rattle.base_lists.specs.Places.{places}
use Rattle.split_slots.specs.ImportList.{import_of}
use Rattle.split_slots.proofs.imports_from_primary.add_marked.Given as goal

abbrev pub invariant-loop-at : goal.invariant-loop-at
invariant-loop-at l = l.imports ≡ l.initial.imports ++ filter_map (import_of l.names l.space l.entities) (places (λ named. named) (take l.at l.marks) 0)
