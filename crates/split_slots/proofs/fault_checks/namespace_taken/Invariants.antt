use Rattle.base_lists.proofs.Common.{◌≡◌, drop, bytes_eq}
use Rattle.base_lists.specs.Places.{first_place}
use Rattle.split_slots.proofs.fault_checks.namespace_taken.Given as goal

abbrev pub invariant-loop-at : goal.invariant-loop-at
invariant-loop-at l = first_place (λ i. bytes_eq i.«module» l.fn.namespace) l.imports 0 ≡ first_place (λ i. bytes_eq i.«module» l.fn.namespace) (drop l.at l.imports) l.at
