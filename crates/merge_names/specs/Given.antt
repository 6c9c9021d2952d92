-- What the contracts say about names as texts.
use Rattle.std.specs.Prelude.{◌≡◌, ℕ, List, map, Option, Some}
use denote.Ref.{Bor}
use Rattle.merge_names.specs.declared.fault.NameFault.{NameFault}
use Rattle.merge_names.specs.declared.fault.NameFault.TheVariants.{Conflict, NoMemory}

abbrev pub texts : List (Bor (List ℕ)) → List (List ℕ)
texts = map (λ n. n.now)

-- the fault has the place of this conflict, or says that memory ran out
abbrev pub IsConflictOf : NameFault → Option ℕ → Type 0
IsConflictOf (Conflict place) conflict = conflict ≡ Some place
IsConflictOf NoMemory conflict = Unit {0}
