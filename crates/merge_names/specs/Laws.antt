-- Laws about the new names.
use Rattle.std.specs.Prelude.{◌≡◌, ℕ, ◌<◌, ◌^◌, List, length, Some, None}
use Rattle.merge_names.specs.declared.mode.Mode.{Mode}
use Rattle.merge_names.specs.declared.mode.Mode.TheVariants.{Refuse}
use Rattle.merge_names.specs.Names.{new_names, given, conflict, FollowRule, AreDistinct, IsConflict}

-- the new names of each mode follow its rule, if there are fewer than 2^62 names
abbrev pub NamesFollowRules : Type 0
NamesFollowRules = (mode : Mode) (names : List (List ℕ)) → length names < 2 ^ 62 → FollowRule mode names (new_names mode names)

-- if there is no conflict and there are fewer than 2^62 new names, they differ
abbrev pub GivenNamesDiffer : Type 0
GivenNamesDiffer = (mode : Mode) (names : List (List ℕ)) → conflict mode names ≡ None → length (given (new_names mode names)) < 2 ^ 62 → AreDistinct (given (new_names mode names))

-- a conflict is at the first name that repeats an earlier one, and only `Refuse` has one
abbrev pub ConflictsAreFirst : Type 0
ConflictsAreFirst = (mode : Mode) (names : List (List ℕ)) (place : ℕ) → conflict mode names ≡ Some place → (mode ≡ Refuse) × IsConflict names place
