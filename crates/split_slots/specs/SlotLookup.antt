-- Looking up slots in a list with an entry for each function.
use Rattle.std.specs.Prelude.{ℕ, List, Option, None, slice_get, unwrap_or}

-- the slot of a function, if it has one
abbrev pub slot_at : List (Option ℕ) → ℕ → Option ℕ
slot_at slots func = unwrap_or (slice_get slots func) None
