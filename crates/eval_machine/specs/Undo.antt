-- What a machine notes of globals and data segments before it changes them, and what these were at the mark.
use Rattle.std.specs.Prelude.{◌≡◌, ℕ, ◌<◌, List, [], ◌∷◌, length, Bool, true, false, cond, nat_eq, Option, Some, None, IsSome, slice_get}
use Rattle.std.specs.Option.{option_or}
use Rattle.base_lists.specs.Members.{is_among}
use Rattle.eval_machine.specs.declared.undo.UndoLog.{UndoLog}
use Rattle.eval_machine.specs.declared.undo.EarlierGlobal.{EarlierGlobal}
use Rattle.eval_machine.specs.declared.globals.GlobalSlot.{GlobalSlot}

-- ---- globals ----

-- What was noted first of the global; `None` if it was not noted.
abbrev pub noted_global : List EarlierGlobal → (global : ℕ) → Option GlobalSlot
noted_global [] n = None
noted_global (e ∷ es) n = cond (nat_eq n e.global) (Some e.before) (noted_global es n)

-- The global at the mark: as it was noted, or else as it is.
abbrev pub global_before : List EarlierGlobal → (now : List GlobalSlot) → (global : ℕ) → Option GlobalSlot
global_before es now n = option_or (noted_global es n) (slice_get now n)

-- `gs` are the globals at the mark.
pub record AreGlobalsBefore (es : List EarlierGlobal) (now gs : List GlobalSlot) : Type 0 where
  pub many : length gs ≡ length now
  pub each : (n : ℕ) → slice_get gs n ≡ global_before es now n

-- The global is noted, if it is there.
abbrev pub IsNoted : List EarlierGlobal → List GlobalSlot → (global : ℕ) → Type 0
IsNoted es gs n = n < length gs → IsSome (noted_global es n)

-- Each global whose flag is set is noted.
abbrev pub FlagsAreRight : List EarlierGlobal → (flags : List Bool) → Type 0
FlagsAreRight es flags = (n : ℕ) → slice_get flags n ≡ Some true → IsSome (noted_global es n)

-- ---- data segments ----

-- Whether the segment was dropped at the mark; `dropped` has the segments that were dropped since.
abbrev pub segment_before : (dropped : List ℕ) → (now : List Bool) → (segment : ℕ) → Option Bool
segment_before ds now n = cond (is_among ds n) (Some false) (slice_get now n)

-- `flags` say which segments were dropped at the mark.
pub record AreSegmentsBefore (ds : List ℕ) (now flags : List Bool) : Type 0 where
  pub many : length flags ≡ length now
  pub each : (n : ℕ) → slice_get flags n ≡ segment_before ds now n

-- ---- both ----

-- The new notes, with the new globals and flags, give the same globals and data segments at the
-- mark as the old ones did. Flags of notes that were right stay right.
pub record UndoStays (old : UndoLog) (globals_old : List GlobalSlot) (flags_old : List Bool) (new : UndoLog) (globals_new : List GlobalSlot) (flags_new : List Bool) : Type 0 where
  pub flags : FlagsAreRight old.globals old.noted → FlagsAreRight new.globals new.noted
  pub globals : (n : ℕ) → global_before new.globals globals_new n ≡ global_before old.globals globals_old n
  pub segments : (n : ℕ) → segment_before new.dropped flags_new n ≡ segment_before old.dropped flags_old n
