-- The mark in a memory, if there is one, before and after the call of a constructor, and that nothing is noted at a mark.
use Rattle.std.specs.Prelude.{◌≡◌, [], Option, Some, None, IsSome}
use Rattle.block_pool.specs.Pages.{Pages, Commits, RollsBack}
use Rattle.eval_machine.specs.declared.undo.UndoLog.{UndoLog}
use Rattle.eval_machine.specs.Undo.{FlagsAreRight}

abbrev pub IsMarked : Option Pages → Type 0
IsMarked (Some p) = IsSome p.mark
IsMarked None = Unit {0}

-- A mark is set at the present contents; nothing else changes.
abbrev pub AreMarked : (old new : Option Pages) → Type 0
AreMarked None None = Unit {0}
AreMarked (Some p) (Some q) = q ≡ record p { mark = Some p.now }
AreMarked _ _ = ⊥

-- The mark is given up, and what was written stays.
abbrev pub KeepsMarked : (old new : Option Pages) → Type 0
KeepsMarked None None = Unit {0}
KeepsMarked (Some p) (Some q) = Commits p q
KeepsMarked _ _ = ⊥

-- The memory is taken back to the mark.
abbrev pub RollsMarked : (old new : Option Pages) → Type 0
RollsMarked None None = Unit {0}
RollsMarked (Some p) (Some q) = RollsBack p q
RollsMarked _ _ = ⊥

-- Nothing was noted since the mark.
pub record NothingToUndo (c : UndoLog) : Type 0 where
  pub flags : FlagsAreRight c.globals c.noted
  pub globals : c.globals ≡ []
  pub dropped : c.dropped ≡ []
