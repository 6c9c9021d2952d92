-- What no instruction changes in a machine, and no call while it is under way.
use Rattle.std.specs.Prelude.{◌≡◌, ◌≤◌, length, map, Option, Some, None}
use Rattle.block_pool.specs.Pages.{Pages, size}
use Rattle.eval_machine.specs.declared.kept.Kept.{Kept}
use Rattle.eval_machine.specs.Undo.{UndoStays}
use Rattle.eval_machine.specs.DenotedValues.{is_of_import}

-- The size, the number of blocks, the most that may be written and the mark are unchanged.
pub record PagesStay (old new : Pages) : Type 0 where
  pub size : size new ≡ size old
  pub blocks : length new.now.written ≡ length old.now.written
  pub most : new.most ≡ old.most
  pub mark : new.mark ≡ old.mark

abbrev pub MemoryStays : Option Pages → Option Pages → Type 0
MemoryStays None None = Unit {0}
MemoryStays (Some p) (Some q) = PagesStay p q
MemoryStays _ _ = ⊥

-- The slots, the import counts, the number of data segments, the types of globals, which of them
-- are imported, and the size and the mark of the memory are unchanged. The turns that are left do
-- not increase. The undo log still says what globals and data segments were at the mark.
pub record Stays (old new : Kept) : Type 0 where
  pub slots : new.slots ≡ old.slots
  pub imports : new.imports ≡ old.imports
  pub dropped : length new.dropped ≡ length old.dropped
  pub types : map (λ g. g.ty) new.globals ≡ map (λ g. g.ty) old.globals
  pub imported : map (λ g. is_of_import g.standing) new.globals ≡ map (λ g. is_of_import g.standing) old.globals
  pub memory : MemoryStays old.memory new.memory
  pub turns : new.turns ≤ old.turns
  pub undo : UndoStays old.undo old.globals old.dropped new.undo new.globals new.dropped
