-- What the table of blocks and the pool represent together.
use Rattle.std.specs.Prelude.{◌≡◌, ◌⊎◌, ℕ, ◌+◌, ◌*◌, ◌/◌, ◌%◌, ◌^◌, ◌≤◌, List, [], length, ◌<◌, map, Bool, true, false, Option, Some, None, is_some, unwrap_or, count_by, slice_index, slice_index_or}
use Rattle.std.specs.Prelude.{slice_set, Contains, vec_capacity, if◌then◌else◌}
use Rattle.base_lists.specs.Places.{numbers}
use Rattle.block_pool.specs.Blocks.{Blocks, held, IsLive, used}
use Rattle.block_pool.specs.Pages.{Contents, Pages, blocks_of}
use Rattle.block_pool.specs.declared.table.Slot.{Slot}
use Rattle.block_pool.specs.declared.table.Slot.TheVariants.{Absent, Kept, New, Changed}
use Rattle.block_pool.specs.declared.table.Table.{Table}

-- The block of the pool that has the present bytes.
abbrev pub present : Slot → Option ℕ
present Absent = None
present (Kept b) = Some b
present (New b) = Some b
present (Changed b older) = Some b

-- The block of the pool that has the bytes as they were at the mark.
abbrev pub before : Slot → Option ℕ
before Absent = None
before (Kept b) = Some b
before (New b) = None
before (Changed b older) = Some older

-- The block of the pool that is kept only for the mark.
abbrev pub older : Slot → Option ℕ
older (Changed b old) = Some old
older _ = None

-- Whether the block was written since the mark.
abbrev pub is_changed : Slot → Bool
is_changed (New b) = true
is_changed (Changed b older) = true
is_changed _ = false

abbrev pub is_present : Slot → Bool
is_present s = is_some (present s)

abbrev pub has_older : Slot → Bool
has_older s = is_some (older s)

abbrev pub slot_at : List Slot → ℕ → Slot
slot_at slots k = slice_index_or slots k Absent

-- A byte of a block; zero if there is no block.
abbrev pub byte_in : Blocks → Option ℕ → ℕ → ℕ
byte_in pool None offset = 0
byte_in pool (Some b) offset = slice_index (unwrap_or (held pool b) []) offset

module _ (pool : Blocks) (slots : List Slot) (which : Slot → Option ℕ) where
  abbrev pub byte_at : ℕ → ℕ
  byte_at at = byte_in pool (which (slot_at slots (at / 4096))) (at % 4096)

  -- The contents of `size` bytes, each from the block that the table names for it.
  abbrev pub contents : ℕ → Contents
  contents size = record { bytes = map byte_at (numbers 0 size); written = map (λ s. is_some (which s)) slots }

-- The memory that a table represents, as contracts see it.
abbrev pub pages_of : Table → Pages
pages_of t = record {
  now = contents t.pool t.slots.items present t.size;
  mark = if t.marked then Some (contents t.pool t.slots.items before t.size) else None;
  most = t.most;
  blocks = used t.pool + t.pool.spare;
  held = used t.pool;
}

-- The slot names the block.
abbrev pub NamesBlock : Slot → ℕ → Type 0
NamesBlock s b = (present s ≡ Some b) ⊎ (older s ≡ Some b)

-- Each block that the table names is live and is named once.
pub record Owns (pool : Blocks) (slots : List Slot) : Type 0 where
  pub live : (k b : ℕ) → NamesBlock (slot_at slots k) b → IsLive pool b
  pub once : (j k b : ℕ) → NamesBlock (slot_at slots j) b → NamesBlock (slot_at slots k) b → j ≡ k
  pub apart : (k b : ℕ) → present (slot_at slots k) ≡ Some b → older (slot_at slots k) ≡ Some b → ⊥

-- The invariant of a table: the blocks that it names are its own, its counts are right, and
-- `changed` lists each block that was written since the mark.
pub record IsSound (t : Table) : Type 0 where
  pub size : t.size ≤ 2 ^ 32
  pub slots : length t.slots.items ≡ blocks_of t.size
  pub numbers : t.pool.numbers ≤ 2 ^ 32
  pub owns : Owns t.pool t.slots.items
  pub written : t.written ≡ count_by is_present t.slots.items
  pub most : t.written ≤ t.most
  pub account : used t.pool ≡ t.written + count_by has_older t.slots.items
  pub room : 2 * t.most ≤ used t.pool + t.pool.spare
  pub listed : (k : ℕ) → is_changed (slot_at t.slots.items k) ≡ true → Contains t.changed.items k
  pub within : (k : ℕ) → Contains t.changed.items k → k < length t.slots.items
  pub few : length t.changed.items ≤ count_by is_changed t.slots.items
  pub capacity : t.most ≤ vec_capacity t.changed
  pub unmarked : t.marked ≡ false → t.changed.items ≡ []

-- The block counts as written, and its bytes are unchanged.
pub record Claims (old new : Table) (block : ℕ) : Type 0 where
  pub bytes : (pages_of new).now.bytes ≡ (pages_of old).now.bytes
  pub written : (pages_of new).now.written ≡ slice_set (pages_of old).now.written block true
  pub mark : (pages_of new).mark ≡ (pages_of old).mark
  pub blocks : (pages_of new).blocks ≡ (pages_of old).blocks

-- What writing does not change in a table.
pub record IsFixed (old new : Table) : Type 0 where
  pub size : new.size ≡ old.size
  pub most : new.most ≡ old.most
  pub marked : new.marked ≡ old.marked
  pub slots : length new.slots.items ≡ length old.slots.items

-- A block that was written since the mark is taken back: the contents of the mark are unchanged,
-- and one block fewer is listed.
pub record TakesBack (old new : Table) : Type 0 where
  pub mark : (pages_of new).mark ≡ (pages_of old).mark
  pub blocks : (pages_of new).blocks ≡ (pages_of old).blocks
  pub fewer : length new.changed.items + 1 ≡ length old.changed.items

-- A block that was written since the mark is kept: the present contents are unchanged, and one
-- block fewer is listed.
pub record Settles (old new : Table) : Type 0 where
  pub now : (pages_of new).now ≡ (pages_of old).now
  pub blocks : (pages_of new).blocks ≡ (pages_of old).blocks
  pub fewer : length new.changed.items + 1 ≡ length old.changed.items

-- These are the bytes of a block of the memory.
pub record IsBlock (t : Table) (number : ℕ) (bytes : List ℕ) : Type 0 where
  pub whole : length bytes ≡ 4096
  pub same : (i : ℕ) → i < 4096 → 4096 * number + i < t.size → slice_index bytes i ≡ slice_index (pages_of t).now.bytes (4096 * number + i)

-- A block of the memory has only zero bytes.
abbrev pub IsZeroBlock : Table → ℕ → Type 0
IsZeroBlock t number = (i : ℕ) → i < 4096 → 4096 * number + i < t.size → slice_index (pages_of t).now.bytes (4096 * number + i) ≡ 0
