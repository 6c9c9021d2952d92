-- What contracts see of a memory that can take back what was written to it.
use Rattle.std.specs.Prelude.{◌≡◌, ◌≢◌, ◌⊎◌, ℕ, zero, suc, ◌+◌, ◌*◌, ◌/◌, ◌%◌, ◌<◌, ◌≤◌, List, [], ◌∷◌, length, take, drop, Bool, false, ◌&&◌, ◌||◌, nat_lt, Option, Some, None, count_by, slice_index}
use Rattle.std.specs.Prelude.{replicate}
use Rattle.block_pool.specs.Blocks.{with_part}

-- The bytes of a memory, and for each block of 4,096 bytes whether it was written.
pub record Contents : Type 0 where
  pub bytes : List ℕ
  pub written : List Bool

-- A memory: its contents now and at the mark, if one is set; the most blocks that may be written;
-- the number of blocks of its pool, and how many of them are used.
pub record Pages : Type 0 where
  pub now : Contents
  pub mark : Option Contents
  pub most : ℕ
  pub blocks : ℕ
  pub held : ℕ

abbrev pub size : Pages → ℕ
size p = length p.now.bytes

-- The number of blocks of 4,096 bytes for `bytes` bytes.
abbrev pub blocks_of : ℕ → ℕ
blocks_of bytes = (bytes + 4095) / 4096

-- Zero bytes, of which no block was written.
abbrev pub blank : ℕ → Contents
blank bytes = record { bytes = replicate bytes 0; written = replicate (blocks_of bytes) false }

-- The number of blocks that were written.
abbrev pub written_count : Contents → ℕ
written_count c = count_by (λ w. w) c.written

-- The `count` bytes from `at` on.
abbrev pub part : List ℕ → (at count : ℕ) → List ℕ
part bytes at count = take count (drop at bytes)

-- Whether some of the `count` bytes from `at` on are in the block.
abbrev pub reaches : (at count block : ℕ) → Bool
reaches at count block = nat_lt 0 count && (nat_lt at (4096 * block + 4096) && nat_lt (4096 * block) (at + count))

-- The flags of the blocks, counted from `block` on: each block that the bytes reach counts as
-- written too.
abbrev pub with_reached : (at count block : ℕ) → List Bool → List Bool
with_reached at count block [] = []
with_reached at count block (w ∷ ws) = (w || reaches at count block) ∷ with_reached at count (suc block) ws

-- The contents after these bytes are written.
abbrev pub written_over : Contents → ℕ → List ℕ → Contents
written_over c at bytes = record { bytes = with_part c.bytes at bytes; written = with_reached at (length bytes) 0 c.written }

-- The bytes are written, and nothing else changes, except how many blocks of the pool are used; so
-- the memory has as many bytes and blocks as before.
pub record WritesBytes (old new : Pages) (at : ℕ) (bytes : List ℕ) : Type 0 where
  pub now : new.now ≡ written_over old.now at bytes
  pub size : size new ≡ size old
  pub flags : length new.now.written ≡ length old.now.written
  pub mark : new.mark ≡ old.mark
  pub most : new.most ≡ old.most
  pub blocks : new.blocks ≡ old.blocks

-- With the `count` bytes from `at` on, more blocks would be written than may be.
abbrev pub Passes : Pages → (at count : ℕ) → Type 0
Passes p at count = p.most < count_by (λ w. w) (with_reached at count 0 p.now.written)

-- The number of bytes of a load or store.
abbrev pub IsWidth : ℕ → Type 0
IsWidth width = (width ≡ 1) ⊎ ((width ≡ 2) ⊎ ((width ≡ 4) ⊎ (width ≡ 8)))

-- The number that bytes encode in little-endian order (WebAssembly Core 2.0, section 4.4.7).
abbrev pub little : List ℕ → ℕ
little [] = 0
little (b ∷ bs) = b + 256 * little bs

-- The `count` lowest bytes of a number, in little-endian order.
abbrev pub little_bytes : ℕ → ℕ → List ℕ
little_bytes zero n = []
little_bytes (suc count) n = n % 256 ∷ little_bytes count (n / 256)

-- `at` is the place of the first nonzero byte that is at `from` or later.
pub record IsNextNonzero (bytes : List ℕ) (from at : ℕ) : Type 0 where
  pub behind : from ≤ at
  pub inside : at < length bytes
  pub nonzero : slice_index bytes at ≢ 0
  pub before : (k : ℕ) → from ≤ k → k < at → slice_index bytes k ≡ 0

-- No byte at `from` or later is nonzero.
abbrev pub IsZeroFrom : List ℕ → ℕ → Type 0
IsZeroFrom bytes from = (k : ℕ) → from ≤ k → slice_index bytes k ≡ 0

-- The bytes and the written blocks are those of the mark, and no mark is set.
pub record RollsBack (old new : Pages) : Type 0 where
  pub back : old.mark ≡ Some new.now
  pub size : size new ≡ size old
  pub cleared : new.mark ≡ None
  pub most : new.most ≡ old.most
  pub blocks : new.blocks ≡ old.blocks
  pub held : new.held ≡ written_count new.now

-- The bytes and the written blocks are unchanged, and no mark is set.
pub record Commits (old new : Pages) : Type 0 where
  pub now : new.now ≡ old.now
  pub size : size new ≡ size old
  pub cleared : new.mark ≡ None
  pub most : new.most ≡ old.most
  pub blocks : new.blocks ≡ old.blocks
  pub held : new.held ≡ written_count new.now

-- The `count` bytes from `at` on can be written.
abbrev pub HasRoomFor : Pages → (at count : ℕ) → Type 0
HasRoomFor p at count = count_by (λ w. w) (with_reached at count 0 p.now.written) ≤ p.most

-- All bytes from `from` up to `to` are zero.
abbrev pub IsZeroTo : List ℕ → (from to : ℕ) → Type 0
IsZeroTo bytes from to = (k : ℕ) → from ≤ k → k < to → slice_index bytes k ≡ 0
