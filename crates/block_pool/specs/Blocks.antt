-- What contracts see of a pool of blocks.
use Rattle.std.specs.Prelude.{◌≡◌, ◌≢◌, ℕ, ◌+◌, List, length, ◌++◌, take, drop, Option, Some, None, is_some, IsSome, count_by, slice_index_or, slice_set, replicate}

-- A pool: the bytes of each live block by its number, how many blocks can be taken without
-- allocating memory, and a number that is greater than the number of each block.
pub record Blocks : Type 0 where
  pub slots : List (Option (List ℕ))
  pub spare : ℕ
  pub numbers : ℕ

-- The bytes of a block, if it is live.
abbrev pub held : Blocks → ℕ → Option (List ℕ)
held p block = slice_index_or p.slots block None

abbrev pub IsLive : Blocks → ℕ → Type 0
IsLive p block = IsSome (held p block)

-- The number of live blocks.
abbrev pub used : Blocks → ℕ
used p = count_by is_some p.slots

-- The bytes of a block of zeros.
abbrev pub zeros : List ℕ
zeros = replicate 4096 0

-- The block has these bytes, or is no longer live if there are none; every other block is
-- unchanged.
pub record Changes (old new : Blocks) (block : ℕ) (bytes : Option (List ℕ)) : Type 0 where
  pub changed : held new block ≡ bytes
  pub others : (other : ℕ) → other ≢ block → held new other ≡ held old other

-- `all`, with `bytes` in place of as many bytes from `at` on.
abbrev pub with_part : List ℕ → ℕ → List ℕ → List ℕ
with_part all at bytes = take at all ++ (bytes ++ drop (at + length bytes) all)

-- The pool with these bytes in a live block.
abbrev pub with_bytes : Blocks → ℕ → List ℕ → Blocks
with_bytes p block bytes = record p { slots = slice_set p.slots block (Some bytes) }

-- `bytes` are written to a part of a live block, and nothing else changes.
pub record WritesPart (old new : Blocks) (block offset : ℕ) (bytes : List ℕ) : Type 0 where
  pub before : List ℕ
  pub there : held old block ≡ Some before
  pub whole : length before ≡ 4096
  pub after : new ≡ with_bytes old block (with_part before offset bytes)
