-- How a pool keeps its blocks: the bytes of each block that was ever taken, whether it is live, and
-- the numbers of the blocks that are not.
use Rattle.std.specs.Prelude.{◌≡◌, ℕ, ◌+◌, ◌<◌, List, [], ◌∷◌, length, Bool, false, Option, Some, None, is_some, cond, count_by, slice_index, slice_index_or}

-- The bytes of each live block.
abbrev pub live_blocks : List Bool → List (List ℕ) → List (Option (List ℕ))
live_blocks [] bs = []
live_blocks (l ∷ ls) [] = []
live_blocks (l ∷ ls) (b ∷ bs) = cond l (Some b) None ∷ live_blocks ls bs

-- There is a flag for each block, and the free numbers are those of all blocks that are not live,
-- each once.
pub record FreeBlocksAreListed (live : List Bool) (blocks : List (List ℕ)) (free : List ℕ) : Type 0 where
  pub many : length live ≡ length blocks
  pub within : (i : ℕ) → i < length free → slice_index free i < length blocks
  pub dead : (i : ℕ) → i < length free → slice_index_or live (slice_index free i) false ≡ false
  pub apart : (i j : ℕ) → i < length free → j < length free → slice_index free i ≡ slice_index free j → i ≡ j
  pub account : count_by is_some (live_blocks live blocks) + length free ≡ length blocks
