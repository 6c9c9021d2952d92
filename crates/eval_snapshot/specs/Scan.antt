-- Memories as they are scanned from a place on.
use Rattle.std.specs.Prelude.{◌≡◌, ℕ, ◌+◌, ◌<◌, ◌≤◌, List, ◌∷◌, drop, length}
use Rattle.base_lists.specs.Places.{places}
use Rattle.eval_snapshot_spec.specs.Contents.{is_nonzero, stretches_from, stretches_over}

-- The places of the nonzero bytes from `from` on.
abbrev pub nonzero_from : List ℕ → ℕ → List ℕ
nonzero_from bytes from = places is_nonzero (drop from bytes) from

-- The segment that begins at `first` ends at `last`, and the segments of the bytes after `last`
-- follow it.
pub record IsStretch (bytes : List ℕ) (first last : ℕ) : Type 0 where
  pub ordered : first ≤ last
  pub inside : last < length bytes
  pub is : stretches_from first first (nonzero_from bytes (first + 1)) ≡ record { first = first; last = last } ∷ stretches_over (nonzero_from bytes (last + 1))
