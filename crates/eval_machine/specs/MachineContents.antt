-- What can be read of a machine.
use Rattle.std.specs.Prelude.{ℕ, ◌<◌, Option, Some, None}
use Rattle.block_pool.specs.Pages.{Pages, size}

-- The memory exists and has a byte `at`.
abbrev pub HasByte : ℕ → Option Pages → Type 0
HasByte at (Some p) = at < size p
HasByte at None = ⊥
