-- How a pool changes while the bytes of one of its blocks are borrowed.
use Rattle.std.specs.Prelude.{ℕ, List}
use Rattle.std.specs.Borrow.{Lends, MutBor, Fml, Array, u8}
use Rattle.block_pool.specs.Blocks.{Blocks, with_bytes}
use Rattle.block_pool.specs.contracts.pool.Pool.{the_row}

-- The pool ends with the last bytes of the borrow `r` in that block.
abbrev pub LendsBlock : MutBor Blocks → ℕ → MutBor (List ℕ) → Fml
LendsBlock p block r = Lends the_row (Array u8 0) p r (with_bytes p.now block)
