-- The tests before a write to a memory, and what the write leaves.
use Rattle.std.specs.Prelude.{◌≡◌, ℕ, ◌+◌, ◌-◌, ◌/◌, List, [], ◌∷◌, length, Option, Some, None, min, nat_lt}
use Rattle.block_pool.specs.Pages.{Pages, WritesBytes, size, with_reached}
use Rattle.eval_spec.specs.declared.limits.TheConstants.{MOST_BLOCKS}
use Rattle.eval_spec.specs.declared.stop.Stop.{Stop}
use Rattle.eval_spec.specs.declared.stop.Stop.TheVariants as why
use Rattle.eval_spec.specs.Prelude.{Test, test, too_many_blocks}

-- At most `MOST_BLOCKS` blocks may be written, or all blocks of a smaller memory. So the pages
-- refuse a write exactly when the evaluation stops.
abbrev pub HoldsMost : Pages → Type 0
HoldsMost p = p.most ≡ min MOST_BLOCKS (length p.now.written)

-- The tests of the bounds and of the turns that writing `count` bytes takes, in this order.
abbrev pub bounds_tests : (turns size place count : ℕ) → List Test
bounds_tests turns size place count = test (nat_lt size (place + count)) why.Trap turns ∷ test (nat_lt turns (count / 64)) why.Steps turns ∷ []

-- The tests of `bounds_tests`, and then the test of the number of written blocks.
abbrev pub write_tests : (turns : ℕ) → Pages → (place count : ℕ) → List Test
write_tests turns p place count =
    test (nat_lt (size p) (place + count)) why.Trap turns
    ∷ test (nat_lt turns (count / 64)) why.Steps turns
    ∷ test (too_many_blocks (with_reached place count 0 p.now.written)) why.Memory (turns - count / 64)
    ∷ []

-- The stop of the test that holds, with the turns that it leaves; if none holds, `left` turns are
-- left.
abbrev pub told_of : Option Test → (left : ℕ) → Option Stop × ℕ
told_of None left = (None, left)
told_of (Some t) left = (Some t.stop, t.left)

-- The bytes are written if nothing stops the write; a stop writes nothing.
abbrev pub Wrote : Option Stop → Pages → Pages → (place : ℕ) → List ℕ → Type 0
Wrote None old new place bytes = WritesBytes old new place bytes
Wrote (Some x) old new place bytes = new ≡ old
