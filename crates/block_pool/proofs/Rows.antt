-- Small memories, computed: stores and loads, the blocks that a range reaches, room for a store,
-- and a rollback.
use Rattle.std.proofs.Common.{◌≡◌, ℕ, [], ◌∷◌, Option, Some, None, true, false, slice_index, refl, ap, arith}
use Rattle.std.specs.Prelude.{unwrap_or}
use Rattle.block_pool.specs.Pages.{Contents, Pages, RollsBack, Passes, HasRoomFor, blank, part, little, little_bytes, with_reached, written_over}

-- Sixteen zero bytes, with the four bytes of 0x04030201 stored at address 3.
abbrev stored : Contents
stored = written_over (blank 16) 3 (little_bytes 4 67305985)

stored_bytes : stored.bytes ≡ 0 ∷ 0 ∷ 0 ∷ 1 ∷ 2 ∷ 3 ∷ 4 ∷ 0 ∷ 0 ∷ 0 ∷ 0 ∷ 0 ∷ 0 ∷ 0 ∷ 0 ∷ 0 ∷ []
stored_bytes = refl

stored_blocks : stored.written ≡ true ∷ []
stored_blocks = refl

loaded : little (part stored.bytes 3 4) ≡ 67305985
loaded = refl

-- The two bytes at address 2 are 0x0100.
loaded_before : little (part stored.bytes 2 2) ≡ 256
loaded_before = refl

-- Four bytes across the end of the first block write the first two blocks, and not the third.
both : with_reached 4094 4 0 (false ∷ false ∷ false ∷ []) ≡ true ∷ true ∷ false ∷ []
both = refl

-- Four bytes before the end of the first block write only the first, and four bytes after it only
-- the second.
first : with_reached 4092 4 0 (false ∷ false ∷ []) ≡ true ∷ false ∷ []
first = refl

second : with_reached 4096 4 0 (false ∷ false ∷ []) ≡ false ∷ true ∷ []
second = refl

-- No bytes write no block.
nothing : with_reached 4094 0 0 (false ∷ false ∷ []) ≡ false ∷ false ∷ []
nothing = refl

-- A memory in which one block may be written, and one was.
abbrev full : Pages
full = record { now = record { bytes = []; written = true ∷ false ∷ [] }; mark = None; most = 1; blocks = 2; held = 1 }

refused : Passes full 4094 4
refused = omega arith

again : HasRoomFor full 4092 4
again = omega arith

-- A rollback restores the bytes and the blocks of the mark, and removes the mark.
abbrev marked : Pages
marked = record { now = stored; mark = Some (blank 16); most = 1; blocks = 2; held = 1 }

abbrev back : Pages
back = record { now = blank 16; mark = None; most = 1; blocks = 2; held = 0 }

rolled_back : RollsBack marked back
rolled_back = record { back = refl; size = refl; cleared = refl; most = refl; blocks = refl; held = refl }

other_than_one : (n : ℕ) → 0 ≡ n → n ≡ 1 → ⊥
other_than_one n e f = omega arith

-- A rollback does not keep bytes that were written since the mark.
kept : RollsBack marked (record back { now = stored; held = 1 }) → ⊥
kept r = other_than_one (slice_index stored.bytes 3) (ap (λ (o : Option Contents). slice_index (unwrap_or o (blank 0)).bytes 3) r.back) refl
