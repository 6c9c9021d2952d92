-- A memory's contents as active data segments (WebAssembly Core 2.0, sections 2.5.8 and 4.5.4).
use Rattle.std.specs.Prelude.{ℕ, suc, ◌-◌, List, [], ◌∷◌, map, Bool, not, cond, nat_eq, nat_lt}
use Rattle.base_lists.specs.Places.{places}
use Rattle.block_pool.specs.Pages.{part}
use Rattle.wasm_tree.specs.declared.module.ConstExpr.TheVariants as const
use Rattle.wasm_tree.specs.declared.module.DataMode.TheVariants as data'
use Rattle.wasm_tree_spec.specs.Prelude.{DataSeg}
use Rattle.wasm_num.specs.Operations.{signed}

abbrev pub is_nonzero : ℕ → Bool
is_nonzero byte = not (nat_eq byte 0)

-- The places of the nonzero bytes, in ascending order.
abbrev pub nonzero_places : List ℕ → List ℕ
nonzero_places bytes = places is_nonzero bytes 0

-- Whether fewer than 256 zero bytes lie between a nonzero byte and the next one. If so, both are in
-- one segment; otherwise one segment ends with the first and another begins with the second.
abbrev pub is_joined : (place next : ℕ) → Bool
is_joined place next = nat_lt (next - suc place) 256

-- The places of the first and of the last byte of a segment.
pub record Stretch : Type 0 where
  pub first : ℕ
  pub last : ℕ

-- The segment that begins at `first` and includes `last`, and the segments after it; the list has
-- the places of the nonzero bytes after `last`.
abbrev pub stretches_from : (first last : ℕ) → List ℕ → List Stretch
stretches_from first last [] = record { first = first; last = last } ∷ []
stretches_from first last (next ∷ rest) = cond (is_joined last next) (stretches_from first next rest) (record { first = first; last = last } ∷ stretches_from next next rest)

abbrev pub stretches_over : List ℕ → List Stretch
stretches_over [] = []
stretches_over (place ∷ rest) = stretches_from place place rest

-- The segments of a memory in ascending order; each begins and ends with a nonzero byte.
abbrev pub stretches : List ℕ → List Stretch
stretches bytes = stretches_over (nonzero_places bytes)

-- The data segment of a stretch. The offset is unsigned, but its `i32.const` is signed (section
-- 4.3.2), so that it is negative from 2 ^ 31 on.
abbrev pub stretch_segment : (memory : ℕ) → List ℕ → Stretch → DataSeg
stretch_segment memory bytes s = record { mode = data'.Active memory (const.I32 (signed 32 s.first)); bytes = part bytes s.first (suc s.last - s.first) }

-- The contents of the memory with this index, as data segments.
abbrev pub contents : (memory : ℕ) → List ℕ → List DataSeg
contents memory bytes = map (stretch_segment memory bytes) (stretches bytes)
