-- The bytes that are read from a block are those of the memory.
use Rattle.base_lists.proofs.Common.{◌≡◌, ℕ, ◌+◌, ◌-◌, ◌*◌, ◌/◌, ◌%◌, ◌<◌, ◌≤◌, List, ◌++◌, length, drop, Some, None, slice_index, replicate, refl, sym, ap, ◌∙◌, inl, inr, arith, zero-add, cases_lt, get_or-take, get_or-drop, get_or_append_left, get_or-append_right, ext_get_or, get_or-replicate}
use Rattle.base_lists.proofs.Common.{length-replicate, map_numbers_index}
use Rattle.std.proofs.Common.{length-append, length-drop, length-take-le}
use Rattle.block_pool.specs.Blocks.{held}
use Rattle.block_pool.specs.Pages.{part}
use Rattle.block_pool.specs.Table.{present, slot_at, byte_in, byte_at, pages_of, IsBlock, IsZeroBlock}
use Rattle.block_pool.specs.declared.table.Table.{Table}
use Rattle.block_pool.proofs.Written.{size_is}

module _ (t : Table) (k : ℕ) where
  byte_there : (i : ℕ) → i < 4096 → 4096 * k + i < t.size → slice_index (pages_of t).now.bytes (4096 * k + i) ≡ byte_in t.pool (present (slot_at t.slots.items k)) i
  byte_there i h small =
      let block : (4096 * k + i) / 4096 ≡ k = omega arith in
      let offset : (4096 * k + i) % 4096 ≡ i = omega arith in
      map_numbers_index (byte_at t.pool t.slots.items present) 0 t.size (4096 * k + i) small ∙ rw (zero-add (4096 * k + i), block, offset) refl

  pub is_block : (b : ℕ) (bytes : List ℕ) → present (slot_at t.slots.items k) ≡ Some b → held t.pool b ≡ Some bytes → length bytes ≡ 4096 → IsBlock t k bytes
  is_block b bytes named there whole = record {
    whole = whole;
    same = λ i h small. sym (byte_there i h small ∙ rw (named, there) refl);
  }

  pub is_zero_block : present (slot_at t.slots.items k) ≡ None → IsZeroBlock t k
  is_zero_block none i h small = byte_there i h small ∙ rw none refl

pub part_at : (xs : List ℕ) (at n i : ℕ) → i < n → slice_index (part xs at n) i ≡ slice_index xs (at + i)
part_at xs at n i h = get_or-take n (drop at xs) i 0 h ∙ get_or-drop at xs i 0

pub part_size : (xs : List ℕ) (at n : ℕ) → at + n ≤ length xs → length (part xs at n) ≡ n
part_size xs at n h = length-take-le n (drop at xs) (simp length-drop (omega arith))

-- Bytes that agree with a part at each position are that part.
pub part_is : (ys xs : List ℕ) (at n : ℕ) → at + n ≤ length xs → length ys ≡ n → ((i : ℕ) → i < n → slice_index ys i ≡ slice_index xs (at + i)) → ys ≡ part xs at n
part_is ys xs at n fits many same = ext_get_or 0 ys (part xs at n) (many ∙ sym (part_size xs at n fits)) (λ i h. let small : i < n = rw many at h in same i small ∙ sym (part_at xs at n i small))

-- A part of a list is made of two adjacent parts.
pub part_joined : (xs : List ℕ) (at n m : ℕ) → at + n + m ≤ length xs → part xs at n ++ part xs (at + n) m ≡ part xs at (n + m)
part_joined xs at n m fits =
    let first : length (part xs at n) ≡ n = part_size xs at n (omega arith) in
    let second : length (part xs (at + n) m) ≡ m = part_size xs (at + n) m fits in
    part_is (part xs at n ++ part xs (at + n) m) xs at (n + m) (omega arith) (length-append (part xs at n) (part xs (at + n) m) ∙ (let e : length (part xs at n) + length (part xs (at + n) m) ≡ n + m = omega arith in e)) (λ i h.
    elim (cases_lt i n) [
      | inl k ↦ get_or_append_left (part xs at n) (part xs (at + n) m) 0 i (rw first k) ∙ part_at xs at n i k
      | inr k ↦ get_or-append_right (part xs at n) (part xs (at + n) m) n i 0 first k ∙ (part_at xs (at + n) m (i - n) (omega arith) ∙ ap (slice_index xs) (let e : at + n + (i - n) ≡ at + i = omega arith in e))
    ])

module _ (t : Table) (k offset n : ℕ) (within : offset + n ≤ 4096) (inside : 4096 * k + offset + n ≤ t.size) where
  inside_bytes : 4096 * k + offset + n ≤ length (pages_of t).now.bytes
  inside_bytes = rw (size_is t) inside

  -- A part of a block is the corresponding part of the memory.
  pub block_part : (bytes : List ℕ) → IsBlock t k bytes → part bytes offset n ≡ part (pages_of t).now.bytes (4096 * k + offset) n
  block_part bytes is =
      part_is (part bytes offset n) (pages_of t).now.bytes (4096 * k + offset) n inside_bytes (part_size bytes offset n (rw is.whole within)) (λ i h.
      part_at bytes offset n i h ∙ (is.same (offset + i) (omega arith) (omega arith) ∙ ap (slice_index (pages_of t).now.bytes) (let e : 4096 * k + (offset + i) ≡ 4096 * k + offset + i = omega arith in e)))

  pub zero_part : IsZeroBlock t k → replicate n 0 ≡ part (pages_of t).now.bytes (4096 * k + offset) n
  zero_part zero =
      part_is (replicate n 0) (pages_of t).now.bytes (4096 * k + offset) n inside_bytes (length-replicate n 0) (λ i h.
      get_or-replicate n i 0 0 h ∙ sym (ap (slice_index (pages_of t).now.bytes) (let e : 4096 * k + offset + i ≡ 4096 * k + (offset + i) = omega arith in e) ∙ zero (offset + i) (omega arith) (omega arith)))
