-- Bytes that are written over a part of others, position by position.
use Rattle.base_lists.proofs.Common.{◌≡◌, ℕ, ◌+◌, ◌-◌, ◌<◌, ◌≤◌, List, ◌++◌, length, take, drop, slice_index, refl, sym, ap, ◌∙◌, inl, inr, arith, get_or_append_left, get_or-take, get_or-drop, get_or-append_right, ext_get_or, cases_lt}
use Rattle.std.proofs.Common.{length-append, length-drop, length-take-le}
use Rattle.block_pool.specs.Blocks.{with_part}

module _ (xs : List ℕ) (at : ℕ) (ys : List ℕ) (fits : at + length ys ≤ length xs) where
  head_length : length (take at xs) ≡ at
  head_length = length-take-le at xs (omega arith)

  pub part_length : length (with_part xs at ys) ≡ length xs
  part_length = simp (length-append, length-drop) (omega (arith, head_length))

  pub part_below : (i : ℕ) → i < at → slice_index (with_part xs at ys) i ≡ slice_index xs i
  part_below i h = get_or_append_left (take at xs) (ys ++ drop (at + length ys) xs) 0 i (rw head_length h) ∙ get_or-take at xs i 0 h

  behind_head : (i : ℕ) → at ≤ i → slice_index (with_part xs at ys) i ≡ slice_index (ys ++ drop (at + length ys) xs) (i - at)
  behind_head i h = get_or-append_right (take at xs) (ys ++ drop (at + length ys) xs) at i 0 head_length h

  pub part_inside : (i : ℕ) → at ≤ i → i < at + length ys → slice_index (with_part xs at ys) i ≡ slice_index ys (i - at)
  part_inside i h k = behind_head i h ∙ get_or_append_left ys (drop (at + length ys) xs) 0 (i - at) (omega arith)

  pub part_above : (i : ℕ) → at + length ys ≤ i → slice_index (with_part xs at ys) i ≡ slice_index xs i
  part_above i h =
      behind_head i (omega arith)
      ∙ (get_or-append_right ys (drop (at + length ys) xs) (length ys) (i - at) 0 refl (omega arith)
      ∙ (get_or-drop (at + length ys) xs (i - at - length ys) 0
      ∙ ap (slice_index xs) (let e : at + length ys + (i - at - length ys) ≡ i = omega arith in e)))

  -- Bytes that are the expected ones at each position are the bytes after the write.
  pub is_part : (zs : List ℕ) → length zs ≡ length xs → ((i : ℕ) → i < at → slice_index zs i ≡ slice_index xs i) → ((i : ℕ) → at ≤ i → i < at + length ys → slice_index zs i ≡ slice_index ys (i - at)) → ((i : ℕ) → at + length ys ≤ i → i < length xs → slice_index zs i ≡ slice_index xs i) →
      zs ≡ with_part xs at ys
  is_part zs same below inside above =
      ext_get_or 0 zs (with_part xs at ys) (same ∙ sym part_length) (λ i h.
      elim (cases_lt i at) [
        | inl k ↦ below i k ∙ sym (part_below i k)
        | inr k ↦ elim (cases_lt i (at + length ys)) [
          | inl m ↦ inside i k m ∙ sym (part_inside i k m)
          | inr m ↦ above i m (rw same at h) ∙ sym (part_above i m)
        ]
      ])
