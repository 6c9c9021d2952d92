-- Which blocks a range of bytes reaches.
use Rattle.std.proofs.Common.{◌≡◌, ℕ, zero, suc, ◌+◌, ◌*◌, ◌<◌, ◌≤◌, List, [], ◌∷◌, length, Bool, true, false, ◌||◌, nat_lt, slice_index_or, slice_set, refl, sym, ap, ◌∙◌, inl, inr, arith, length-set, zero-add}
use Rattle.base_lists.proofs.Common.{or-true, or-false}
use Rattle.std.proofs.lemmas.Bool.{cases_order, lt-ltb, le-ltb, and_left, and_right, and_from}
use Rattle.std.proofs.lemmas.List.{ext_get_or, get_or-set_same, get_or-set_other}
use Rattle.block_pool.specs.Pages.{reaches, with_reached}

pub reaches_yes : (at n b : ℕ) → 0 < n → at < 4096 * b + 4096 → 4096 * b < at + n → reaches at n b ≡ true
reaches_yes at n b f g h = and_from _ _ (lt-ltb 0 n f) (and_from _ _ (lt-ltb at (4096 * b + 4096) g) (lt-ltb (4096 * b) (at + n) h))

pub reaches_above : (at n b : ℕ) → 4096 * b + 4096 ≤ at → reaches at n b ≡ false
reaches_above at n b h = and_right (nat_lt 0 n) _ (and_left _ _ (le-ltb at (4096 * b + 4096) h))

pub reaches_below : (at n b : ℕ) → at + n ≤ 4096 * b → reaches at n b ≡ false
reaches_below at n b h = and_right (nat_lt 0 n) _ (and_right _ _ (le-ltb (4096 * b) (at + n) h))

pub reached_length : (at n j : ℕ) (ws : List Bool) → length (with_reached at n j ws) ≡ length ws
reached_length at n j [] = refl
reached_length at n j (w ∷ ws) = ap suc (reached_length at n (suc j) ws)

pub reached_at : (at n j : ℕ) (ws : List Bool) (i : ℕ) → i < length ws → slice_index_or (with_reached at n j ws) i false ≡ (slice_index_or ws i false || reaches at n (j + i))
reached_at at n j [] i h = absurd (omega arith)
reached_at at n j (w ∷ ws) zero h = ap (λ b. w || reaches at n b) (let e : j ≡ j + 0 = omega arith in e)
reached_at at n j (w ∷ ws) (suc i) h = reached_at at n (suc j) ws i (omega arith) ∙ ap (λ b. slice_index_or ws i false || reaches at n b) (let e : suc j + i ≡ j + suc i = omega arith in e)

-- A range within one block reaches only this block.
pub reached_one : (k offset n : ℕ) (ws : List Bool) → k < length ws → 0 < n → offset + n ≤ 4096 → slice_set ws k true ≡ with_reached (4096 * k + offset) n 0 ws
reached_one k offset n ws inside some fits =
    ext_get_or false (slice_set ws k true) (with_reached (4096 * k + offset) n 0 ws) (length-set ws k true ∙ sym (reached_length (4096 * k + offset) n 0 ws)) (λ i h.
    let small : i < length ws = rw (length-set ws k true) at h in
    let there : slice_index_or (with_reached (4096 * k + offset) n 0 ws) i false ≡ (slice_index_or ws i false || reaches (4096 * k + offset) n i) = reached_at (4096 * k + offset) n 0 ws i small ∙ ap (λ b. slice_index_or ws i false || reaches (4096 * k + offset) n b) (zero-add i) in
    elim (cases_order i k) [
      | inl e ↦ rw e (get_or-set_same ws k true false inside) ∙ sym (there ∙ (ap (λ b. slice_index_or ws i false || b) (reaches_yes (4096 * k + offset) n i some (omega arith) (omega arith)) ∙ or-true (slice_index_or ws i false)))
      | inr d ↦
          get_or-set_other ws k i true false (λ e. elim d [ inl f ↦ absurd (omega arith) | inr f ↦ absurd (omega arith) ])
          ∙ sym (there ∙ (ap (λ b. slice_index_or ws i false || b) (elim d [ inl f ↦ reaches_above (4096 * k + offset) n i (omega arith) | inr f ↦ reaches_below (4096 * k + offset) n i (omega arith) ]) ∙ or-false (slice_index_or ws i false)))
    ])
