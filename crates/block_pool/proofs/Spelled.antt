-- The number that bytes encode in little-endian order, as the standard library computes it.
use Rattle.base_lists.proofs.Common.{◌≡◌, ℕ, zero, suc, replicate, take, drop, ◌+◌, ◌-◌, List, [], ◌∷◌, length, slice_index, refl, sym, ap, ◌∙◌, inl, inr, arith, cases_lt, get_or-take, get_or-drop}
use Rattle.std.specs.Int.{from_le_bytes, w64}
use Rattle.block_pool.specs.Pages.{little, IsZeroTo}

spelled_8 : (a b c d e f g h : ℕ) → from_le_bytes w64 (a ∷ b ∷ c ∷ d ∷ e ∷ f ∷ g ∷ h ∷ []) ≡ little (a ∷ b ∷ c ∷ d ∷ e ∷ f ∷ g ∷ h ∷ [])
spelled_8 a b c d e f g h = omega arith

pub little_8 : (xs : List ℕ) → length xs ≡ 8 → from_le_bytes w64 (slice_index xs 0 ∷ slice_index xs 1 ∷ slice_index xs 2 ∷ slice_index xs 3 ∷ slice_index xs 4 ∷ slice_index xs 5 ∷ slice_index xs 6 ∷ slice_index xs 7 ∷ []) ≡ little xs
little_8 (a ∷ b ∷ c ∷ d ∷ e ∷ f ∷ g ∷ h ∷ []) k = spelled_8 a b c d e f g h
little_8 _ k = absurd (omega arith)

pub little_zero : (n : ℕ) → little (replicate n 0) ≡ 0
little_zero zero = refl
little_zero (suc n) = omega (arith, little_zero n)

little_none : (xs : List ℕ) (i : ℕ) → little xs ≡ 0 → slice_index xs i ≡ 0
little_none [] i e = refl
little_none (x ∷ xs) zero e = omega arith
little_none (x ∷ xs) (suc i) e = little_none xs i (omega arith)

-- A word that encodes zero has only zero bytes.
pub zero_word : (xs : List ℕ) (at n : ℕ) → little (take (at + n - at) (drop at xs)) ≡ 0 → IsZeroTo xs at (at + n)
zero_word xs at n e k f g =
    sym (get_or-take (at + n - at) (drop at xs) (k - at) 0 (omega arith) ∙ (get_or-drop at xs (k - at) 0 ∙ ap (slice_index xs) (let h : at + (k - at) ≡ k = omega arith in h)))
    ∙ little_none (take (at + n - at) (drop at xs)) (k - at) e

pub zero_on : (xs : List ℕ) (from a b : ℕ) → IsZeroTo xs from a → IsZeroTo xs a b → IsZeroTo xs from b
zero_on xs from a b f g k h i = elim (cases_lt k a) [ inl j ↦ f k h j | inr j ↦ g k j i ]

pub zero_one : (xs : List ℕ) (from a : ℕ) → IsZeroTo xs from a → slice_index xs a ≡ 0 → IsZeroTo xs from (a + 1)
zero_one xs from a f e k h i = elim (cases_lt k a) [ inl j ↦ f k h j | inr j ↦ ap (slice_index xs) (let g : k ≡ a = omega arith in g) ∙ e ]
