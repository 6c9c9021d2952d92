-- The counts of bits by their formulas are those of std.
use Rattle.std.proofs.Common.{◌≡◌, ℕ, zero, suc, ◌+◌, ◌*◌, ◌/◌, ◌%◌, ◌^◌, ◌<◌, ◌≤◌, refl, sym, ap, subst, ◌∙◌, arith, ◌⊎◌, inl, inr}
use Rattle.std.specs.Prelude.{nat_lt, nat_eq, count_ones, if◌then◌else◌}
use Rattle.std.specs.Int.Count.{ones_step, count_leading_zeros, leading_unique, count_trailing_zeros, under}
use Rattle.std.proofs.Math.Nat.{pow-suc}
use Rattle.std.proofs.lemmas.Bool.{cases_lt, ne_eqb, lt-ltb, le-ltb}
use Rattle.std.proofs.lemmas.Nat.{ones_le_self}
use Rattle.wasm_num.specs.Operations.{leading, trailing, ones}

half_less : (k n : ℕ) → n < 2 ^ suc k → n / 2 < 2 ^ k
half_less k n h = let e : 2 ^ suc k ≡ 2 ^ k * 2 = pow-suc 2 k in let l : n < 2 ^ k * 2 = subst (λ m. n < m) e h in omega (arith, l)

pub ones_is : (k n : ℕ) → n < 2 ^ k → count_ones n ≡ ones k n
unfolding ones
ones_is zero n h = let e : n < 1 = h in let l = ones_le_self n in omega (arith, e, l)
ones_is (suc k) n h = ones_step n ∙ ap (λ m. n % 2 + m) (ones_is k (n / 2) (half_less k n h))

trailing_digit : (d r s : ℕ) → r ≡ s → under d r ≡ if nat_eq d 0 then suc s else 0
trailing_digit zero r s e = ap suc e
trailing_digit (suc d) r s e = sym (ap (λ b. if b then suc s else 0) (ne_eqb (suc d) 0 (λ e. omega (arith, e))))

pub trailing_is : (k n : ℕ) → count_trailing_zeros k n ≡ trailing k n
unfolding trailing count_trailing_zeros
trailing_is zero n = refl
trailing_is (suc k) n = trailing_digit (n % 2) _ _ (trailing_is k (n / 2))

-- A number n of k bits has exactly r leading zeros.
record Above (k n r : ℕ) : Type 0 where
  digits : ℕ
  together : r + digits ≡ k
  below : n < 2 ^ digits
  least : 2 ^ digits ≤ 2 * n + 1

above : (k n : ℕ) → n < 2 ^ k → Above k n (leading k n)
unfolding leading
above zero n h = record { digits = 0; together = refl; below = h; least = omega arith }
above (suc k) n h = above_by (above k n) (cases_lt n (2 ^ k))
  where
    double : 2 ^ suc k ≡ 2 ^ k * 2
    double = pow-suc 2 k

    above_by : (n < 2 ^ k → Above k n (leading k n)) → (n < 2 ^ k) ⊎ (2 ^ k ≤ n) → Above (suc k) n (if nat_lt n (2 ^ k) then suc (leading k n) else 0)
    above_by shorter (inl l) =
        let a = shorter l in
        rw (lt-ltb n (2 ^ k) l) (record { digits = a.digits; together = omega (arith, a.together); below = a.below; least = a.least })
    above_by shorter (inr g) = rw (le-ltb n (2 ^ k) g) (record { digits = suc k; together = omega arith; below = h; least = omega (arith, double, g) })

pub leading_is : (k n : ℕ) → n < 2 ^ k → count_leading_zeros k n ≡ leading k n
leading_is k n h = let a = above k n h in sym (leading_unique k n (leading k n) a.digits a.together a.below a.least)
