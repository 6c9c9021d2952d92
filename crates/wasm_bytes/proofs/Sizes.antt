-- The sizes of numbers with seven more bits.
use Rattle.base_lists.proofs.Common.{◌≡◌, ℕ, ◌+◌, ◌-◌, ◌*◌, ◌^◌, ◌<◌, ◌≤◌, arith, ◌∙◌, ap, ℤ, ints, pow-add, pow_mono}
use Rattle.wasm_bytes.specs.Prelude.{IsWithin, join_signed}

pub small_fits : (b bits : ℕ) → b < 128 → 7 ≤ bits → b < 2 ^ bits
small_fits b bits small more = let h : 128 ≤ 2 ^ bits = pow_mono {i = 7} more in omega arith

pub joined : (b h bits : ℕ) → b < 256 → h < 2 ^ (bits - 7) → 7 < bits → b - 128 + 128 * h < 2 ^ bits
joined b h bits small fits more =
    let e : bits ≡ (bits - 7) + 7 = omega arith in
    let p : 2 ^ bits ≡ 2 ^ (bits - 7) * 128 = ap (λ k. 2 ^ k) e ∙ pow-add 2 (bits - 7) 7 in
    omega arith

pub joined_fits : (b h bits : ℕ) → b < 256 → h < 2 ^ (bits - 7) → 7 < bits → bits ≤ 64 → b - 128 + 128 * h < 2 ^ 64
joined_fits b h bits small fits more most = let p = joined b h bits small fits more in let q : 2 ^ bits ≤ 2 ^ 64 = pow_mono most in omega arith

pub joined_signed : (b bits : ℕ) (h : ℤ) → 128 ≤ b → b < 256 → IsWithin (bits - 7) h → 7 < bits → IsWithin bits (join_signed b h)
joined_signed b bits h from below fits more =
    let e : bits - 1 ≡ (bits - 7 - 1) + 7 = omega arith in
    let p : 2 ^ (bits - 1) ≡ 2 ^ (bits - 7 - 1) * 128 = ap (λ k. 2 ^ k) e ∙ pow-add 2 (bits - 7 - 1) 7 in
    let low = fits.0 in
    let high = fits.1 in
    (omega (arith, ints), omega (arith, ints))
