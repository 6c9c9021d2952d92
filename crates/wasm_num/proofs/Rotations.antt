-- The two parts of a rotation have no bit in common.
use Rattle.std.proofs.Common.{◌≡◌, ℕ, ◌+◌, ◌-◌, ◌*◌, ◌/◌, ◌%◌, ◌^◌, ◌<◌, ◌≤◌, sym, ap₂, subst, ◌∙◌, arith, bit_or}
use Rattle.std.proofs.Math.Nat.{mul-mod_left, div-lt_iff_lt-mul}
use Rattle.std.proofs.lemmas.Nat.{pow_pos, pow-add, shl-shr, mod-pow-add, or_shifted}

-- A shift up by k of j + k bits keeps the lower j bits, in their new place.
raised : (j k a : ℕ) → (a * 2 ^ k) % 2 ^ (j + k) ≡ (a % 2 ^ j) * 2 ^ k
raised j k a =
    let low : (a * 2 ^ k) % 2 ^ k ≡ 0 = mul-mod_left a (2 ^ k) in
    mod-pow-add (a * 2 ^ k) j k ∙ ap₂ (λ x y. (x % 2 ^ j) * 2 ^ k + y) (shl-shr a k) low ∙ omega arith

pub rotated : (j k a : ℕ) → a < 2 ^ (j + k) → bit_or ((a * 2 ^ k) % 2 ^ (j + k)) (a / 2 ^ j) ≡ (a * 2 ^ k) % 2 ^ (j + k) + a / 2 ^ j
rotated j k a h =
    let small : a / 2 ^ j < 2 ^ k = (div-lt_iff_lt-mul (pow_pos j)).1 (subst (λ m. a < m) (pow-add 2 j k ∙ omega arith) h) in
    rw (raised j k a) (or_shifted (a % 2 ^ j) k (a / 2 ^ j) small)

pub rotated_left : (bits k a : ℕ) → k ≤ bits → a < 2 ^ bits → bit_or ((a * 2 ^ k) % 2 ^ bits) (a / 2 ^ (bits - k)) ≡ (a * 2 ^ k) % 2 ^ bits + a / 2 ^ (bits - k)
rotated_left bits k a l h =
    let e : (bits - k) + k ≡ bits = omega (arith, l) in
    subst (λ m. bit_or ((a * 2 ^ k) % 2 ^ m) (a / 2 ^ (bits - k)) ≡ (a * 2 ^ k) % 2 ^ m + a / 2 ^ (bits - k)) e (rotated (bits - k) k a (subst (λ m. a < 2 ^ m) (sym e) h))

pub rotated_right : (bits k a : ℕ) → k ≤ bits → a < 2 ^ bits → bit_or ((a * 2 ^ (bits - k)) % 2 ^ bits) (a / 2 ^ k) ≡ a / 2 ^ k + (a * 2 ^ (bits - k)) % 2 ^ bits
rotated_right bits k a l h =
    let e : k + (bits - k) ≡ bits = omega (arith, l) in
    subst (λ m. bit_or ((a * 2 ^ (bits - k)) % 2 ^ m) (a / 2 ^ k) ≡ (a * 2 ^ (bits - k)) % 2 ^ m + a / 2 ^ k) e (rotated k (bits - k) a (subst (λ m. a < 2 ^ m) (sym e) h)) ∙ omega arith
