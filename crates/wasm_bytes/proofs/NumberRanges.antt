-- A number that bytes encode is in the range of its type.
use Rattle.base_lists.proofs.Common.{◌≡◌, ℕ, ◌-◌, ◌<◌, ◌^◌, List, [], ◌∷◌, Some, ℤ, pos, ◌-ℤ◌, sym, subst, arith, ⊎_elim, cases_lt, lt-ltb, le-ltb, ints, pow_pos}
use Rattle.wasm_bytes.specs.Prelude.{Signed, IsWithin, last_unsigned, last_signed}
use Rattle.wasm_bytes.specs.Numbers.{Unsigned}
use Rattle.wasm_bytes.proofs.Sizes.{joined, joined_signed}

last_in : (bits b n : ℕ) → last_unsigned bits b ≡ Some n → n < 2 ^ bits
last_in bits b n e = ⊎_elim
    (λ lt. let h = rw (lt-ltb b (2 ^ bits) lt) at e in let same : b ≡ n = cc in subst (λ k. k < 2 ^ bits) same lt)
    (λ le. let h = rw (le-ltb b (2 ^ bits) le) at e in cc)
    (cases_lt b (2 ^ bits))

pub unsigned_in : (bits : ℕ) (text : List ℕ) (n : ℕ) → Unsigned bits text n → n < 2 ^ bits
unsigned_in bits [] n h = absurd h
unsigned_in bits (b ∷ []) n h = last_in bits b n h.1
unsigned_in bits (b ∷ c ∷ bs) n h =
    let k = unsigned_in (bits - 7) (c ∷ bs) h.3 h.5 in
    subst (λ m. m < 2 ^ bits) (sym h.4) (joined b h.3 bits h.1 k h.2)

last_signed_in : (bits b : ℕ) (z : ℤ) → b < 128 → last_signed bits b ≡ Some z → IsWithin bits z
last_signed_in bits b z small e = ⊎_elim
    (λ lt. let a = rw (lt-ltb b 64 lt) at e in ⊎_elim
    (λ fits. let h = rw (lt-ltb b (2 ^ (bits - 1)) fits) at a in let same : pos b ≡ z = cc in
    let in_it : IsWithin bits (pos b) = (omega (arith, ints), omega (arith, ints)) in subst (IsWithin bits) same in_it)
    (λ no. let h = rw (le-ltb b (2 ^ (bits - 1)) no) at a in cc)
    (cases_lt b (2 ^ (bits - 1))))
    (λ le. let a = rw (le-ltb b 64 le) at e in ⊎_elim
    (λ fits. let h = rw (lt-ltb (127 - b) (2 ^ (bits - 1)) fits) at a in let same : pos b -ℤ pos 128 ≡ z = cc in
    let in_it : IsWithin bits (pos b -ℤ pos 128) = (omega (arith, ints), omega (arith, ints, pow_pos (bits - 1))) in subst (IsWithin bits) same in_it)
    (λ no. let h = rw (le-ltb (127 - b) (2 ^ (bits - 1)) no) at a in cc)
    (cases_lt (127 - b) (2 ^ (bits - 1))))
    (cases_lt b 64)

pub signed_in : (bits : ℕ) (text : List ℕ) (z : ℤ) → Signed bits text z → IsWithin bits z
signed_in bits [] z h = absurd h
signed_in bits (b ∷ []) z h = last_signed_in bits b z h.0 h.1
signed_in bits (b ∷ c ∷ bs) z h =
    let k = signed_in (bits - 7) (c ∷ bs) h.3 h.5 in
    subst (IsWithin bits) (sym h.4) (joined_signed b bits h.3 h.0 h.1 k h.2)
