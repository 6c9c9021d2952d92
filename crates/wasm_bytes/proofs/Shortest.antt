-- The shortest spelling of a number is a spelling of it, and no other is shorter.
use Rattle.base_lists.proofs.Common.{◌≡◌, ℕ, zero, suc, ◌+◌, ◌-◌, ◌*◌, ◌/◌, ◌%◌, ◌^◌, ◌<◌, ◌≤◌, List, [], ◌∷◌, length, Some, refl, ap, ◌∙◌, arith, ⊎_elim, cases_lt, pow-add, pow_mono}
use Rattle.std.proofs.Common.{lt-ltb, le-ltb}
use Rattle.wasm_bytes.specs.Prelude.{last_unsigned, join_unsigned}
use Rattle.wasm_bytes.specs.Numbers.{Unsigned}
use Rattle.wasm_bytes.specs.Writing.{unsigned_text, IsShortest}
use Rattle.wasm_bytes.proofs.NumberLaws.{SpellsNumber-more}

pub text_small : (most n : ℕ) → n < 128 → unsigned_text (suc most) n ≡ n ∷ []
unfolding unsigned_text
text_small most n lt = rw (lt-ltb n 128 lt)

pub text_large : (most n : ℕ) → 128 ≤ n → unsigned_text (suc most) n ≡ (n % 128 + 128) ∷ unsigned_text most (n / 128)
unfolding unsigned_text
text_large most n le = rw (le-ltb n 128 le)

more_bits : (bits n : ℕ) → 128 ≤ n → n < 2 ^ bits → 7 < bits
more_bits bits n le fits = ⊎_elim (λ lt. lt) (λ few. let h : 2 ^ bits ≤ 2 ^ 7 = pow_mono few in absurd (omega arith)) (cases_lt 7 bits)

seven : (bits : ℕ) → 7 < bits → 2 ^ bits ≡ 2 ^ (bits - 7) * 128
seven bits more = let e : bits ≡ (bits - 7) + 7 = omega arith in ap (λ k. 2 ^ k) e ∙ pow-add 2 (bits - 7) 7

-- The text of a number spells it if it has at least one byte for each seven bits.
pub text_spells : (most bits n : ℕ) → bits ≤ 7 * most → n < 2 ^ bits → 0 < bits → Unsigned bits (unsigned_text most n) n
text_spells zero bits n room fits some = absurd (omega arith)
text_spells (suc most) bits n room fits some = ⊎_elim
    (λ lt. rw (text_small most n lt, lt-ltb n (2 ^ bits) fits) (lt, refl))
    (λ le.
    let more = more_bits bits n le fits in
    let e = seven bits more in
    rw (text_large most n le)
    (SpellsNumber-more last_unsigned join_unsigned bits (n % 128 + 128) (unsigned_text most (n / 128)) n (n / 128) (omega arith) (omega arith) more (omega arith)
    (text_spells most (bits - 7) (n / 128) (omega arith) (omega arith) (omega arith))))
    (cases_lt n 128)

last_is : (bits b n : ℕ) → last_unsigned bits b ≡ Some n → n ≡ b
last_is bits b n e = ⊎_elim
    (λ lt. let h = rw (lt-ltb b (2 ^ bits) lt) at e in cc)
    (λ le. let h = rw (le-ltb b (2 ^ bits) le) at e in cc)
    (cases_lt b (2 ^ bits))

pub text_least : (most bits n : ℕ) (other : List ℕ) → Unsigned bits other n → length (unsigned_text most n) ≤ length other
unfolding unsigned_text
text_least zero bits n other h = omega arith
text_least (suc most) bits n [] h = absurd h
text_least (suc most) bits n (b ∷ []) h = let e : n ≡ b = last_is bits b n h.1 in let small : n < 128 = omega (arith, h.0) in rw (lt-ltb n 128 small) (omega arith)
text_least (suc most) bits n (b ∷ c ∷ bs) h = ⊎_elim
    (λ lt. rw (lt-ltb n 128 lt) (omega arith))
    (λ le. let e : n / 128 ≡ h.3 = omega arith in rw (le-ltb n 128 le, e) (omega (arith, text_least most (bits - 7) h.3 (c ∷ bs) h.5)))
    (cases_lt n 128)

-- The text of a number of 32 bits is its shortest spelling.
pub u32_shortest : (n : ℕ) → n < 2 ^ 32 → IsShortest (Unsigned 32) (unsigned_text 5 n) n
u32_shortest n fits = record { spells = text_spells 5 32 n (omega arith) fits (omega arith); least = text_least 5 32 n }

pub small_step : (most n : ℕ) → 0 < most → n < 128 → unsigned_text most n ≡ n ∷ []
small_step zero n some lt = absurd (omega arith)
small_step (suc most) n some lt = text_small most n lt

-- The first byte of a number of more than seven bits is followed by at least one more.
pub large_step : (most n : ℕ) → 128 ≤ n → n < 2 ^ (7 * most) →
    (p : ℕ) × (0 < p) × (n / 128 < 2 ^ (7 * p)) × (unsigned_text most n ≡ (n % 128 + 128) ∷ unsigned_text p (n / 128))
large_step zero n le fits = absurd (omega arith)
large_step (suc zero) n le fits = absurd (omega arith)
large_step (suc (suc p)) n le fits =
    let e : 7 * suc (suc p) ≡ 7 * suc p + 7 = omega arith in
    let h : 2 ^ (7 * suc (suc p)) ≡ 2 ^ (7 * suc p) * 128 = ap (λ k. 2 ^ k) e ∙ pow-add 2 (7 * suc p) 7 in
    (suc p, omega arith, omega arith, text_large (suc p) n le)
