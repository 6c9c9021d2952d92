-- The shortest spelling of a signed number is a spelling of it, and no other is shorter.
use Rattle.base_lists.proofs.Common.{◌≡◌, ℕ, zero, suc, ◌+◌, ◌-◌, ◌*◌, ◌/◌, ◌%◌, ◌^◌, ◌<◌, ◌≤◌, List, [], ◌∷◌, length, true, false, ℤ, pos, negsuc, ◌-ℤ◌, Some, refl, sym, ap, ◌∙◌, subst, arith, ⊎_elim, cases_lt, lt-ltb, le-ltb, ltb-false, pow-add, ints, pow_mono}
use Rattle.wasm_bytes.specs.Prelude.{IsWithin, Signed, last_signed, join_signed}
use Rattle.wasm_bytes.specs.Writing.{low, high, is_small, signed_text, IsShortest}
use Rattle.wasm_bytes.proofs.NumberLaws.{SpellsNumber-more}

-- The distance of a number from 0, or from -1 if it is negative.
abbrev pub size : ℤ → ℕ
size (pos n) = n
size (negsuc n) = n

pub within_size : (bits : ℕ) (z : ℤ) → IsWithin bits z → size z < 2 ^ (bits - 1)
within_size bits (pos n) h = let k = h.1 in omega (arith, ints)
within_size bits (negsuc n) h = let k = h.0 in omega (arith, ints)

pub size_within : (bits : ℕ) (z : ℤ) → size z < 2 ^ (bits - 1) → IsWithin bits z
size_within bits (pos n) h = (omega (arith, ints), omega (arith, ints))
size_within bits (negsuc n) h = (omega (arith, ints), omega (arith, ints))

pub size_high : (z : ℤ) → size (high z) ≡ size z / 128
size_high (pos n) = refl
size_high (negsuc n) = refl

pub not_small : (z : ℤ) → is_small z ≡ false → 64 ≤ size z
not_small (pos n) h = ltb-false n 64 h
not_small (negsuc n) h = ltb-false n 64 h

pub step_small : (most : ℕ) (z : ℤ) → 0 < most → is_small z ≡ true → signed_text most z ≡ low z ∷ []
unfolding signed_text
step_small zero z some h = absurd (omega arith)
step_small (suc most) z some h = rw h

pub step_large : (most : ℕ) (z : ℤ) → is_small z ≡ false → IsWithin (7 * most) z →
    (p : ℕ) × (0 < p) × IsWithin (7 * p) (high z) × (signed_text most z ≡ (low z + 128) ∷ signed_text p (high z))
unfolding signed_text
step_large zero z h w = let s = within_size 0 z w in let k = not_small z h in absurd (omega arith)
step_large (suc zero) z h w = let s = within_size 7 z w in let k = not_small z h in absurd (omega arith)
step_large (suc (suc p)) z h w =
    let e : 7 * suc (suc p) - 1 ≡ (7 * suc p - 1) + 7 = omega arith in
    let q : 2 ^ (7 * suc (suc p) - 1) ≡ 2 ^ (7 * suc p - 1) * 128 = ap (λ k. 2 ^ k) e ∙ pow-add 2 (7 * suc p - 1) 7 in
    let s = within_size (7 * suc (suc p)) z w in
    let t = size_high z in
    (suc p, omega arith, size_within (7 * suc p) (high z) (omega arith), rw h)

last_small : (bits : ℕ) (z : ℤ) → size z < 64 → size z < 2 ^ (bits - 1) → (low z < 128) × (last_signed bits (low z) ≡ Some z)
last_small bits (pos n) s w =
    let e : n % 128 ≡ n = omega arith in
    rw (e, lt-ltb n 64 s, lt-ltb n (2 ^ (bits - 1)) w) (omega arith, refl)
last_small bits (negsuc n) s w =
    let e : n % 128 ≡ n = omega arith in
    let big : 64 ≤ 127 - n = omega arith in
    let back : 127 - (127 - n) ≡ n = omega arith in
    let v : pos (127 - n) -ℤ pos 128 ≡ negsuc n = omega (arith, ints) in
    rw (e, le-ltb (127 - n) 64 big, back, lt-ltb n (2 ^ (bits - 1)) w, v) (omega arith, refl)

joins : (z : ℤ) → z ≡ join_signed (low z + 128) (high z)
joins (pos n) = omega (arith, ints)
joins (negsuc n) = omega (arith, ints)

low_fits : (z : ℤ) → low z < 128
low_fits (pos n) = omega arith
low_fits (negsuc n) = omega arith

small_is : (z : ℤ) → size z < 64 → is_small z ≡ true
small_is (pos n) h = lt-ltb n 64 h
small_is (negsuc n) h = lt-ltb n 64 h

large_is : (z : ℤ) → 64 ≤ size z → is_small z ≡ false
large_is (pos n) h = le-ltb n 64 h
large_is (negsuc n) h = le-ltb n 64 h

more_bits : (bits n : ℕ) → 64 ≤ n → n < 2 ^ (bits - 1) → 7 < bits
more_bits bits n le fits = ⊎_elim (λ lt. lt) (λ few. let k : bits - 1 ≤ 6 = omega arith in let h : 2 ^ (bits - 1) ≤ 2 ^ 6 = pow_mono k in absurd (omega arith)) (cases_lt 7 bits)

pub signed_spells : (most bits : ℕ) (z : ℤ) → bits ≤ 7 * most → 0 < bits → IsWithin bits z → Signed bits (signed_text most z) z
unfolding signed_text
signed_spells zero bits z room some w = absurd (omega arith)
signed_spells (suc most) bits z room some w =
    let s = within_size bits z w in
    ⊎_elim
    (λ lt. rw (small_is z lt) (last_small bits z lt s))
    (λ le.
    let more = more_bits bits (size z) le s in
    let e : bits - 1 ≡ (bits - 7 - 1) + 7 = omega arith in
    let q : 2 ^ (bits - 1) ≡ 2 ^ (bits - 7 - 1) * 128 = ap (λ k. 2 ^ k) e ∙ pow-add 2 (bits - 7 - 1) 7 in
    let t = size_high z in
    let l = low_fits z in
    rw (large_is z le) (SpellsNumber-more last_signed join_signed bits (low z + 128) (signed_text most (high z)) z (high z) (omega arith) (omega arith) more (joins z)
    (signed_spells most (bits - 7) (high z) (omega arith) (omega arith) (size_within (bits - 7) (high z) (omega arith)))))
    (cases_lt (size z) 64)

-- A number whose spelling is one last byte is less than 64 away from 0 or -1.
last_is : (bits b : ℕ) (z : ℤ) → b < 128 → last_signed bits b ≡ Some z → size z < 64
last_is bits b z small e = ⊎_elim
    (λ lt. let a = rw (lt-ltb b 64 lt) at e in ⊎_elim
    (λ fits. let h = rw (lt-ltb b (2 ^ (bits - 1)) fits) at a in let same : pos b ≡ z = cc in subst (λ w. size w < 64) same lt)
    (λ no. let h = rw (le-ltb b (2 ^ (bits - 1)) no) at a in cc)
    (cases_lt b (2 ^ (bits - 1))))
    (λ le. let a = rw (le-ltb b 64 le) at e in ⊎_elim
    (λ fits. let h = rw (lt-ltb (127 - b) (2 ^ (bits - 1)) fits) at a in let same : pos b -ℤ pos 128 ≡ z = cc in
    let v : pos b -ℤ pos 128 ≡ negsuc (127 - b) = omega (arith, ints) in subst (λ w. size w < 64) (sym v ∙ same) (omega arith))
    (λ no. let h = rw (le-ltb (127 - b) (2 ^ (bits - 1)) no) at a in cc)
    (cases_lt (127 - b) (2 ^ (bits - 1))))
    (cases_lt b 64)

high_is : (b : ℕ) (z h : ℤ) → 128 ≤ b → b < 256 → z ≡ join_signed b h → high z ≡ h
high_is b (pos n) (pos m) from below e = let k : n ≡ (b - 128) + 128 * m = omega (arith, ints) in let q : n / 128 ≡ m = omega arith in ap pos q
high_is b (pos n) (negsuc m) from below e = absurd (omega (arith, ints))
high_is b (negsuc n) (pos m) from below e = absurd (omega (arith, ints))
high_is b (negsuc n) (negsuc m) from below e = let k : n + (b - 128) ≡ 128 * m + 127 = omega (arith, ints) in let q : n / 128 ≡ m = omega arith in ap negsuc q

pub signed_least : (most bits : ℕ) (z : ℤ) (other : List ℕ) → Signed bits other z → length (signed_text most z) ≤ length other
unfolding signed_text
signed_least zero bits z other h = omega arith
signed_least (suc most) bits z [] h = absurd h
signed_least (suc most) bits z (b ∷ []) h = rw (small_is z (last_is bits b z h.0 h.1)) (omega arith)
signed_least (suc most) bits z (b ∷ c ∷ bs) h = ⊎_elim
    (λ lt. rw (small_is z lt) (omega arith))
    (λ le. let e = high_is b z h.3 h.0 h.1 h.4 in rw (large_is z le, e) (omega (arith, signed_least most (bits - 7) h.3 (c ∷ bs) h.5)))
    (cases_lt (size z) 64)

pub signed_shortest : (most bits : ℕ) (z : ℤ) → bits ≤ 7 * most → 0 < bits → IsWithin bits z → IsShortest (Signed bits) (signed_text most z) z
signed_shortest most bits z room some w = record { spells = signed_spells most bits z room some w; least = signed_least most bits z }
