-- The number of elements that are kept before a place: its sums, its order, and its value where all
-- elements are marked.
use Rattle.std.proofs.Common.{◌≡◌, ◌∙◌, ap, sym, refl, ℕ, zero, suc, ◌+◌, ◌<◌, ◌≤◌, List, [], ◌∷◌, length, drop, replicate, Bool, true, false, arith, true≢false}
use Rattle.base_kept.specs.Kept.{kept, is_marked, kept_before}

none_before : (n : ℕ) → kept_before [] n ≡ 0
none_before zero = refl
none_before (suc n) = refl

pub kept_length : {A : Type 0} (bs : List Bool) (xs : List A) → length (kept bs xs) ≡ kept_before bs (length xs)
kept_length [] xs = sym (none_before (length xs))
kept_length (b ∷ bs) [] = refl
kept_length (true ∷ bs) (x ∷ xs) = ap suc (kept_length bs xs)
kept_length (false ∷ bs) (x ∷ xs) = kept_length bs xs

pub before_sum : (bs : List Bool) (n z : ℕ) → kept_before bs (n + z) ≡ kept_before bs n + kept_before (drop n bs) z
before_sum bs zero z = ap (kept_before bs) (let e : 0 + z ≡ z = omega arith in e) ∙ (let e : kept_before bs z ≡ 0 + kept_before bs z = omega arith in e)
before_sum [] (suc n) z = none_before (suc n + z) ∙ (let e = none_before z in let f : 0 ≡ 0 + kept_before [] z = omega (arith, e) in f)
before_sum (true ∷ bs) (suc n) z = let e = before_sum bs n z in ap (kept_before (true ∷ bs)) (let m : suc n + z ≡ suc (n + z) = omega arith in m) ∙ (let f : suc (kept_before bs (n + z)) ≡ suc (kept_before bs n) + kept_before (drop n bs) z = omega (arith, e) in f)
before_sum (false ∷ bs) (suc n) z = ap (kept_before (false ∷ bs)) (let m : suc n + z ≡ suc (n + z) = omega arith in m) ∙ before_sum bs n z

pub before_less : (bs : List Bool) (z d : ℕ) → is_marked bs z ≡ true → z < d → kept_before bs z < kept_before bs d
before_less [] z d h l = absurd (true≢false (sym h))
before_less (b ∷ bs) z zero h l = absurd (omega arith)
before_less (true ∷ bs) zero (suc d) h l = omega arith
before_less (false ∷ bs) zero (suc d) h l = absurd (true≢false (sym h))
before_less (true ∷ bs) (suc z) (suc d) h l = let k = before_less bs z d h (omega arith) in omega (arith, k)
before_less (false ∷ bs) (suc z) (suc d) h l = before_less bs z d h (omega arith)

pub marked_within : (bs : List Bool) (z : ℕ) → is_marked bs z ≡ true → z < length bs
marked_within [] z h = absurd (true≢false (sym h))
marked_within (b ∷ bs) zero h = omega arith
marked_within (b ∷ bs) (suc z) h = let k = marked_within bs z h in omega (arith, k)

-- ---- all are marked ----

pub all_marked : (n x : ℕ) → x < n → is_marked (replicate n true) x ≡ true
all_marked zero x l = absurd (omega arith)
all_marked (suc n) zero l = refl
all_marked (suc n) (suc x) l = all_marked n x (omega arith)

pub all_before : (n x : ℕ) → x ≤ n → kept_before (replicate n true) x ≡ x
all_before n zero l = refl
all_before zero (suc x) l = absurd (omega arith)
all_before (suc n) (suc x) l = ap suc (all_before n x (omega arith))

pub drop_all : (n d : ℕ) → drop n (replicate (n + d) true) ≡ replicate d true
drop_all zero d = ap (λ m. replicate m true) (let e : 0 + d ≡ d = omega arith in e)
drop_all (suc n) d = ap (λ m. drop (suc n) (replicate m true)) (let e : suc n + d ≡ suc (n + d) = omega arith in e) ∙ drop_all n d
