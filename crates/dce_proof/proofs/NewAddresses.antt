-- The new addresses when some of the definitions of a module are removed, and what the entries of
-- index spaces name then.
use Rattle.base_lists.proofs.Common.{◌≡◌, ◌∙◌, ap, sym, refl, ℕ, ◌+◌, ◌-◌, ◌<◌, ◌≤◌, ◌&&◌, ◌⊎◌, inl, inr, List, ◌++◌, length, drop, Bool, true, false, cond, nat_eq, nat_lt, arith, slice_get, cases_lt, eq-eqb, eqb-true, ltb-true, nat_tests, left_true, right_true, numbers_at, append_at_left}
use Rattle.base_lists.proofs.Common.{append_left, append_right, slice_get_there, get_rel, opt_at, opt_self}
use Rattle.base_lists.specs.Places.{numbers}
use Rattle.run_simulation.specs.Prelude.{OptRel, some, ListRel}
use Rattle.base_kept.specs.Kept.{kept, is_marked, kept_before}
use Rattle.base_kept.proofs.Laws.{kept_at, marked_drop, marked_apart}
use Rattle.dce_proof.proofs.MarkCounts.{kept_length, before_sum, before_less}

-- ---- addresses ----

-- An address of the environment's own stays. The address of a marked definition, behind those,
-- becomes the address of its place among the definitions that are kept.
abbrev pub goes_to : (own : ℕ) → List Bool → (a b : ℕ) → Bool
goes_to own bs a b = cond (nat_lt a own) (nat_eq a b) (is_marked bs (a - own) && nat_eq b (own + kept_before bs (a - own)))

pub data MovesTo (own : ℕ) (bs : List Bool) (a b : ℕ) : Type 0 where
  own_stays : a < own → a ≡ b → MovesTo own bs a b
  is_kept : (x : ℕ) → a ≡ own + x → is_marked bs x ≡ true → b ≡ own + kept_before bs x → MovesTo own bs a b

pub goes_is : (own : ℕ) (bs : List Bool) (a b : ℕ) → goes_to own bs a b ≡ true → MovesTo own bs a b
goes_is own bs a b h = by (nat_lt a own) refl h
  where
    by : (c : Bool) → nat_lt a own ≡ c → cond c (nat_eq a b) (is_marked bs (a - own) && nat_eq b (own + kept_before bs (a - own))) ≡ true → MovesTo own bs a b
    by true e k = own_stays (ltb-true a own e) (eqb-true a b k)
    by false e k = let l : own ≤ a = grind (arith, nat_tests, e) in is_kept (a - own) (omega (arith, l)) (left_true _ _ k) (eqb-true b _ (right_true (is_marked bs (a - own)) _ k))

pub is_goes : (own : ℕ) (bs : List Bool) (a b : ℕ) → MovesTo own bs a b → goes_to own bs a b ≡ true
is_goes own bs a b (own_stays l e) = grind (arith, nat_tests)
is_goes own bs a b (is_kept x e h f) =
    let z : a - own ≡ x = omega arith in
    let high : nat_lt a own ≡ false = grind (arith, nat_tests) in
    rw (high, z, h) (eq-eqb b (own + kept_before bs x) f)

pub goes_right : {own : ℕ} {bs : List Bool} {a b c : ℕ} → MovesTo own bs a b → MovesTo own bs a c → b ≡ c
goes_right (own_stays l e) (own_stays m f) = sym e ∙ f
goes_right (own_stays l e) (is_kept x p q r) = absurd (omega arith)
goes_right (is_kept x p q r) (own_stays l e) = absurd (omega arith)
goes_right {own} {bs} (is_kept x p m e) (is_kept y q n f) = let same : x ≡ y = omega arith in e ∙ ap (λ z. own + kept_before bs z) same ∙ sym f

pub goes_left : {own : ℕ} {bs : List Bool} {a b c : ℕ} → MovesTo own bs a c → MovesTo own bs b c → a ≡ b
goes_left (own_stays l e) (own_stays m f) = e ∙ sym f
goes_left (own_stays l e) (is_kept x p q r) = absurd (omega arith)
goes_left (is_kept x p q r) (own_stays l e) = absurd (omega arith)
goes_left {own} {bs} (is_kept x p m e) (is_kept y q n f) = let same = marked_apart bs x y m n (omega arith) in omega (arith, same)

-- ---- index spaces ----

-- An index space is a list of imported addresses and then consecutive ones. An index that is kept
-- names, at its place among those that are kept, the entity that it named.
pub space_moves : (P : ℕ → ℕ → Type 0) (l m : List ℕ) (bs : List Bool) (from count fewer : ℕ) → ListRel P l l → m ≡ kept bs l → kept_before (drop (length l) bs) count ≤ fewer →
    ((z : ℕ) → z < count → is_marked (drop (length l) bs) z ≡ true → P (from + z) (from + kept_before (drop (length l) bs) z)) → (x : ℕ) → x < length l + count → is_marked bs x ≡ true →
    OptRel P (slice_get (l ++ numbers from count) x) (slice_get (m ++ numbers from fewer) (kept_before bs x))
space_moves P l m bs from count fewer r are many related x h marked = by (cases_lt x (length l))
  where
    by : (x < length l) ⊎ (length l ≤ x) → OptRel P (slice_get (l ++ numbers from count) x) (slice_get (m ++ numbers from fewer) (kept_before bs x))
    by (inl k) =
        let a = slice_get_there l x k in
        let moved = kept_at bs l x a.0 marked a.1 in
        opt_at (append_left l (numbers from count) x k ∙ a.1) (ap (λ ys. slice_get (ys ++ numbers from fewer) (kept_before bs x)) are ∙ append_at_left (kept bs l) (numbers from fewer) (kept_before bs x) a.0 moved)
        (some (opt_self (get_rel r x) a.1))
    by (inr k) =
        let z = x - length l in
        let first : x ≡ length l + z = omega arith in
        let here : is_marked (drop (length l) bs) z ≡ true = marked_drop bs (length l) z ∙ ap (is_marked bs) (sym first) ∙ marked in
        let low : z < count = omega arith in
        let less = before_less (drop (length l) bs) z count here low in
        let sum = before_sum bs (length l) z in
        let size = kept_length bs l in
        let second : kept_before bs x ≡ length m + kept_before (drop (length l) bs) z = ap (kept_before bs) first ∙ sum ∙ ap (λ n. n + kept_before (drop (length l) bs) z) (sym size ∙ ap length (sym are)) in
        opt_at (ap (slice_get (l ++ numbers from count)) first ∙ append_right l _ z ∙ numbers_at from count z low)
        (ap (slice_get (m ++ numbers from fewer)) second ∙ append_right m _ (kept_before (drop (length l) bs) z) ∙ numbers_at from fewer (kept_before (drop (length l) bs) z) (omega (arith, less, many)))
        (some (related z low here))
