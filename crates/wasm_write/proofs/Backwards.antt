-- The bytes of a list are reversed from a position on, as the buffer holds the bytes in reverse
-- order.
use Rattle.base_lists.proofs.Common.{◌≡◌, ◌∙◌, ap, ap₂, ℕ, ◌-◌, List, ◌++◌, length, take, drop, reverse, append-nil, ◌≤◌, arith, length-drop, take_all, drop_all}

-- Reversing all bytes from a position on leaves none after them.
pub turned : (all : List ℕ) (n : ℕ) → n ≤ length all → take n all ++ (reverse (take (length all - n) (drop n all)) ++ drop (length all - n) (drop n all)) ≡ take n all ++ reverse (drop n all)
turned all n there =
    let many : length (drop n all) ≤ length all - n = omega (arith, length-drop n all) in
    ap (λ b. take n all ++ b) (ap₂ (λ a b. reverse a ++ b) (take_all (length all - n) (drop n all) many) (drop_all (length all - n) (drop n all) many) ∙ append-nil (reverse (drop n all)))
