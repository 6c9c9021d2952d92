-- Laws of a text that is written in front of others (in a buffer), and of a count that stops at the
-- greatest u64 (a size).
use Rattle.std.proofs.Common.{◌≡◌, ap, ◌⊎◌, inl, inr, ℕ, ◌+◌, ◌-◌, ◌^◌, ◌<◌, ◌≤◌, List, ◌++◌, length, length-append, arith}
use Rattle.std.proofs.lemmas.Bool.{cases_lt}
use Rattle.wasm_write.specs.Sizes.{counted}

pub longer : (b s : List ℕ) → length b ≤ length (s ++ b)
longer b s = omega (arith, length-append s b)

pub as_long : (b s : List ℕ) (f : ℕ → List ℕ) → f (length (s ++ b) - length b) ++ (s ++ b) ≡ f (length s) ++ (s ++ b)
as_long b s f = let e : length (s ++ b) - length b ≡ length s = omega (arith, length-append s b) in ap (λ n. f n ++ (s ++ b)) e

pub no_more : (s : ℕ) → counted s 0 ≡ s
no_more s = omega arith

pub added : (s : ℕ) (a b : List ℕ) → counted (counted s (length b)) (length a) ≡ counted s (length (a ++ b))
added s a b = omega (arith, length-append a b)

pub not_less : (s : ℕ) (a : List ℕ) → s ≤ counted s (length a)
not_less s a = omega arith

-- When the count has stopped, all sizes give the same count.
pub told : (s : ℕ) (a : List ℕ) (f : ℕ → List ℕ) → counted (counted s (length a)) (length (f (counted s (length a) - s))) ≡ counted (counted s (length a)) (length (f (length a)))
told s a f = by_room (cases_lt (s + length a) (2 ^ 64))
  where
    by_room : (s + length a < 2 ^ 64) ⊎ (2 ^ 64 ≤ s + length a) → counted (counted s (length a)) (length (f (counted s (length a) - s))) ≡ counted (counted s (length a)) (length (f (length a)))
    by_room (inl small) = let e : counted s (length a) - s ≡ length a = omega (arith, small) in ap (λ n. counted (counted s (length a)) (length (f n))) e
    by_room (inr full) = omega (arith, full)
