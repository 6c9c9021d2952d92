-- A pair: a split with one secondary module.
use Rattle.base_lists.proofs.Common.{◌≡◌, ℕ, ◌<◌, List, Some, arith, append-nil, slice_get, ⊎_elim, IsStrictlyIncreasing, cases_lt, get_or_from_slice_get, slice_get_within}
use Rattle.std.proofs.lemmas.List.Kept.{AllPairs-from_increasing}
use Rattle.split_proof.specs.SplitLaws.{PairsCanBeSplit}

-- ---- numbers that rise ----

rises_once : (xs : List ℕ) → IsStrictlyIncreasing xs → (i j x : ℕ) → slice_get xs i ≡ Some x → slice_get xs j ≡ Some x → i ≡ j
rises_once xs up i j x a b = ⊎_elim (λ lt. absurd (apart i j x a b lt)) (λ le. ⊎_elim (λ lt. absurd (apart j i x b a lt)) (λ ge. omega (arith, le, ge)) (cases_lt j i)) (cases_lt i j)
  where
    apart : (i j x : ℕ) → slice_get xs i ≡ Some x → slice_get xs j ≡ Some x → i < j → ⊥
    apart i j x a b lt =
        let below = AllPairs-from_increasing xs up i j 0 lt (slice_get_within xs j x b) in
        let one = get_or_from_slice_get xs i x 0 a in
        let two = get_or_from_slice_get xs j x 0 b in
        omega (arith, below, one, two)

-- ---- the pair ----

-- A module can be split into a pair where no import has the namespace of the placeholders and no
-- export an added name.
pub pair_can_be_split : PairsCanBeSplit
pair_can_be_split names m moved valid bounded can up namespace prefix = record {
  valid = valid;
  bounded = bounded;
  can_move = can;
  once = λ i j func a b. rises_once moved up i j func a b;
  lists = append-nil moved;
  namespaces = λ slot lt. namespace;
  names_free = prefix;
}
