-- Scanning a memory gives the places of its bytes that are not zero, one after another.
use Rattle.base_lists.proofs.Common.{◌≡◌, ◌≢◌, ◌∙◌, ap, ap₂, sym, refl, append_assoc, ℕ, zero, suc, ◌+◌, ◌-◌, ◌*◌, ◌<◌, ◌≤◌, Bool, true, false, cond, List, [], ◌∷◌, ◌++◌, drop, take, map, length, get_or, arith, nat_lt, slice_index, drop_more, get_or-drop, length-drop, take_more}
use Rattle.std.proofs.lemmas.List.{append-nil}
use Rattle.base_lists.specs.Places.{places}
use Rattle.block_pool.specs.Pages.{IsNextNonzero, IsZeroFrom, little, part}
use Rattle.wasm_tree_spec.specs.Prelude.{DataSeg}
use Rattle.eval_snapshot_spec.specs.Contents.{Stretch, is_joined, is_nonzero, stretches_from, stretches_over}
use Rattle.eval_snapshot.specs.Scan.{IsStretch, nonzero_from}

is_there : (b : ℕ) → b ≢ 0 → is_nonzero b ≡ true
is_there b n = grind (arith, n)

module _ (bytes : List ℕ) where
  one_on : (at : ℕ) → at < length bytes → nonzero_from bytes at ≡ cond (is_nonzero (slice_index bytes at)) (at ∷ nonzero_from bytes (at + 1)) (nonzero_from bytes (at + 1))
  one_on at lt =
      let next : suc at ≡ at + 1 = omega arith in
      ap (λ xs. places is_nonzero xs at) (drop_more bytes at 0 lt)
      ∙ ap (λ n. cond (is_nonzero (slice_index bytes at)) (at ∷ places is_nonzero (drop (at + 1) bytes) n) (places is_nonzero (drop (at + 1) bytes) n)) next

  zero_skipped : (at : ℕ) → at < length bytes → slice_index bytes at ≡ 0 → nonzero_from bytes at ≡ nonzero_from bytes (at + 1)
  zero_skipped at lt e = one_on at lt ∙ ap (λ b. cond (is_nonzero b) (at ∷ nonzero_from bytes (at + 1)) (nonzero_from bytes (at + 1))) e

  zeros_skipped : (n from : ℕ) → from + n ≤ length bytes → ((k : ℕ) → from ≤ k → k < from + n → slice_index bytes k ≡ 0) → nonzero_from bytes from ≡ nonzero_from bytes (from + n)
  zeros_skipped zero from le h = ap (nonzero_from bytes) (let e : from ≡ from + 0 = omega arith in e)
  zeros_skipped (suc n) from le h =
      let place : (from + 1) + n ≡ from + suc n = omega arith in
      zero_skipped from (omega (arith, le)) (h from (omega arith) (omega arith))
      ∙ zeros_skipped n (from + 1) (omega (arith, le)) (λ k ge lt. h k (omega (arith, ge)) (omega (arith, lt)))
      ∙ ap (nonzero_from bytes) place

  past_end : (xs : List ℕ) (n k : ℕ) → length xs ≤ n → places is_nonzero (drop n xs) k ≡ []
  past_end [] zero k le = refl
  past_end [] (suc n) k le = refl
  past_end (x ∷ xs) zero k le = absurd (omega (arith, le))
  past_end (x ∷ xs) (suc n) k le = past_end xs n k (omega (arith, le))

  pub next_is : (from at : ℕ) → IsNextNonzero bytes from at → nonzero_from bytes from ≡ at ∷ nonzero_from bytes (at + 1)
  next_is from at h =
      let behind = h.behind in
      let inside = h.inside in
      let place : from + (at - from) ≡ at = omega (arith, behind) in
      zeros_skipped (at - from) from (omega (arith, behind, inside)) (λ k ge lt. h.before k ge (omega (arith, lt, behind)))
      ∙ (ap (nonzero_from bytes) place ∙ (one_on at h.inside ∙ ap (λ b. cond b (at ∷ nonzero_from bytes (at + 1)) (nonzero_from bytes (at + 1))) (is_there (slice_index bytes at) h.nonzero)))

  pub none_is : (from : ℕ) → IsZeroFrom bytes from → nonzero_from bytes from ≡ []
  none_is from h =
      by (nat_lt (length bytes) from) refl
    where
      by : (b : Bool) → nat_lt (length bytes) from ≡ b → nonzero_from bytes from ≡ []
      by true e = past_end bytes from from (grind (arith, e))
      by false e =
          let le : from ≤ length bytes = grind (arith, e) in
          let place : from + (length bytes - from) ≡ length bytes = omega (arith, le) in
          zeros_skipped (length bytes - from) from (omega (arith, le)) (λ k ge lt. h k ge) ∙ (ap (nonzero_from bytes) place ∙ past_end bytes (length bytes) (length bytes) (omega arith))

  -- ---- where a segment ends ----

  -- The stretch continues to the next byte that is not zero if that byte is at most 256 places on.
  pub goes_on : (first last next : ℕ) → IsNextNonzero bytes (last + 1) next → next - last ≤ 256 → stretches_from first last (nonzero_from bytes (last + 1)) ≡ stretches_from first next (nonzero_from bytes (next + 1))
  goes_on first last next h le =
      let behind = h.behind in
      let near : is_joined last next ≡ true = grind (arith, behind, le) in
      ap (stretches_from first last) (next_is (last + 1) next h) ∙ ap (λ b. cond b (stretches_from first next (nonzero_from bytes (next + 1))) (record { first = first; last = last } ∷ stretches_from next next (nonzero_from bytes (next + 1)))) near

  pub ends_before : (first last next : ℕ) → IsNextNonzero bytes (last + 1) next → 256 < next - last → stretches_from first last (nonzero_from bytes (last + 1)) ≡ record { first = first; last = last } ∷ stretches_over (nonzero_from bytes (last + 1))
  ends_before first last next h lt =
      let far : is_joined last next ≡ false = grind (arith, lt) in
      let here = next_is (last + 1) next h in
      ap (stretches_from first last) here
      ∙ ap (λ b. cond b (stretches_from first next (nonzero_from bytes (next + 1))) (record { first = first; last = last } ∷ stretches_from next next (nonzero_from bytes (next + 1)))) far
      ∙ ap (λ ps. record { first = first; last = last } ∷ stretches_over ps) (sym here)

  pub ends_last : (first last : ℕ) → IsZeroFrom bytes (last + 1) → stretches_from first last (nonzero_from bytes (last + 1)) ≡ record { first = first; last = last } ∷ stretches_over (nonzero_from bytes (last + 1))
  ends_last first last h = let here = none_is (last + 1) h in ap (stretches_from first last) here ∙ ap (λ ps. record { first = first; last = last } ∷ stretches_over ps) (sym here)

-- ---- bytes and segments ----

-- A part of the bytes with the next byte appended is the part that is one longer.
pub part_more : (bytes xs : List ℕ) (first at value : ℕ) → first + at < length bytes → xs ≡ part bytes first at → value ≡ little (part bytes (first + at) 1) → xs ++ value ∷ [] ≡ part bytes first (at + 1)
part_more bytes xs first at value lt e v =
    let dropped = length-drop first bytes in
    let within : at < length (drop first bytes) = omega (arith, dropped, lt) in
    let here : value ≡ get_or (drop first bytes) at 0 =
    v ∙ (ap (λ ys. little (take 1 ys)) (drop_more bytes (first + at) 0 lt) ∙ ((let z : get_or bytes (first + at) 0 + 256 * 0 ≡ get_or bytes (first + at) 0 = omega arith in z) ∙ sym (get_or-drop first bytes at 0))) in
    ap₂ (λ ys b. ys ++ b ∷ []) e here ∙ sym (take_more (drop first bytes) at 0 within)

-- The segments that are made so far with the next one appended, and the remaining ones, are all
-- segments of the memory's contents.
pub contents_more : (f : Stretch → DataSeg) (bytes : List ℕ) (segments new all : List DataSeg) (d : DataSeg) (from first last : ℕ) → IsNextNonzero bytes from first → IsStretch bytes first last → d ≡ f (record { first = first; last = last }) → new ≡ segments ++ d ∷ [] →
    segments ++ map f (stretches_over (nonzero_from bytes from)) ≡ all → new ++ map f (stretches_over (nonzero_from bytes (last + 1))) ≡ all
contents_more f bytes segments new all d from first last h s e g k =
    ap (λ xs. xs ++ map f (stretches_over (nonzero_from bytes (last + 1)))) g
    ∙ (append_assoc segments (d ∷ []) (map f (stretches_over (nonzero_from bytes (last + 1))))
    ∙ (ap (λ x. segments ++ x ∷ map f (stretches_over (nonzero_from bytes (last + 1)))) e
    ∙ (ap (λ ss. segments ++ map f ss) (sym s.is) ∙ (ap (λ ps. segments ++ map f (stretches_over ps)) (sym (next_is bytes from first h)) ∙ k))))

pub contents_end : (f : Stretch → DataSeg) (bytes : List ℕ) (segments all : List DataSeg) (from : ℕ) → IsZeroFrom bytes from → segments ++ map f (stretches_over (nonzero_from bytes from)) ≡ all → segments ≡ all
contents_end f bytes segments all from h k = sym (append-nil segments) ∙ (ap (λ ps. segments ++ map f (stretches_over ps)) (sym (none_is bytes from h)) ∙ k)
