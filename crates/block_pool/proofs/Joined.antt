-- Two writes that follow one another are one.
use Rattle.base_lists.proofs.Common.{◌≡◌, ℕ, suc, ◌+◌, ◌-◌, ◌*◌, ◌<◌, ◌≤◌, List, [], ◌∷◌, ◌++◌, length, Bool, true, ◌&&◌, ◌||◌, nat_lt, slice_index, refl, sym, ap, ap₂, ◌∙◌, inl, inr, arith, add-zero, cases_lt, and_parts, ltb-true, get_or_append_left, get_or-append_right, same_tests, left_either}
use Rattle.base_lists.proofs.Common.{right_either, or-false, or_assoc}
use Rattle.std.proofs.Common.{length-append, take-append-drop}
use Rattle.std.proofs.Math.Bool.{or_comm}
use Rattle.std.proofs.lemmas.Bool.{or_cases}
use Rattle.block_pool.specs.Blocks.{with_part}
use Rattle.block_pool.specs.Pages.{Contents, Pages, WritesBytes, written_over, reaches, with_reached, size}
use Rattle.block_pool.proofs.Parts.{is_part, part_length, part_below, part_inside, part_above}
use Rattle.block_pool.proofs.Reached.{reaches_yes}

pub record Reaches (at n b : ℕ) : Type 0 where
  pub some : 0 < n
  pub before : at < 4096 * b + 4096
  pub behind : 4096 * b < at + n

pub reaches_is : (at n b : ℕ) → reaches at n b ≡ true → Reaches at n b
reaches_is at n b h =
    let p : (nat_lt 0 n ≡ true) × (nat_lt at (4096 * b + 4096) && nat_lt (4096 * b) (at + n) ≡ true) = and_parts _ _ h in
    let q : (nat_lt at (4096 * b + 4096) ≡ true) × (nat_lt (4096 * b) (at + n) ≡ true) = and_parts _ _ p.1 in
    record { some = ltb-true 0 n p.0; before = ltb-true at (4096 * b + 4096) q.0; behind = ltb-true (4096 * b) (at + n) q.1 }

pub reaches_from : (at n b : ℕ) → Reaches at n b → reaches at n b ≡ true
reaches_from at n b r = reaches_yes at n b r.some r.before r.behind

-- A range reaches the blocks that its two parts reach.
reaches_both : (at n m b : ℕ) → (reaches at n b || reaches (at + n) m b) ≡ reaches at (n + m) b
reaches_both at n m b =
    same_tests (reaches at n b || reaches (at + n) m b) (reaches at (n + m) b)
    (λ h. elim (or_cases (reaches at n b) (reaches (at + n) m b) h) [
      | inl f ↦ (let r : Reaches at n b = reaches_is at n b f in reaches_from at (n + m) b (record { some = omega arith; before = r.before; behind = omega arith }))
      | inr g ↦ (let r : Reaches (at + n) m b = reaches_is (at + n) m b g in reaches_from at (n + m) b (record { some = omega arith; before = omega arith; behind = omega arith }))
    ])
    (λ h.
    let r : Reaches at (n + m) b = reaches_is at (n + m) b h in
    elim (cases_lt (4096 * b) (at + n)) [
      | inl f ↦ elim (cases_lt 0 n) [
        | inl g ↦ left_either _ _ (reaches_from at n b (record { some = g; before = r.before; behind = f }))
        | inr g ↦ right_either _ _ (reaches_from (at + n) m b (record { some = omega arith; before = omega arith; behind = omega arith }))
      ]
      | inr f ↦ right_either _ _ (reaches_from (at + n) m b (record { some = omega arith; before = omega arith; behind = omega arith }))
    ])

pub reached_joined : (at n m j : ℕ) (ws : List Bool) → with_reached (at + n) m j (with_reached at n j ws) ≡ with_reached at (n + m) j ws
reached_joined at n m j [] = refl
reached_joined at n m j (w ∷ ws) =
    ap₂ (λ b bs. b ∷ bs) (or_assoc w (reaches at n j) (reaches (at + n) m j) ∙ ap (λ b. w || b) (reaches_both at n m j)) (reached_joined at n m (suc j) ws)

pub reached_back : (at n m j : ℕ) (ws : List Bool) → with_reached at n j (with_reached (at + n) m j ws) ≡ with_reached at (n + m) j ws
reached_back at n m j [] = refl
reached_back at n m j (w ∷ ws) =
    ap₂ (λ b bs. b ∷ bs)
    (or_assoc w (reaches (at + n) m j) (reaches at n j) ∙ ap (λ b. w || b) (or_comm (reaches (at + n) m j) (reaches at n j) ∙ reaches_both at n m j))
    (reached_back at n m (suc j) ws)

pub reached_none : (at j : ℕ) (ws : List Bool) → with_reached at 0 j ws ≡ ws
reached_none at j [] = refl
reached_none at j (w ∷ ws) = ap₂ (λ b bs. b ∷ bs) (or-false w) (reached_none at (suc j) ws)

module _ (xs : List ℕ) (at : ℕ) (ys zs : List ℕ) (fits : at + length ys + length zs ≤ length xs) where
  first : List ℕ
  first = with_part xs at ys

  both_length : length (ys ++ zs) ≡ length ys + length zs
  both_length = length-append ys zs

  left : (i : ℕ) → i < length ys → slice_index (ys ++ zs) i ≡ slice_index ys i
  left i h = get_or_append_left ys zs 0 i h

  right : (i : ℕ) → length ys ≤ i → slice_index (ys ++ zs) i ≡ slice_index zs (i - length ys)
  right i h = get_or-append_right ys zs (length ys) i 0 refl h

  all_fits : at + length (ys ++ zs) ≤ length xs
  all_fits = rw both_length (omega arith)

  pub part_joined : with_part (with_part xs at ys) (at + length ys) zs ≡ with_part xs at (ys ++ zs)
  part_joined =
      let small : at + length ys ≤ length xs = omega arith in
      let within : at + length ys + length zs ≤ length (with_part xs at ys) = rw (part_length xs at ys small) fits in
      is_part xs at (ys ++ zs) all_fits (with_part (with_part xs at ys) (at + length ys) zs)
      (part_length (with_part xs at ys) (at + length ys) zs within ∙ part_length xs at ys small)
      (λ i h. part_below (with_part xs at ys) (at + length ys) zs within i (omega arith) ∙ part_below xs at ys small i h)
      (λ i h k. elim (cases_lt i (at + length ys)) [
        | inl m ↦ part_below (with_part xs at ys) (at + length ys) zs within i m ∙ (part_inside xs at ys small i h m ∙ sym (left (i - at) (omega arith)))
        | inr m ↦ part_inside (with_part xs at ys) (at + length ys) zs within i m (omega (arith, both_length)) ∙ (ap (slice_index zs) (let e : i - (at + length ys) ≡ i - at - length ys = omega arith in e) ∙ sym (right (i - at) (omega arith)))
      ])
      (λ i h k. part_above (with_part xs at ys) (at + length ys) zs within i (omega (arith, both_length)) ∙ part_above xs at ys small i (omega (arith, both_length)))

  pub part_back : with_part (with_part xs (at + length ys) zs) at ys ≡ with_part xs at (ys ++ zs)
  part_back =
      let small : at + length ys ≤ length (with_part xs (at + length ys) zs) = rw (part_length xs (at + length ys) zs fits) (omega arith) in
      is_part xs at (ys ++ zs) all_fits (with_part (with_part xs (at + length ys) zs) at ys)
      (part_length (with_part xs (at + length ys) zs) at ys small ∙ part_length xs (at + length ys) zs fits)
      (λ i h. part_below (with_part xs (at + length ys) zs) at ys small i h ∙ part_below xs (at + length ys) zs fits i (omega arith))
      (λ i h k. elim (cases_lt i (at + length ys)) [
        | inl m ↦ part_inside (with_part xs (at + length ys) zs) at ys small i h m ∙ sym (left (i - at) (omega arith))
        | inr m ↦ part_above (with_part xs (at + length ys) zs) at ys small i m ∙ (part_inside xs (at + length ys) zs fits i m (omega (arith, both_length)) ∙ (ap (slice_index zs) (let e : i - (at + length ys) ≡ i - at - length ys = omega arith in e) ∙ sym (right (i - at) (omega arith))))
      ])
      (λ i h k. part_above (with_part xs (at + length ys) zs) at ys small i (omega (arith, both_length)) ∙ part_above xs (at + length ys) zs fits i (omega (arith, both_length)))

pub part_none : (xs : List ℕ) (at : ℕ) → with_part xs at [] ≡ xs
part_none xs at = rw add-zero (take-append-drop at xs)

pub contents_is : {c d : Contents} → c.bytes ≡ d.bytes → c.written ≡ d.written → c ≡ d
contents_is p q = ap₂ (λ b w. let c : Contents = record { bytes = b; written = w } in c) p q

pub writes_nothing : (p : Pages) (at : ℕ) → WritesBytes p p at []
writes_nothing p at = record { now = contents_is (sym (part_none p.now.bytes at)) (sym (reached_none at 0 p.now.written)); size = refl; flags = refl; mark = refl; most = refl; blocks = refl }

pub joined : (p q r : Pages) (at : ℕ) (ys zs : List ℕ) → at + length ys + length zs ≤ size p → WritesBytes p q at ys → WritesBytes q r (at + length ys) zs → WritesBytes p r at (ys ++ zs)
joined p q r at ys zs fits v w = record {
  now = w.now ∙ (ap (λ c. written_over c (at + length ys) zs) v.now ∙ contents_is (part_joined p.now.bytes at ys zs fits) (reached_joined at (length ys) (length zs) 0 p.now.written ∙ ap (λ n. with_reached at n 0 p.now.written) (sym (length-append ys zs))));
  size = w.size ∙ v.size;
  flags = w.flags ∙ v.flags;
  mark = w.mark ∙ v.mark;
  most = w.most ∙ v.most;
  blocks = w.blocks ∙ v.blocks;
}

pub joined_back : (p q r : Pages) (at : ℕ) (ys zs : List ℕ) → at + length ys + length zs ≤ size p → WritesBytes p q (at + length ys) zs → WritesBytes q r at ys → WritesBytes p r at (ys ++ zs)
joined_back p q r at ys zs fits v w = record {
  now = w.now ∙ (ap (λ c. written_over c at ys) v.now ∙ contents_is (part_back p.now.bytes at ys zs fits) (reached_back at (length ys) (length zs) 0 p.now.written ∙ ap (λ n. with_reached at n 0 p.now.written) (sym (length-append ys zs))));
  size = w.size ∙ v.size;
  flags = w.flags ∙ v.flags;
  mark = w.mark ∙ v.mark;
  most = w.most ∙ v.most;
  blocks = w.blocks ∙ v.blocks;
}
