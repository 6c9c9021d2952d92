-- Lists that overwrite a part of other lists: whether they fit, and the elements afterwards.
use Rattle.base_lists.proofs.Common.{◌≡◌, ℕ, zero, suc, ◌+◌, ◌-◌, ◌<◌, ◌≤◌, List, [], ◌∷◌, ◌++◌, length, take, drop, true, false, cond, ◌&&◌, Some, None, refl, sym, ap, ◌∙◌, inl, inr, arith, nat_le, nat_lt, slice_get, cases_lt, lt-ltb, le-ltb, le-leb, lt-leb, drop-drop, length-drop, length-take-le}
use Rattle.base_lists.proofs.Common.{length-append, append_left, append_right, drop_at, split_take}
use Rattle.wasm_meaning.specs.Prelude.{overwrite}
use Rattle.eval_machine.proofs.OperandStacks.{split_short}

abbrev pub put_over : {A : Type 0} → List A → (at : ℕ) → List A → List A
put_over xs at ys = take at xs ++ (ys ++ drop (at + length ys) xs)

pub overwrite_in : {A : Type 0} (xs : List A) (at : ℕ) (ys : List A) → at + length ys ≤ length xs → overwrite xs at ys ≡ Some (put_over xs at ys)
overwrite_in xs at ys le =
    let rest : length (drop at xs) ≡ length xs - at = length-drop at xs in
    let fits : length ys ≤ length (drop at xs) = omega (arith, le, rest) in
    rw (split_take at xs (omega (arith, le)), split_take (length ys) (drop at xs) fits, drop-drop (length ys) at xs) refl

pub overwrite_out : {A : Type 0} (xs : List A) (at : ℕ) (ys : List A) → length xs < at + length ys → overwrite xs at ys ≡ None
overwrite_out xs at ys lt = elim (cases_lt (length xs) at) [
  | inl before ↦ rw (split_short at xs before) refl
  | inr le ↦
      let rest : length (drop at xs) ≡ length xs - at = length-drop at xs in
      let short : length (drop at xs) < length ys = omega (arith, lt, le, rest) in
      rw (split_take at xs le, split_short (length ys) (drop at xs) short) refl
]

take_at : {A : Type 0} (xs : List A) (n p : ℕ) → p < n → slice_get (take n xs) p ≡ slice_get xs p
take_at xs zero p lt = absurd (omega (arith, lt))
take_at [] (suc n) p lt = refl
take_at (x ∷ xs) (suc n) zero lt = refl
take_at (x ∷ xs) (suc n) (suc p) lt = take_at xs n p (omega (arith, lt))

module _ {A : Type 0} (xs : List A) (at : ℕ) (ys : List A) (fits : at + length ys ≤ length xs) where
  head_length : length (take at xs) ≡ at
  head_length = length-take-le at xs (omega (arith, fits))

  behind : (k : ℕ) → slice_get (put_over xs at ys) (at + k) ≡ slice_get (ys ++ drop (at + length ys) xs) k
  behind k = ap (λ n. slice_get (put_over xs at ys) (n + k)) (sym head_length) ∙ append_right (take at xs) (ys ++ drop (at + length ys) xs) k

  pub over_length : length (put_over xs at ys) ≡ length xs
  over_length = simp (length-append, length-drop) (omega (arith, head_length, fits))

  pub over_below : (p : ℕ) → p < at → slice_get (put_over xs at ys) p ≡ slice_get xs p
  over_below p lt = append_left (take at xs) (ys ++ drop (at + length ys) xs) p (omega (arith, lt, head_length)) ∙ take_at xs at p lt

  pub over_inside : (k : ℕ) → k < length ys → slice_get (put_over xs at ys) (at + k) ≡ slice_get ys k
  over_inside k lt = behind k ∙ append_left ys (drop (at + length ys) xs) k lt

  pub over_above : (k : ℕ) → slice_get (put_over xs at ys) (at + (length ys + k)) ≡ slice_get xs (at + (length ys + k))
  over_above k =
      let n : (at + length ys) + k ≡ at + (length ys + k) = omega arith in
      behind (length ys + k) ∙ (append_right ys (drop (at + length ys) xs) k ∙ (drop_at xs (at + length ys) k ∙ ap (slice_get xs) n))

  pub over_at : (p : ℕ) → slice_get (put_over xs at ys) p ≡ cond (nat_le at p && nat_lt p (at + length ys)) (slice_get ys (p - at)) (slice_get xs p)
  over_at p = elim (cases_lt p at) [
    | inl lt ↦ over_below p lt ∙ (let no : nat_le at p ≡ false = lt-leb at p lt in rw no refl)
    | inr le ↦ elim (cases_lt p (at + length ys)) [
      | inl lt ↦
          let yes : nat_le at p ≡ true = le-leb at p le in let more : nat_lt p (at + length ys) ≡ true = lt-ltb p (at + length ys) lt in
          let n : at + (p - at) ≡ p = omega (arith, le) in
          rw (yes, more) (ap (slice_get (put_over xs at ys)) (sym n) ∙ over_inside (p - at) (omega (arith, le, lt)))
      | inr ge ↦
          let yes : nat_le at p ≡ true = le-leb at p le in let more : nat_lt p (at + length ys) ≡ false = le-ltb p (at + length ys) ge in
          let n : at + (length ys + (p - (at + length ys))) ≡ p = omega (arith, ge) in
          rw (yes, more) (ap (slice_get (put_over xs at ys)) (sym n) ∙ (over_above (p - (at + length ys)) ∙ ap (slice_get xs) n))
    ]
  ]
