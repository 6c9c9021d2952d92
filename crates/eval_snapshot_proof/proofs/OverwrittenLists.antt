-- A list of which a part is overwritten, place by place; and two such lists of references that are
-- related except at unknown places.
use Rattle.base_lists.proofs.Common.{◌≡◌, ◌∙◌, sym, ap, ap₂, refl, ℕ, zero, suc, ◌+◌, ◌-◌, ◌<◌, ◌≤◌, List, [], ◌∷◌, ◌++◌, length, Bool, true, Some, ◌⊎◌, inl, inr, arith, slice_get, cases_lt, length-append, slice_get_past, and_then_is, append_left, append_right, opt_at, overwrite_fits}
use Rattle.wasm_meaning.specs.Prelude.{overwrite, split_at, RefVal}
use Rattle.run_simulation.specs.Prelude.{Pairing, OptRel, none, RefRel, RefsOff}

-- The two parts of a list that is split at a place.
split_parts : {A : Type 0} (n : ℕ) (xs : List A) (p : List A × List A) → split_at n xs ≡ Some p → (length p.0 ≡ n) × (xs ≡ p.0 ++ p.1)
split_parts zero xs p e = let same : ([], xs) ≡ p = cc in rw (← same) (refl, refl)
split_parts (suc n) [] p e = absurd (let f = e in cc)
split_parts (suc n) (x ∷ xs) p e =
    let q = and_then_is (split_at n xs) (λ p. Some (x ∷ p.0, p.1)) p e in
    let r = split_parts n xs q.0 q.1 in
    let same : (x ∷ q.0.0, q.0.1) ≡ p = let f = q.2 in cc in
    rw (← same) (ap suc r.0, ap (λ l. x ∷ l) r.1)

-- The elements before, in and behind the part of a list that is overwritten.
pub record WrittenOver {A : Type 0} (xs : List A) (n : ℕ) (ys zs : List A) : Type 0 where
  pub before : List A
  pub old : List A
  pub after : List A
  pub was : xs ≡ before ++ (old ++ after)
  pub now : zs ≡ before ++ (ys ++ after)
  pub at : length before ≡ n
  pub as_many : length old ≡ length ys

pub written_over : {A : Type 0} (xs : List A) (n : ℕ) (ys zs : List A) → overwrite xs n ys ≡ Some zs → WrittenOver xs n ys zs
written_over xs n ys zs e =
    let p = and_then_is (split_at n xs) _ zs e in
    let q = and_then_is (split_at (length ys) p.0.1) _ zs p.2 in
    let a = split_parts n xs p.0 p.1 in
    let b = split_parts (length ys) p.0.1 q.0 q.1 in
    let same : p.0.0 ++ (ys ++ q.0.1) ≡ zs = let f = q.2 in cc in
    record { before = p.0.0; old = q.0.0; after = q.0.1; was = a.1 ∙ ap (λ l. p.0.0 ++ l) b.1; now = sym same; at = a.0; as_many = b.0 }

module _ {A : Type 0} (xs : List A) (n : ℕ) (ys zs : List A) (w : WrittenOver xs n ys zs) where
  pub fits : n + length ys ≤ length xs
  fits =
      let e = ap length w.was in
      let f = length-append w.before (w.old ++ w.after) in
      let g = length-append w.old w.after in
      let a = w.at in
      let m = w.as_many in
      omega (arith, e, f, g, a, m)

  pub as_long : length zs ≡ length xs
  as_long =
      let d = ap length w.was in
      let e = ap length w.now in
      let f = length-append w.before (w.old ++ w.after) in
      let g = length-append w.old w.after in
      let h = length-append w.before (ys ++ w.after) in
      let k = length-append ys w.after in
      let m = w.as_many in
      omega (arith, d, e, f, g, h, k, m)

  pub inside : (k : ℕ) → k < length ys → slice_get zs (n + k) ≡ slice_get ys k
  inside k lt =
      let a = w.at in
      let z : n + k ≡ length w.before + k = omega (arith, a) in
      ap₂ slice_get w.now z ∙ append_right w.before (ys ++ w.after) k ∙ append_left ys w.after k lt

  pub in_front : (p : ℕ) → p < n → slice_get zs p ≡ slice_get xs p
  in_front p lt =
      let a = w.at in
      let low : p < length w.before = omega (arith, a, lt) in
      ap (λ l. slice_get l p) w.now ∙ append_left w.before (ys ++ w.after) p low ∙ sym (append_left w.before (w.old ++ w.after) p low) ∙ ap (λ l. slice_get l p) (sym w.was)

  pub behind_it : (p : ℕ) → n + length ys ≤ p → slice_get zs p ≡ slice_get xs p
  behind_it p le =
      let a = w.at in
      let m = w.as_many in
      let j = p - (n + length ys) in
      let z : p ≡ length w.before + (length ys + j) = omega (arith, a, le) in
      let y : p ≡ length w.before + (length w.old + j) = omega (arith, a, m, le) in
      ap₂ slice_get w.now z ∙ append_right w.before (ys ++ w.after) (length ys + j) ∙ append_right ys w.after j
      ∙ sym (ap₂ slice_get w.was y ∙ append_right w.before (w.old ++ w.after) (length w.old + j) ∙ append_right w.old w.after j)

-- ---- references that are related but at unknown places ----

-- A place that is known after the copy received a known item, or received none and was known
-- before.
pub record KnownAfter (old items after : ℕ → Bool) (place count size : ℕ) : Type 0 where
  pub came : (k : ℕ) → k < count → place + k < size → after (place + k) ≡ true → items k ≡ true
  pub stayed : (p : ℕ) → (p < place) ⊎ (place + count ≤ p) → p < size → after p ≡ true → old p ≡ true

module _ (R : Pairing) (old items after : ℕ → Bool) (xs ys vs ws : List RefVal) (place : ℕ) (before : RefsOff R old xs ys) (copied : RefsOff R items vs ws)
    (told : KnownAfter old items after place (length vs) (length xs)) (zs : List RefVal) (is : overwrite xs place vs ≡ Some zs) where
  w : WrittenOver xs place vs zs
  w = written_over xs place vs zs is

  pub record CopiedOff : Type 0 where
    pub slots : List RefVal
    pub written : overwrite ys place ws ≡ Some slots
    pub related : RefsOff R after zs slots

  pub copied_off : CopiedOff
  copied_off =
      let f = fits xs place vs zs w in
      let many = before.size in
      let same = copied.size in
      let o = overwrite_fits ys ws place (omega (arith, f, many, same)) in
      record { slots = o.0; written = o.1; related = at_each o.0 (written_over ys place ws o.0 o.1) }
    where
      at_each : (us : List RefVal) → WrittenOver ys place ws us → RefsOff R after zs us
      at_each us x = record {
        size = let a = as_long xs place vs zs w in let b = as_long ys place ws us x in let c = before.size in
            omega (arith, a, b, c);
        each = λ p k. by p k (cases_lt p (length xs));
      }
        where
          outside : (p : ℕ) → after p ≡ true → p < length xs → (p < place) ⊎ (place + length vs ≤ p) → OptRel (RefRel R) (slice_get zs p) (slice_get us p)
          outside p k low (inl lt) = opt_at (in_front xs place vs zs w p lt) (in_front ys place ws us x p lt) (before.each p (told.stayed p (inl lt) low k))
          outside p k low (inr le) = let same = copied.size in
              opt_at (behind_it xs place vs zs w p le) (behind_it ys place ws us x p (omega (arith, le, same))) (before.each p (told.stayed p (inr le) low k))

          within : (p : ℕ) → after p ≡ true → p < length xs → place ≤ p → p < place + length vs → OptRel (RefRel R) (slice_get zs p) (slice_get us p)
          within p k low le lt =
              let j = p - place in
              let z : p ≡ place + j = omega (arith, le) in
              let few : j < length vs = omega (arith, le, lt) in
              let same = copied.size in
              opt_at (ap (slice_get zs) z ∙ inside xs place vs zs w j few) (ap (slice_get us) z ∙ inside ys place ws us x j (omega (arith, few, same)))
              (copied.each j (told.came j few (omega (arith, low, z)) (ap after (sym z) ∙ k)))

          by : (p : ℕ) → after p ≡ true → (p < length xs) ⊎ (length xs ≤ p) → OptRel (RefRel R) (slice_get zs p) (slice_get us p)
          by p k (inr past) =
              let a = as_long xs place vs zs w in
              let b = as_long ys place ws us x in
              let c = before.size in
              opt_at (slice_get_past zs p (omega (arith, past, a))) (slice_get_past us p (omega (arith, past, b, c))) none
          by p k (inl low) = elim (cases_lt p place) [
            | inl lt ↦ outside p k low (inl lt)
            | inr le ↦ elim (cases_lt p (place + length vs)) [
              | inl lt ↦ within p k low le lt
              | inr more ↦ outside p k low (inr more)
            ]
          ]
