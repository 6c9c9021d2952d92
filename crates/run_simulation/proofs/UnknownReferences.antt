-- Lists of references that are related but at unknown places.
use Rattle.base_lists.proofs.Common.{◌≡◌, ◌∙◌, ℕ, zero, suc, ◌+◌, ◌<◌, ◌≤◌, List, [], ◌∷◌, ◌++◌, length, Some, Bool, true, refl, ap, subst, arith, slice_get, then_rel, get_rel, length_rel}
use Rattle.wasm_meaning.specs.Prelude.{RefVal, split_at, slice, overwrite}
use Rattle.run_simulation.specs.Prelude.{Pairing, OptRel, none, some, ListRel, nil, cons, RefRel, RefsOff}

module _ (R : Pairing) (known : ℕ → Bool) where
  -- Two lists are related but at unknown places, where the first item has the place `from`.
  data Off : ℕ → List RefVal → List RefVal → Type 0 where
    off_nil : {from : ℕ} → Off from [] []
    off_cons : {from : ℕ} {x y : RefVal} {xs ys : List RefVal} → (known from ≡ true → RefRel R x y) → Off (suc from) xs ys → Off from (x ∷ xs) (y ∷ ys)

  some_of : {x y : RefVal} → OptRel (RefRel R) (Some x) (Some y) → RefRel R x y
  some_of (some p) = p

  known_at : (n m : ℕ) → n ≡ m → known m ≡ true → known n ≡ true
  known_at n m e k = ap known e ∙ k

  by_place : (from : ℕ) (xs ys : List RefVal) → length xs ≡ length ys → ((n : ℕ) → known (from + n) ≡ true → OptRel (RefRel R) (slice_get xs n) (slice_get ys n)) → Off from xs ys
  by_place from [] [] e h = off_nil
  by_place from [] (y ∷ ys) e h = absurd (omega (arith, e))
  by_place from (x ∷ xs) [] e h = absurd (omega (arith, e))
  by_place from (x ∷ xs) (y ∷ ys) e h =
      off_cons (λ k. some_of (h 0 (known_at (from + 0) from (omega arith) k))) (by_place (suc from) xs ys (omega (arith, e)) (λ n k. h (suc n) (known_at (from + suc n) (suc from + n) (omega arith) k)))

  off_length : {from : ℕ} {xs ys : List RefVal} → Off from xs ys → length xs ≡ length ys
  off_length off_nil = refl
  off_length (off_cons p r) = ap suc (off_length r)

  at_place : {from : ℕ} {xs ys : List RefVal} → Off from xs ys → (n : ℕ) → known (from + n) ≡ true → OptRel (RefRel R) (slice_get xs n) (slice_get ys n)
  at_place off_nil n k = none
  at_place {from} (off_cons p r) zero k = some (p (known_at from (from + 0) (omega arith) k))
  at_place {from} (off_cons p r) (suc n) k = at_place r n (known_at (suc from + n) (from + suc n) (omega arith) k)

  to_off : {xs ys : List RefVal} → RefsOff R known xs ys → Off 0 xs ys
  to_off {xs} {ys} r = by_place 0 xs ys r.size (λ n k. r.each n (known_at n (0 + n) (omega arith) k))

  of_off : {xs ys : List RefVal} → Off 0 xs ys → RefsOff R known xs ys
  of_off r = record { size = off_length r; each = λ n k. at_place r n (known_at (0 + n) n (omega arith) k) }

  -- Lists that are related at every place are related but at unknown places.
  any_off : {xs ys : List RefVal} (from : ℕ) → ListRel (RefRel R) xs ys → Off from xs ys
  any_off from nil = off_nil
  any_off from (cons p r) = off_cons (λ _. p) (any_off (suc from) r)

  -- Lists of which every place is known are related at every place.
  all_known : {from : ℕ} {xs ys : List RefVal} → Off from xs ys → ((n : ℕ) → from ≤ n → n < from + length xs → known n ≡ true) → ListRel (RefRel R) xs ys
  all_known off_nil h = nil
  all_known {from} (off_cons p r) h = cons (p (h from (omega arith) (omega arith))) (all_known r (λ n a b. h n (omega (arith, a)) (omega (arith, b))))

  append_off : {from : ℕ} {ps qs xs ys : List RefVal} (m : ℕ) → Off from ps qs → m ≡ from + length ps → Off m xs ys → Off from (ps ++ xs) (qs ++ ys)
  append_off {from} {xs = xs} {ys = ys} m off_nil e r = subst (λ n. Off n xs ys) (let same : m ≡ from = omega (arith, e) in same) r
  append_off m (off_cons p s) e r = off_cons p (append_off m s (omega (arith, e)) r)

  -- The first `n` items are related but at unknown places, and so are the items after these.
  record SplitOff (from n : ℕ) (p q : List RefVal × List RefVal) : Type 0 where
    first : Off from p.0 q.0
    many : length p.0 ≡ n
    second : Off (from + n) p.1 q.1

  split_off : {from : ℕ} {xs ys : List RefVal} (n : ℕ) → Off from xs ys → OptRel (SplitOff from n) (split_at n xs) (split_at n ys)
  split_off {from} {xs} {ys} zero r = some (record { first = off_nil; many = refl; second = subst (λ m. Off m xs ys) (let same : from ≡ from + 0 = omega arith in same) r })
  split_off (suc n) off_nil = none
  split_off {from} (suc n) (off_cons p r) =
      then_rel (split_off n r) (λ a b q. some (record { first = off_cons p q.first; many = ap suc q.many; second = subst (λ m. Off m a.1 b.1) (let same : suc from + n ≡ from + suc n = omega arith in same) q.second }))

  -- A range of which every place is known is related.
  pub slice_off : {xs ys : List RefVal} (place n : ℕ) → RefsOff R known xs ys → ((m : ℕ) → place ≤ m → m < place + n → known m ≡ true) → OptRel (ListRel (RefRel R)) (slice xs place n) (slice ys place n)
  slice_off place n r h =
      then_rel (split_off place (to_off r)) (λ _ _ p. then_rel (split_off n p.second) (λ a b q. some (all_known q.first (λ m l k.
      let many = q.many in h m (omega (arith, l)) (omega (arith, k, many))))))

  -- Related references that are written into both lists leave them related but at unknown places.
  pub overwrite_off : {xs ys vs ws : List RefVal} (place : ℕ) → RefsOff R known xs ys → ListRel (RefRel R) vs ws → OptRel (RefsOff R known) (overwrite xs place vs) (overwrite ys place ws)
  overwrite_off {vs = vs} {ws = ws} place r s =
      then_rel (split_off place (to_off r)) (λ a b p.
      let part = subst (λ n. OptRel (SplitOff (0 + place) (length vs)) (split_at (length vs) a.1) (split_at n b.1)) (length_rel s) (split_off (length vs) p.second) in
      then_rel part (λ _ _ q. let many = p.many in
      some (of_off (append_off (0 + place) p.first (omega (arith, many)) (append_off (0 + place + length vs) (any_off (0 + place) s) (omega arith) q.second)))))

pub refs_off : (R : Pairing) (known : ℕ → Bool) (xs ys : List RefVal) → ListRel (RefRel R) xs ys → RefsOff R known xs ys
refs_off R known xs ys r = record { size = length_rel r; each = λ n _. get_rel r n }

pub refs_related : (R : Pairing) (xs ys : List RefVal) → RefsOff R (λ n. true) xs ys → ListRel (RefRel R) xs ys
refs_related R xs ys r = all_known R (λ n. true) (to_off R (λ n. true) r) (λ n _ _. refl)
