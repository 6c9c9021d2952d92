-- A walk of enough points along a path finds the end of the path, and no other end.
use Rattle.base_lists.proofs.Common.{◌≡◌, ◌∙◌, ap, subst, refl, ℕ, zero, suc, ◌-◌, ◌<◌, ◌≤◌, List, length, arith, Option, Some, None, ◌↔◌, ◌⊎◌, inl, inr, cases_lt, pigeons, Has}
use Rattle.wasm_meaning.specs.Prelude.{PathStep, EndsWith, LeadsTo, Path, ends, goes, walk_on, walk}
use Rattle.wasm_meaning.specs.Paths.{In, here, there}

in_has : {A : Type 0} {x : A} {xs : List A} → In x xs → Has xs x
in_has here = (0, refl)
in_has (there i) = let h = in_has i in (suc h.0, h.1)

module _ {A E : Type 0} (next : A → Option (PathStep A E)) where
  pub found : (n : ℕ) (a : A) (e : E) → walk next n a ≡ Some e → Path next a e
  found zero a e h = cc
  found (suc n) a e h = by (next a) refl (found n) h
    where
      by : (x : Option (PathStep A E)) → next a ≡ x → ((b : A) (e : E) → walk next n b ≡ Some e → Path next b e) → walk_on (walk next n) x ≡ Some e → Path next a e
      by None is more h = cc
      by (Some (EndsWith d)) is more h = let same : d ≡ e = cc in ends (is ∙ ap (λ d. Some (EndsWith d)) same)
      by (Some (LeadsTo b)) is more h = goes is (more b e h)

  -- The path from the point a has exactly n points after the first.
  record Exact (n : ℕ) (a : A) : Type 0 where
    end : E
    enough : walk next (suc n) a ≡ Some end
    fewer : walk next n a ≡ None

  record Long (a : A) (e : E) : Type 0 where
    points : ℕ
    enough : walk next (suc points) a ≡ Some e
    fewer : walk next points a ≡ None

  long : {a : A} {e : E} → Path next a e → Long a e
  long (ends h) = record { points = 0; enough = rw h refl; fewer = refl }
  long (goes h p) = let l = long p in record { points = suc l.points; enough = rw h l.enough; fewer = rw h l.fewer }

  later : (n m : ℕ) (a : A) (e : E) → n ≤ m → walk next n a ≡ Some e → walk next m a ≡ Some e
  later zero m a e l h = cc
  later (suc n) zero a e l h = absurd (omega (arith, l))
  later (suc n) (suc m) a e l h = by (next a) (λ b. later n m b e (omega (arith, l))) h
    where
      by : (x : Option (PathStep A E)) → ((b : A) → walk next n b ≡ Some e → walk next m b ≡ Some e) → walk_on (walk next n) x ≡ Some e → walk_on (walk next m) x ≡ Some e
      by None more h = cc
      by (Some (EndsWith d)) more h = h
      by (Some (LeadsTo b)) more h = more b h

  nothing : {e : E} {o : Option E} → o ≡ Some e → o ≡ None → ⊥
  nothing h k = cc

  unique : (n m : ℕ) (a : A) → Exact n a → Exact m a → n ≡ m
  unique n m a x y = by (cases_lt n m) (cases_lt m n)
    where
      by : (n < m) ⊎ (m ≤ n) → (m < n) ⊎ (n ≤ m) → n ≡ m
      by (inl l) c = absurd (nothing (later (suc n) m a x.end (omega (arith, l)) x.enough) y.fewer)
      by (inr l) (inl k) = absurd (nothing (later (suc m) n a y.end (omega (arith, k)) y.enough) x.fewer)
      by (inr l) (inr k) = omega (arith, l, k)

  -- The point that some steps lead to, by the first of these steps.
  abbrev point_on : (A → A) → A → Option (PathStep A E) → A
  point_on more a (Some (LeadsTo b)) = more b
  point_on more a (Some (EndsWith e)) = a
  point_on more a None = a

  abbrev point : ℕ → A → A
  point zero a = a
  point (suc i) a = point_on (point i) a (next a)

  record Further (n : ℕ) (a : A) : Type 0 where
    to : A
    is : next a ≡ Some (LeadsTo to)
    rest : Exact n to

  further : (n : ℕ) (a : A) → Exact (suc n) a → Further n a
  further n a x = by (next a) refl x.enough x.fewer
    where
      by : (o : Option (PathStep A E)) → next a ≡ o → walk_on (walk next (suc n)) o ≡ Some x.end → walk_on (walk next n) o ≡ None → Further n a
      by None is h k = absurd (nothing h refl)
      by (Some (EndsWith d)) is h k = absurd (nothing refl k)
      by (Some (LeadsTo b)) is h k = record { to = b; is = is; rest = record { end = x.end; enough = h; fewer = k } }

  point_exact : (i n : ℕ) (a : A) → i ≤ n → Exact n a → Exact (n - i) (point i a)
  point_exact zero n a l x = let e : n ≡ n - 0 = omega arith in subst (λ k. Exact k a) e x
  point_exact (suc i) zero a l x = absurd (omega (arith, l))
  point_exact (suc i) (suc n) a l x =
      let f = further n a x in
      let e : n - i ≡ suc n - suc i = omega arith in
      subst (λ k. Exact k (point (suc i) a)) e (rw f.is (point_exact i n f.to (omega (arith, l)) f.rest))

  module _ (few : List A) (all : (a b : A) → next a ≡ Some (LeadsTo b) → In b few) where
    point_in : (i n : ℕ) (a : A) → i < n → Exact n a → Has few (point (suc i) a)
    point_in i zero a l x = absurd (omega (arith, l))
    point_in zero (suc n) a l x = let f = further n a x in rw f.is (in_has (all a f.to f.is))
    point_in (suc i) (suc n) a l x = let f = further n a x in rw f.is (point_in i n f.to (omega (arith, l)) f.rest)

    differ : (n : ℕ) (a : A) → Exact n a → (i j : ℕ) → i < n → j < n → point (suc i) a ≡ point (suc j) a → i ≡ j
    differ n a x i j l k e =
        let same = unique (n - suc i) (n - suc j) (point (suc j) a) (subst (λ b. Exact (n - suc i) b) e (point_exact (suc i) n a (omega (arith, l)) x)) (point_exact (suc j) n a (omega (arith, k)) x) in
        omega (arith, same, l, k)

    reached : (a : A) (e : E) → Path next a e → walk next (suc (length few)) a ≡ Some e
    reached a e p =
        let l = long p in
        let x : Exact l.points a = record { end = e; enough = l.enough; fewer = l.fewer } in
        later (suc l.points) (suc (length few)) a e (omega (arith, pigeons l.points (λ i. point (suc i) a) few (differ l.points a x) (λ i k. point_in i l.points a k x))) l.enough

    pub walk_is : (a : A) (e : E) → Path next a e ↔ (walk next (suc (length few)) a ≡ Some e)
    walk_is a e = (reached a e, found (suc (length few)) a e)
