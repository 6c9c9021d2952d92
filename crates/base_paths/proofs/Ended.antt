-- The ends of paths: the function that follows a path finds its end, which is unique.
use Rattle.base_lists.proofs.Common.{◌≡◌, ◌∙◌, sym, ap, refl, subst, inl, inr, ℕ, zero, suc, ◌<◌, ◌≤◌, ◌-◌, List, [], ◌∷◌, length, arith, slice_get, Option, Some, None, slice_get_within, cases_eq, pigeons, Has, slice_get_there}
use Rattle.base_paths.specs.Paths.{Reaches, IsEnd, by_step, followed, the_end}
use Rattle.base_paths.specs.Paths.Reaches.{stop, go}

-- The path from a place ends after k steps, at e.
abbrev pub EndsIn : List (Option ℕ) → ℕ → ℕ → ℕ → Type 0
EndsIn steps zero n e = (slice_get steps n ≡ Some None) × (n ≡ e)
EndsIn steps (suc k) n e = (m : ℕ) × (slice_get steps n ≡ Some (Some m)) × EndsIn steps k m e

counted : (steps : List (Option ℕ)) (n e : ℕ) → Reaches steps n e → (k : ℕ) × EndsIn steps k n e
counted steps n e (stop _ h) = (0, (h, refl))
counted steps n e (go _ m _ h l) = let r = counted steps m e l in (suc r.0, (m, h, r.1))

same_count : (steps : List (Option ℕ)) (k j n e d : ℕ) → EndsIn steps k n e → EndsIn steps j n d → k ≡ j
same_count steps zero zero n e d a b = refl
same_count steps zero (suc j) n e d a b = let x = a.0 in let y = b.1 in cc
same_count steps (suc k) zero n e d a b = let x = a.1 in let y = b.0 in cc
same_count steps (suc k) (suc j) n e d a b =
    let x = a.1 in let y = b.1 in
    let same : a.0 ≡ b.0 = cc in
    ap suc (same_count steps k j b.0 e d (subst (λ (m : ℕ). EndsIn steps k m e) same a.2) b.2)

inside : (steps : List (Option ℕ)) (k n e : ℕ) → EndsIn steps k n e → n < length steps
inside steps zero n e h = slice_get_within steps n None h.0
inside steps (suc k) n e h = slice_get_within steps n (Some h.0) h.1

-- The place that the path from a place reaches after i steps.
abbrev node : List (Option ℕ) → ℕ → ℕ → ℕ
node steps zero n = n
node steps (suc i) n = by_step n (node steps i) n (slice_get steps n)

later : (steps : List (Option ℕ)) (i k n e : ℕ) → i ≤ k → EndsIn steps k n e → EndsIn steps (k - i) (node steps i n) e
later steps zero k n e h r = let z : k ≡ k - 0 = omega arith in subst (λ (x : ℕ). EndsIn steps x n e) z r
later steps (suc i) zero n e h r = absurd (omega arith)
later steps (suc i) (suc k) n e h r =
    let l = later steps i k r.0 e (omega arith) r.2 in
    let at : node steps (suc i) n ≡ node steps i r.0 = ap (by_step n (node steps i) n) r.1 in
    let less : k - i ≡ suc k - suc i = omega arith in
    subst (λ (x : ℕ). EndsIn steps x (node steps (suc i) n) e) less (subst (λ (x : ℕ). EndsIn steps (k - i) x e) (sym at) l)

numbers : ℕ → List ℕ
numbers zero = []
numbers (suc n) = n ∷ numbers n

length-numbers : (n : ℕ) → length (numbers n) ≡ n
unfolding numbers
length-numbers zero = refl
length-numbers (suc n) = ap suc (length-numbers n)

has_number : (n k : ℕ) → k < n → Has (numbers n) k
unfolding numbers
has_number zero k h = absurd (omega arith)
has_number (suc n) k h = elim (cases_eq k n) [
  | inl e ↦ (0, ap Some (sym e))
  | inr ne ↦ let r : Has (numbers n) k = has_number n k (omega arith) in (suc r.0, r.1)
]

-- A path that ends has at most as many places as the list.
short : (steps : List (Option ℕ)) (k n e : ℕ) → EndsIn steps k n e → suc k ≤ length steps
short steps k n e r =
    let most = pigeons (suc k) (λ i. node steps i n) (numbers (length steps))
    (λ i j hi hj same.
    let a = later steps i k n e (omega arith) r in
    let b = later steps j k n e (omega arith) r in
    let counts : k - i ≡ k - j = same_count steps (k - i) (k - j) (node steps j n) e e (subst (λ (x : ℕ). EndsIn steps (k - i) x e) same a) b in
    omega arith)
    (λ i h. has_number (length steps) (node steps i n) (inside steps (k - i) (node steps i n) e (later steps i k n e (omega arith) r))) in
    omega (arith, most, length-numbers (length steps))

followed_is : (steps : List (Option ℕ)) (k most n e : ℕ) → k < most → EndsIn steps k n e → followed steps most n ≡ Some e
followed_is steps k zero n e h r = absurd (omega arith)
followed_is steps zero (suc most) n e h r = ap (by_step None (followed steps most) (Some n)) r.0 ∙ ap Some r.1
followed_is steps (suc k) (suc most) n e h r = ap (by_step None (followed steps most) (Some n)) r.1 ∙ followed_is steps k most r.0 e (omega arith) r.2

sound : (steps : List (Option ℕ)) (most n e : ℕ) → followed steps most n ≡ Some e → Reaches steps n e
sound steps zero n e h = cc
sound steps (suc most) n e h = by steps most n e (slice_get steps n) refl h (λ m k. sound steps most m e k)
  where
    by : (steps : List (Option ℕ)) (most n e : ℕ) (o : Option (Option ℕ)) → slice_get steps n ≡ o → by_step None (followed steps most) (Some n) o ≡ Some e → ((m : ℕ) → followed steps most m ≡ Some e → Reaches steps m e) → Reaches steps n e
    by steps most n e None at h rest = cc
    by steps most n e (Some None) at h rest = let same : n ≡ e = cc in subst (Reaches steps n) same (stop n at)
    by steps most n e (Some (Some m)) at h rest = go n m e at (rest m h)

-- The function `the_end` gives the end of the path.
pub the_end_right : (steps : List (Option ℕ)) (n : ℕ) → IsEnd steps n (the_end steps n)
the_end_right steps n = by (followed steps (length steps) n) refl
  where
    by : (o : Option ℕ) → followed steps (length steps) n ≡ o → IsEnd steps n o
    by (Some e) h = sound steps (length steps) n e h
    by None h = λ e l. let c = counted steps n e l in let s = short steps c.0 n e c.1 in let f = followed_is steps c.0 (length steps) n e (omega arith) c.1 in absurd (cc)

-- A path has only one end.
pub one_end : (steps : List (Option ℕ)) (n : ℕ) (a b : Option ℕ) → IsEnd steps n a → IsEnd steps n b → a ≡ b
one_end steps n None None h k = refl
one_end steps n None (Some e) h k = absurd (h e k)
one_end steps n (Some e) None h k = absurd (k e h)
one_end steps n (Some d) (Some e) h k =
    let c = counted steps n d h in let f = followed_is steps c.0 (length steps) n d (let s = short steps c.0 n d c.1 in omega arith) c.1 in
    let g = counted steps n e k in let i = followed_is steps g.0 (length steps) n e (let s = short steps g.0 n e g.1 in omega arith) g.1 in
    cc

-- A list of the ends of all paths has at each place what `the_end` gives.
pub ends_told : (steps ends : List (Option ℕ)) → length ends ≡ length steps → ((n : ℕ) (end : Option ℕ) → slice_get ends n ≡ Some end → IsEnd steps n end)
    → (n : ℕ) → n < length steps → slice_get ends n ≡ Some (the_end steps n)
ends_told steps ends size right n h =
    let x = slice_get_there ends n (omega arith) in
    x.1 ∙ ap Some (one_end steps n x.0 (the_end steps n) (right n x.0 x.1) (the_end_right steps n))
