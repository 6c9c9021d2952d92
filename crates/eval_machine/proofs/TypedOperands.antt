-- Values that are taken off the stack by their types, which depends only on as many values as there
-- are types.
use Rattle.base_lists.proofs.Common.{◌≡◌, ℕ, zero, suc, ◌+◌, ◌<◌, ◌≤◌, arith, List, [], ◌∷◌, ◌++◌, length, reverse, Bool, true, false, Option, Some, None, refl, sym, ap, ◌∙◌, append_assoc}
use Rattle.std.proofs.lemmas.Grind.{reverse_onto}
use Rattle.std.proofs.lemmas.List.{append-nil}
use Rattle.base_lists.specs.Options.{◌>>=◌}
use Rattle.wasm_tree_spec.specs.Prelude.{ValType, same_type}
use Rattle.wasm_meaning.specs.Prelude.{Outcome, Gives, Traps, IllTyped, bind, onto, or_ill_typed, split_at, Val, pop, pop_typed, type_of, typed}

pub onto_is : {A : Type 0} (xs ys : List A) → onto xs ys ≡ reverse xs ++ ys
onto_is [] ys = refl
onto_is (x ∷ xs) ys = onto_is xs (x ∷ ys) ∙ (sym (append_assoc (reverse xs) (x ∷ []) ys) ∙ ap (λ l. l ++ ys) (sym (reverse_onto xs x [])))

pub onto_reverse : {A : Type 0} (xs : List A) → reverse xs ≡ onto xs []
onto_reverse xs = sym (append-nil (reverse xs)) ∙ sym (onto_is xs [])

pub onto_below : {A : Type 0} (xs ys : List A) → onto xs [] ++ ys ≡ onto xs ys
onto_below xs ys = ap (λ l. l ++ ys) (sym (onto_reverse xs)) ∙ sym (onto_is xs ys)

-- The values after one more value is taken off, by the last of the types.
abbrev one_more : ValType → List Val × List Val → Outcome (List Val × List Val)
one_more t p = bind (pop p.1) (λ q. bind (typed t q.0) (λ v. Gives (v ∷ p.0, q.1)))

abbrev rest_of : Outcome (List Val × List Val) → List Val
rest_of (Gives p) = p.1
rest_of _ = []

module _ (t : ValType) where
  more_size : (n : ℕ) (vs us : List Val) (v : Val) (ys xs rest : List Val) (b : Bool) → same_type t (type_of v) ≡ b → length vs ≡ n + length (v ∷ ys) → one_more t (us, v ∷ ys) ≡ Gives (xs, rest) → length vs ≡ suc n + length rest
  more_size n vs us v ys xs rest true e f g = let same : ys ≡ rest = ap rest_of (rw e at g) in omega (arith, f, ap length same)
  more_size n vs us v ys xs rest false e f g = absurd (let h = rw e at g in cc)

  size_at : (n : ℕ) (vs : List Val) (o : Outcome (List Val × List Val)) → ((us rest : List Val) → o ≡ Gives (us, rest) → length vs ≡ n + length rest) → (xs rest : List Val) → bind o (one_more t) ≡ Gives (xs, rest) → length vs ≡ suc n + length rest
  size_at n vs Traps f xs rest e = absurd (let g = e in cc)
  size_at n vs IllTyped f xs rest e = absurd (let g = e in cc)
  size_at n vs (Gives (us, [])) f xs rest e = absurd (let g = e in cc)
  size_at n vs (Gives (us, v ∷ ys)) f xs rest e = more_size n vs us v ys xs rest (same_type t (type_of v)) refl (f us (v ∷ ys) refl) e

pub pop_size : (ts : List ValType) (vs us rest : List Val) → pop_typed ts vs ≡ Gives (us, rest) → length vs ≡ length ts + length rest
pop_size [] vs us rest e = let same : vs ≡ rest = ap rest_of e in omega (arith, ap length same)
pop_size (t ∷ ts) vs us rest e = size_at t (length ts) vs (pop_typed ts vs) (pop_size ts vs) us rest e

short_at : (ts : List ValType) (vs : List Val) (o : Outcome (List Val × List Val)) → pop_typed ts vs ≡ o → length vs < length ts → (o ≡ Traps → ⊥) → o ≡ IllTyped
short_at ts vs Traps e lt n = absurd (n refl)
short_at ts vs IllTyped e lt n = refl
short_at ts vs (Gives (us, rest)) e lt n = absurd (omega (arith, lt, pop_size ts vs us rest e))

no_trap_at : (t : ValType) (o : Outcome (List Val × List Val)) → (o ≡ Traps → ⊥) → bind o (one_more t) ≡ Traps → ⊥
no_trap_at t Traps n e = n refl
no_trap_at t IllTyped n e = let g = e in cc
no_trap_at t (Gives (us, [])) n e = let g = e in cc
no_trap_at t (Gives (us, v ∷ ys)) n e = by (same_type t (type_of v)) refl
  where
    by : (b : Bool) → same_type t (type_of v) ≡ b → ⊥
    by true f = let g = rw f at e in cc
    by false f = let g = rw f at e in cc

no_trap : (ts : List ValType) (vs : List Val) → pop_typed ts vs ≡ Traps → ⊥
no_trap [] vs e = let g = e in cc
no_trap (t ∷ ts) vs e = no_trap_at t (pop_typed ts vs) (no_trap ts vs) e

-- Fewer values than types cannot be taken off.
pub pop_short : (ts : List ValType) (vs : List Val) → length vs < length ts → pop_typed ts vs ≡ IllTyped
pop_short ts vs lt = short_at ts vs (pop_typed ts vs) refl lt (no_trap ts vs)

-- ---- the values below do not matter ----

abbrev over : List Val → List Val × List Val → Outcome (List Val × List Val)
over below p = Gives (p.0, p.1 ++ below)

module _ (t : ValType) (below : List Val) where
  typed_over : (us : List Val) (v : Val) (ys : List Val) (b : Bool) → same_type t (type_of v) ≡ b → one_more t (us, v ∷ (ys ++ below)) ≡ bind (one_more t (us, v ∷ ys)) (over below)
  typed_over us v ys true e = rw e
  typed_over us v ys false e = rw e

  over_at : (n : ℕ) (vs : List Val) (o : Outcome (List Val × List Val)) → suc n ≤ length vs → ((us rest : List Val) → o ≡ Gives (us, rest) → length vs ≡ n + length rest) → bind (bind o (over below)) (one_more t) ≡ bind (bind o (one_more t)) (over below)
  over_at n vs Traps le f = refl
  over_at n vs IllTyped le f = refl
  over_at n vs (Gives (us, [])) le f = absurd (omega (arith, le, f us [] refl))
  over_at n vs (Gives (us, v ∷ ys)) le f = typed_over us v ys (same_type t (type_of v)) refl

pub pop_over : (ts : List ValType) (top below : List Val) → length ts ≤ length top → pop_typed ts (top ++ below) ≡ bind (pop_typed ts top) (over below)
pop_over [] top below le = refl
pop_over (t ∷ ts) top below le = ap (λ o. bind o (one_more t)) (pop_over ts top below (omega (arith, le))) ∙ over_at t below (length ts) top (pop_typed ts top) le (pop_size ts top)

-- ---- taking off as many values as there are types, and then these by their types ----

abbrev first_of : {A : Type 0} → Option (A × A) → A → A
first_of (Some p) a = p.0
first_of None a = a

abbrev second_of : {A : Type 0} → Option (A × A) → A → A
second_of (Some p) a = p.1
second_of None a = a

abbrev consed : {A : Type 0} → A → List A × List A → Option (List A × List A)
consed x p = Some (x ∷ p.0, p.1)

joins_at : {A : Type 0} (n : ℕ) (x : A) (xs a b : List A) (o : Option (List A × List A)) → ((c d : List A) → o ≡ Some (c, d) → (c ++ d ≡ xs) × (length c ≡ n)) → (o >>= consed x) ≡ Some (a, b) → (a ++ b ≡ x ∷ xs) × (length a ≡ suc n)
joins_at {A} n x xs a b None f e = absurd (let g = e in cc)
joins_at {A} n x xs a b (Some (c, d)) f e =
    let h = f c d refl in let p : x ∷ c ≡ a = ap (λ (o : Option (List A × List A)). first_of o []) e in let q : d ≡ b = ap (λ (o : Option (List A × List A)). second_of o []) e in (rw (← p, ← q) (ap (λ l. x ∷ l) h.0), rw (← p) (ap suc h.1))

pub split_joins : {A : Type 0} (n : ℕ) (xs a b : List A) → split_at n xs ≡ Some (a, b) → (a ++ b ≡ xs) × (length a ≡ n)
split_joins {A} zero xs a b e = let p : [] ≡ a = ap (λ (o : Option (List A × List A)). first_of o []) e in let q : xs ≡ b = ap (λ (o : Option (List A × List A)). second_of o []) e in (rw (← p, ← q), rw (← p))
split_joins {A} (suc n) [] a b e = absurd (let g = e in cc)
split_joins {A} (suc n) (x ∷ xs) a b e = joins_at n x xs a b (split_at n xs) (split_joins n xs) e

none_at : {A : Type 0} (n : ℕ) (x : A) (xs : List A) (o : Option (List A × List A)) → (o ≡ None → length xs < n) → (o >>= consed x) ≡ None → suc (length xs) < suc n
none_at n x xs None f e = let lt = f refl in omega (arith, lt)
none_at n x xs (Some p) f e = absurd (let g = e in cc)

pub split_none : {A : Type 0} (n : ℕ) (xs : List A) → split_at n xs ≡ None → length xs < n
split_none zero xs e = absurd (let g = e in cc)
split_none (suc n) [] e = omega arith
split_none (suc n) (x ∷ xs) e = none_at n x xs (split_at n xs) (split_none n xs) e

cut_at : {A : Type 0} (f : List Val → Outcome A) (below : List Val) (o : Outcome (List Val × List Val)) → bind o (λ p. f p.0) ≡ bind (bind o (over below)) (λ p. f p.0)
cut_at f below Traps = refl
cut_at f below IllTyped = refl
cut_at f below (Gives p) = refl

cut_by : {A : Type 0} (f : List Val → Outcome A) (ts : List ValType) (vs : List Val) (o : Option (List Val × List Val)) → split_at (length ts) vs ≡ o → bind (or_ill_typed o) (λ q. bind (pop_typed ts q.0) (λ p. f p.0)) ≡ bind (pop_typed ts vs) (λ p. f p.0)
cut_by f ts vs None e = rw (pop_short ts vs (split_none (length ts) vs e))
cut_by f ts vs (Some (top, below)) e =
    let j = split_joins (length ts) vs top below e in
    cut_at f below (pop_typed ts top) ∙ ap (λ o. bind o (λ p. f p.0)) (sym (pop_over ts top below (omega (arith, j.1))) ∙ ap (pop_typed ts) j.0)

-- The results of a frame are the same if as many values are taken off before they are taken by
-- their types.
pub results_cut : {A : Type 0} (f : List Val → Outcome A) (ts : List ValType) (vs : List Val) → bind (or_ill_typed (split_at (length ts) vs)) (λ q. bind (pop_typed ts q.0) (λ p. f p.0)) ≡ bind (pop_typed ts vs) (λ p. f p.0)
results_cut f ts vs = cut_by f ts vs (split_at (length ts) vs) refl
