-- Traces of one machine: that of fewer steps is a prefix of that of more steps.
use Rattle.std.proofs.Common.{◌≡◌, ℕ, zero, suc, ◌+◌, ◌-◌, ◌≤◌, List, [], ◌++◌, Option, Some, None, refl, sym, ap, subst, ◌∙◌, arith, append_assoc}
use Rattle.std.specs.List.{cons_option}
use Rattle.base_simulation.specs.Machines.{Machine, events_of, state_after, IsPrefix, ShorterRunsArePrefixes}

-- ---- prefixes ----

noted_append : {E : Type 0} (e : Option E) (xs ys : List E) → cons_option e xs ++ ys ≡ cons_option e (xs ++ ys)
noted_append None xs ys = refl
noted_append (Some e) xs ys = refl

pub record Prefix {E : Type 0} (xs ys : List E) : Type 0 where
  pub rest : List E
  pub is : xs ++ rest ≡ ys

pub prefix_nil : {E : Type 0} (ys : List E) → Prefix [] ys
prefix_nil ys = record { rest = ys; is = refl }

pub prefix_trans : {E : Type 0} {xs ys zs : List E} → Prefix xs ys → Prefix ys zs → Prefix xs zs
prefix_trans {xs = xs} p q = record { rest = p.rest ++ q.rest; is = sym (append_assoc xs p.rest q.rest) ∙ ap (λ l. l ++ q.rest) p.is ∙ q.is }

pub prefix_noted : {E : Type 0} {xs ys : List E} (e : Option E) → Prefix xs ys → Prefix (cons_option e xs) (cons_option e ys)
prefix_noted {xs = xs} e p = record { rest = p.rest; is = noted_append e xs p.rest ∙ ap (cons_option e) p.is }

pub prefix_append : {E : Type 0} {xs ys : List E} (zs : List E) → Prefix xs ys → Prefix (zs ++ xs) (zs ++ ys)
prefix_append {xs = xs} zs p = record { rest = p.rest; is = append_assoc zs xs p.rest ∙ ap (λ l. zs ++ l) p.is }

pub is_prefix : {E : Type 0} {xs ys : List E} → Prefix xs ys → IsPrefix xs ys
is_prefix p = (p.rest, p.is)

-- ---- one machine ----

module _ {S E : Type 0} (t : Machine S E) where
  pub events_add : (n m : ℕ) (s : S) → events_of t s (n + m) ≡ events_of t s n ++ events_of t (state_after t s n) m
  events_add zero m s = let e : zero + m ≡ m = omega arith in ap (events_of t s) e
  events_add (suc n) m s =
      let e : suc n + m ≡ suc (n + m) = omega arith in
      ap (events_of t s) e ∙ ap (cons_option (t s).1) (events_add n m (t s).0) ∙ sym (noted_append (t s).1 (events_of t (t s).0 n) _)

  pub more_events : (n m : ℕ) (s : S) → Prefix (events_of t s n) (events_of t s (n + m))
  more_events n m s = record { rest = events_of t (state_after t s n) m; is = sym (events_add n m s) }

  pub later : (n m : ℕ) (s : S) → n ≤ m → Prefix (events_of t s n) (events_of t s m)
  later n m s h = let e : n + (m - n) ≡ m = omega arith in subst (λ k. Prefix (events_of t s n) (events_of t s k)) e (more_events n (m - n) s)

  pub shorter : ShorterRunsArePrefixes t
  shorter s n k = is_prefix (more_events n k s)

  -- A prefix of the trace of some steps is a prefix of the trace of more steps.
  pub in_more_steps : (xs : List E) (n m : ℕ) (s : S) → n ≤ m → IsPrefix xs (events_of t s n) → IsPrefix xs (events_of t s m)
  in_more_steps xs n m s h p = is_prefix (prefix_trans (record { rest = p.0; is = p.1 }) (later n m s h))
