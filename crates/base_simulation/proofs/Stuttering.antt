-- Simulations with stuttering: one of two machines makes steps without an event on its own.
use Rattle.std.proofs.Common.{◌≡◌, ℕ, zero, suc, ◌+◌, ◌-◌, ◌*◌, ◌<◌, ◌≤◌, ◌++◌, ◌⊎◌, inl, inr, sym, ap, subst, ◌∙◌, arith}
use Rattle.std.proofs.lemmas.Bool.{cases_lt}
use Rattle.std.specs.List.{cons_option}
use Rattle.base_simulation.specs.Machines.{Machine, events_of, state_after}
use Rattle.base_simulation.specs.Simulations.{Follows, both, second, first, BudgetedTracesAreBounded, Answers, by_some, StutteringTracesAreBounded}
use Rattle.base_simulation.proofs.Prefixes.{Prefix, prefix_nil, prefix_trans, prefix_noted, prefix_append, is_prefix, events_add, later}

-- ---- a number of stuttering steps in all ----

module _ {S T E : Type 0} (t : Machine S E) (u : Machine T E) where
  there : (n : ℕ) {k d e : ℕ} {r : S} {q : T} → Follows t u k d e r q → n + d + e ≤ k → Prefix (events_of t r n) (events_of u q (n + d))
  there zero f h = prefix_nil _
  there (suc n) Follows.so_far h = absurd (omega arith)
  there (suc n) {d = d} {r = r} {q = q} (both p f) h =
      let more : suc (n + d) ≡ suc n + d = omega arith in
      subst (λ m. Prefix (events_of t r (suc n)) (events_of u q m)) more (subst (λ x. Prefix (cons_option x (events_of t (t r).0 n)) (events_of u q (suc (n + d)))) (sym p) (prefix_noted (u q).1 (there n f (omega arith))))
  there (suc n) {r = r} {q = q} (second {d = d} p f) h =
      let more : suc (suc n + d) ≡ suc n + suc d = omega arith in
      subst (λ m. Prefix (events_of t r (suc n)) (events_of u q m)) more (subst (λ x. Prefix (events_of t r (suc n)) (cons_option x (events_of u (u q).0 (suc n + d)))) (sym p) (there (suc n) f (omega arith)))
  there (suc n) {d = d} {r = r} {q = q} (first p f) h =
      subst (λ x. Prefix (cons_option x (events_of t (t r).0 n)) (events_of u q (suc n + d))) (sym p) (prefix_trans (there n f (omega arith)) (later u (n + d) (suc n + d) q (omega arith)))

  pub turned : {k d e : ℕ} {r : S} {q : T} → Follows t u k d e r q → Follows u t k e d q r
  turned Follows.so_far = Follows.so_far
  turned (both p f) = both (sym p) (turned f)
  turned (second p f) = first p (turned f)
  turned (first p f) = second p (turned f)

pub followed_traces_are_bounded : {S T E : Type 0} → BudgetedTracesAreBounded S T E
followed_traces_are_bounded t u d e r q f n = (is_prefix (there t u n (f (n + d + e)) (omega arith)), is_prefix (there u t n (turned t u (f (n + e + d))) (omega arith)))

-- ---- several steps for one ----

module _ {S T E : Type 0} (t : Machine S E) (u : Machine T E) (c : ℕ) where
  slower : {n : ℕ} {r : S} {q : T} → Answers t u c n r q → Prefix (events_of t r n) (events_of u q (c * n))
  slower Answers.so_far = prefix_nil _
  slower {r = r} {q = q} (by_some {n = n} further bound shown a) =
      let v = state_after u q (suc further) in
      let one : events_of t r 1 ++ events_of t (t r).0 n ≡ events_of t r (suc n) = (let k : 1 + n ≡ suc n = omega arith in sym (events_add t 1 n r) ∙ ap (events_of t r) k) in
      let b : events_of t r 1 ++ events_of u v (c * n) ≡ events_of u q (suc further + c * n) = ap (λ l. l ++ events_of u v (c * n)) (sym shown) ∙ sym (events_add u (suc further) (c * n) q) in
      let le : suc further + c * n ≤ c * suc n = omega (arith, bound) in
      prefix_trans (subst (λ l. Prefix (events_of t r (suc n)) l) b (subst (λ l. Prefix l (events_of t r 1 ++ events_of u v (c * n))) one (prefix_append (events_of t r 1) (slower a)))) (later u _ _ q le)

  no_faster : (n : ℕ) {k : ℕ} {r : S} {q : T} → n ≤ k → Answers t u c k r q → Prefix (events_of u q n) (events_of t r n)
  no_faster zero h a = prefix_nil _
  no_faster (suc n) h Answers.so_far = absurd (omega arith)
  no_faster (suc n) {r = r} {q = q} h (by_some {n = k} further bound shown a) = go (cases_lt further n) (λ m l. no_faster m l a)
    where
      go : (further < n) ⊎ (n ≤ further) → ((m : ℕ) → m ≤ k → Prefix (events_of u (state_after u q (suc further)) m) (events_of t (t r).0 m)) → Prefix (events_of u q (suc n)) (events_of t r (suc n))
      go (inr l) ih = prefix_trans (later u (suc n) (suc further) q (omega arith)) (subst (λ x. Prefix x (events_of t r (suc n))) (sym shown) (later t 1 (suc n) r (omega arith)))
      go (inl l) ih =
          let v = state_after u q (suc further) in
          let m = n - further in
          let b : events_of t r 1 ++ events_of u v m ≡ events_of u q (suc n) = ap (λ x. x ++ events_of u v m) (sym shown) ∙ sym (events_add u (suc further) m q) ∙ (let k : suc further + m ≡ suc n = omega arith in ap (events_of u q) k) in
          let one : events_of t r 1 ++ events_of t (t r).0 m ≡ events_of t r (suc m) = (let k : 1 + m ≡ suc m = omega arith in sym (events_add t 1 m r) ∙ ap (events_of t r) k) in
          prefix_trans (subst (λ x. Prefix x (events_of t r (suc m))) b (subst (λ x. Prefix (events_of t r 1 ++ events_of u v m) x) one (prefix_append (events_of t r 1) (ih m (omega arith))))) (later t (suc m) (suc n) r (omega arith))

pub answered_traces_are_bounded : {S T E : Type 0} → StutteringTracesAreBounded S T E
answered_traces_are_bounded t u c r q a n = (is_prefix (slower t u c (a n)), is_prefix (no_faster t u c n (omega arith) (a n)))
