-- Related values are shown as the same to the embedder.
use Rattle.base_lists.proofs.Common.{◌≡◌, ℕ, List, [], ◌∷◌, ◌++◌, Option, Some, None, true, false, ◌⊎◌, inl, inr, refl, sym, ap, subst, ◌∙◌, eqb_tells, nat_eq, length_rel}
use Rattle.wasm_tree_spec.specs.Prelude.{Functions, FuncType}
use Rattle.wasm_meaning.specs.Prelude.{Pair, Val, Store, own_at, Function, show_all}
use Rattle.wasm_meaning.specs.Run.{place_of, numbered, show_func, show}
use Rattle.run_simulation.specs.Prelude.{Pairing, OneToOne, none, some, ListRel, nil, cons, func, extern, ValRel, number, reference, StoreRel}
use Rattle.run_simulation.specs.RelatedRuns.{ShowRel}

module _ (R : Pairing) (apart : OneToOne R) where
  eq_rel : {a b c d : ℕ} → R.of Functions a b → R.of Functions c d → nat_eq a c ≡ nat_eq b d
  eq_rel {a} {b} {c} {d} p q = go (eqb_tells a c) (eqb_tells b d)
    where
      go : ((nat_eq a c ≡ true) × (a ≡ c)) ⊎ ((nat_eq a c ≡ false) × (a ≡ c → ⊥)) → ((nat_eq b d ≡ true) × (b ≡ d)) ⊎ ((nat_eq b d ≡ false) × (b ≡ d → ⊥)) → nat_eq a c ≡ nat_eq b d
      go (inl e) (inl f) = e.0 ∙ sym f.0
      go (inl e) (inr f) = absurd (f.1 (apart.right a b d p (subst (λ x. R.of Functions x d) (sym e.1) q)))
      go (inr e) (inl f) = absurd (e.1 (apart.left a c b p (subst (λ x. R.of Functions c x) (sym f.1) q)))
      go (inr e) (inr f) = e.0 ∙ sym f.0

  place_rel : {xs ys : List ℕ} {a b : ℕ} → ListRel (R.of Functions) xs ys → R.of Functions a b → place_of xs a ≡ place_of ys b
  place_rel nil p = refl
  place_rel {a = a} {b = b} (cons {a = x} {b = y} {xs = xs} {ys = ys} q r) p = rw (eq_rel q p, place_rel r p)

  snoc_rel : {xs ys : List ℕ} {a b : ℕ} → ListRel (R.of Functions) xs ys → R.of Functions a b → ListRel (R.of Functions) (xs ++ a ∷ []) (ys ++ b ∷ [])
  snoc_rel nil p = cons p nil
  snoc_rel (cons q r) p = cons q (snoc_rel r p)

  numbered_rel : {xs ys : List ℕ} {a b : ℕ} (o : Option ℕ) → ListRel (R.of Functions) xs ys → R.of Functions a b → ShowRel R (numbered xs a o) (numbered ys b o)
  numbered_rel (Some k) r p = record { same = refl; shown = r }
  numbered_rel None r p = record { same = ap Function (length_rel r); shown = snoc_rel r p }

  show_func_rel : {xs ys : List ℕ} {a b : ℕ} (o : Option (Pair × FuncType)) → ListRel (R.of Functions) xs ys → R.of Functions a b → ShowRel R (show_func xs a o) (show_func ys b o)
  show_func_rel (Some p) r q = record { same = refl; shown = r }
  show_func_rel {xs} {a = a} None r q = rw (← (place_rel r q)) (numbered_rel (place_of xs a) r q)

  pub show_rel : {s t : Store} {xs ys : List ℕ} {v w : Val} → StoreRel R s t → ListRel (R.of Functions) xs ys → ValRel R v w → ShowRel R (show s xs v) (show t ys w)
  show_rel s r number = record { same = refl; shown = r }
  show_rel s r (reference (func none)) = record { same = refl; shown = r }
  show_rel {s = s} h r (reference (func (some {a = a} q))) = rw (← (h.owns q)) (show_func_rel (own_at s a) r q)
  show_rel s r (reference (extern {n = None})) = record { same = refl; shown = r }
  show_rel s r (reference (extern {n = Some n})) = record { same = refl; shown = r }

  pub show_all_rel : {s t : Store} {vs ws : List Val} → StoreRel R s t → ListRel (ValRel R) vs ws → (xs ys : List ℕ) → ListRel (R.of Functions) xs ys → ShowRel R (show_all s xs vs) (show_all t ys ws)
  show_all_rel s nil xs ys r = record { same = refl; shown = r }
  show_all_rel s (cons v vs) xs ys r =
      let one = show_rel s r v in let rest = show_all_rel s vs _ _ one.shown in record { same = rw (one.same, rest.same); shown = rest.shown }
