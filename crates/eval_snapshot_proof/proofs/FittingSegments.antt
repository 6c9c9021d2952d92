-- Segments that fit, copied one after the other, do not trap.
use Rattle.base_lists.proofs.Common.{◌≡◌, ◌≢◌, ◌∙◌, sym, ap, refl, subst, ℕ, suc, ◌+◌, ◌<◌, List, [], ◌∷◌, length, Option, Some, true, false, cond, ◌⊎◌, inl, inr, arith, slice_get, slice_set, nat_eq, eq-eqb, eqb_tells, length-set, same_Some, and_then_is, set_at, set_other, slice_get_there}
use Rattle.base_lists.specs.Options.{◌>>=◌}
use Rattle.wasm_meaning.specs.Prelude.{overwrite, Store, Filled, and_then}
use Rattle.world_simulation.specs.InstantiatedStores.{Copy, nothing, contents, over, all_over}
use Rattle.world_simulation.specs.SegmentCopies.{Kind, run, runs, IsOf, AreOf}

module _ {C S A : Type 0} (k : Kind C S A) where
  -- The table or memory to which the copy goes exists.
  abbrev pub GoesSomewhere : Store → Copy A → Type 0
  GoesSomewhere s nothing = Unit {0}
  GoesSomewhere s (contents to offset copied) = (a : ℕ) × (to ≡ Some a) × (a < length (k.holders s))

  -- The copies that go to an address all fit what is at that address.
  abbrev pub Fit : Store → List (Copy A) → Type 0
  Fit s cs = (a : ℕ) (c : C) → slice_get (k.holders s) a ≡ Some c → (xs : List A) × (all_over a cs (k.held c) ≡ Some xs)

  -- A copy does not trap. The store after it has as many tables or memories, into which the other
  -- copies fit, and the other segments are unchanged.
  record OneFits (s : Store) (n : ℕ) (c : Copy A) (cs : List (Copy A)) : Type 0 where
    after : Store
    is : run k s n c ≡ record { store = after; trapped = false }
    many : length (k.holders after) ≡ length (k.holders s)
    fit : Fit after cs
    other : (j : ℕ) → j ≢ n → slice_get (k.segments after) j ≡ slice_get (k.segments s) j

  run_is : (s : Store) (n a q : ℕ) (x : C) (e : S) (xs : List A) (copied : Option (List A)) → slice_get (k.holders s) a ≡ Some x → slice_get (k.segments s) n ≡ Some e →
      overwrite (k.held x) q (k.items e) ≡ Some xs →
      run k s n (contents (Some a) (Some q) copied) ≡ record { store = k.drop (k.put s a (k.holding x xs)) n; trapped = false }
  run_is s n a q x e xs copied x_is e_is w = rw (x_is, e_is, w) (k.filled s n a x xs)

  module _ (s : Store) (n a : ℕ) (cs : List (Copy A)) (e : S) (x : C) (x_is : slice_get (k.holders s) a ≡ Some x) (lt : a < length (k.holders s)) (offset : Option ℕ) (copied : Option (List A))
      (fits : Fit s (contents (Some a) offset copied ∷ cs)) where
    abbrev c : Copy A
    c = contents (Some a) offset copied

    -- The contents at the address after the copy.
    new : (xs : List A) × (over a c (k.held x) ≡ Some xs) × ((ys : List A) × (all_over a cs xs ≡ Some ys))
    new = let r = fits a x x_is in let o = and_then_is (over a c (k.held x)) (all_over a cs) r.0 r.1 in (o.0, o.1, (r.0, o.2))

    abbrev after : Store
    after = k.drop (k.put s a (k.holding x new.0)) n

    holders_are : k.holders after ≡ slice_set (k.holders s) a (k.holding x new.0)
    holders_are = k.holders_drop (k.put s a (k.holding x new.0)) n ∙ k.holders_put s a (k.holding x new.0)

    segments_are : k.segments after ≡ slice_set (k.segments s) n k.dropped
    segments_are = k.segments_drop (k.put s a (k.holding x new.0)) n ∙ ap (λ l. slice_set l n k.dropped) (k.segments_put s a (k.holding x new.0))

    written : (offset >>= λ q. copied >>= λ ys. overwrite (k.held x) q ys) ≡ Some new.0
    written = ap (λ b. cond b (offset >>= λ q. copied >>= λ ys. overwrite (k.held x) q ys) (Some (k.held x))) (sym (eq-eqb a a refl)) ∙ new.1

    rest_fits : Fit after cs
    rest_fits b y y_is = by (eqb_tells a b)
      where
        by : ((nat_eq a b ≡ true) × (a ≡ b)) ⊎ ((nat_eq a b ≡ false) × (a ≡ b → ⊥)) → (xs : List A) × (all_over b cs (k.held y) ≡ Some xs)
        by (inl h) =
            let same : k.holding x new.0 ≡ y =
            same_Some _ _ (sym (ap (slice_get (k.holders after)) (sym h.1) ∙ ap (λ l. slice_get l a) holders_are ∙ set_at (k.holders s) a (k.holding x new.0) lt) ∙ y_is) in
            (new.2.0, ap (λ b. all_over b cs (k.held y)) (sym h.1) ∙ ap (λ y. all_over a cs (k.held y)) (sym same) ∙ ap (all_over a cs) (k.held_holding x new.0) ∙ new.2.1)
        by (inr h) =
            let was : slice_get (k.holders s) b ≡ Some y = sym (ap (λ l. slice_get l b) holders_are ∙ set_other (k.holders s) a b (k.holding x new.0) (λ q. h.1 (sym q))) ∙ y_is in
            let r = fits b y was in
            (r.0, ap (λ t. cond t (offset >>= λ q. copied >>= λ ys. overwrite (k.held y) q ys) (Some (k.held y)) >>= all_over b cs) (sym h.0) ∙ r.1)

    goes : (ys : List A) → copied ≡ Some ys → ys ≡ k.items e → slice_get (k.segments s) n ≡ Some e → run k s n c ≡ record { store = after; trapped = false }
    goes ys copied_is same e_is =
        let q = and_then_is offset _ new.0 written in
        let w : overwrite (k.held x) q.0 (k.items e) ≡ Some new.0 = ap (overwrite (k.held x) q.0) (sym same) ∙ ap (λ o. o >>= λ ys. overwrite (k.held x) q.0 ys) (sym copied_is) ∙ q.2 in
        ap (λ o. run k s n (contents (Some a) o copied)) q.1 ∙ run_is s n a q.0 x e new.0 copied x_is e_is w

    one_goes : copied ≡ Some (k.items e) → slice_get (k.segments s) n ≡ Some e → OneFits s n c cs
    one_goes of is = record {
      after = after;
      is = goes (k.items e) of refl is;
      many = ap length holders_are ∙ length-set (k.holders s) a (k.holding x new.0);
      fit = rest_fits;
      other = λ j ne. ap (λ l. slice_get l j) segments_are ∙ set_other (k.segments s) n j k.dropped ne;
    }

  one_fits : (s : Store) (n : ℕ) (c : Copy A) (cs : List (Copy A)) (e : S) → slice_get (k.segments s) n ≡ Some e → IsOf k c e → GoesSomewhere s c → Fit s (c ∷ cs) → OneFits s n c cs
  one_fits s n nothing cs e is of to fits = record { after = s; is = refl; many = refl; fit = fits; other = λ j ne. refl }
  one_fits s n (contents to offset copied) cs e is of goes fits =
      let x = slice_get_there (k.holders s) goes.0 goes.2 in
      let there : Fit s (contents (Some goes.0) offset copied ∷ cs) = subst (λ t. Fit s (contents t offset copied ∷ cs)) goes.1 fits in
      subst (λ t. OneFits s n (contents t offset copied) cs) (sym goes.1) (one_goes s n goes.0 cs e x.0 x.1 goes.2 offset copied there of is)

  goes_still : (s t : Store) (c : Copy A) → length (k.holders t) ≡ length (k.holders s) → GoesSomewhere s c → GoesSomewhere t c
  goes_still s t nothing many h = tt
  goes_still s t (contents to offset copied) many h = let lt = h.2 in (h.0, h.1, omega (arith, lt, many))

  pub runs_fit : (cs : List (Copy A)) (s : Store) (n : ℕ) → AreOf k s n cs → ((j : ℕ) (c : Copy A) → slice_get cs j ≡ Some c → GoesSomewhere s c) → Fit s cs → (runs k s n cs).trapped ≡ false
  runs_fit [] s n of to fits = refl
  runs_fit (c ∷ cs) s n of to fits =
      let first = of 0 c refl in
      let z : n + 0 ≡ n = omega arith in
      let one = one_fits s n c cs first.0 (ap (slice_get (k.segments s)) (sym z) ∙ first.1) first.2 (to 0 c refl) fits in
      let later : AreOf k one.after (suc n) cs = λ j d h.
      let x = of (suc j) d h in let y : suc n + j ≡ n + suc j = omega arith in let apart : suc n + j ≢ n = λ w. omega (arith, w) in
      (x.0, one.other (suc n + j) apart ∙ ap (slice_get (k.segments s)) y ∙ x.1, x.2) in
      ap (λ (f : Filled). (and_then f (λ s. runs k s (suc n) cs)).trapped) one.is ∙ runs_fit cs one.after (suc n) later (λ j d h. goes_still s one.after d one.many (to (suc j) d h)) one.fit
