-- The slots of one secondary module, and a table after references are copied over them.
use Rattle.base_lists.proofs.Common.{◌≡◌, ◌∙◌, ap, sym, subst, refl, ℕ, zero, suc, ◌+◌, ◌-◌, ◌<◌, ◌≤◌, ◌⊎◌, inl, inr, List, [], ◌∷◌, ◌++◌, length, Some, false, cond, arith, append_assoc, slice_get, nat_lt, ⊎_elim, flat_map, lt-ltb, ltb-true, nat_tests, length-append, same_Some, cond_is, and_then_is}
use Rattle.base_lists.proofs.Common.{append_left, append_right}
use Rattle.base_lists.specs.Options.{◌>>=◌}
use Rattle.wasm_tree_spec.specs.Prelude.{Module}
use Rattle.wasm_meaning.specs.Prelude.{overwrite, split_at, Secondary, secondary_of}
use Rattle.split_spec.specs.declared.names.SplitNames.{SplitNames}
use Rattle.split_spec.specs.Prelude.{HasSlots, secondary_with}
use Rattle.split_proof.specs.SplitWorlds.{placeholders_for, secondaries_for}
use Rattle.split_proof.proofs.InstantiatedSplits.{slots_many}

-- ---- tables ----

record Parts {A : Type 0} (n : ℕ) (xs : List A) (p : List A × List A) : Type 0 where
  pub all : xs ≡ p.0 ++ p.1
  pub many : length p.0 ≡ n

parts : {A : Type 0} (n : ℕ) (xs : List A) (p : List A × List A) → split_at n xs ≡ Some p → Parts n xs p
parts zero xs p h = let is : ([], xs) ≡ p = same_Some _ _ h in subst (Parts 0 xs) is (record { all = refl; many = refl })
parts (suc n) [] p h = absurd (let e = h in cc)
parts (suc n) (x ∷ xs) p h =
    let q = and_then_is (split_at n xs) (λ p. Some (x ∷ p.0, p.1)) p h in
    let r = parts n xs q.0 q.1 in
    let is : (x ∷ q.0.0, q.0.1) ≡ p = same_Some _ _ q.2 in
    subst (Parts (suc n) (x ∷ xs)) is (record { all = ap (λ ys. x ∷ ys) r.all; many = ap suc r.many })

module _ {A : Type 0} (xs : List A) (n : ℕ) (ys zs : List A) (h : overwrite xs n ys ≡ Some zs) where
  pub written_at : (p : ℕ) → p < length ys → slice_get zs (n + p) ≡ slice_get ys p
  written_at p lt =
      let a = and_then_is (split_at n xs) (λ p. split_at (length ys) p.1 >>= λ q. Some (p.0 ++ (ys ++ q.1))) zs h in
      let b = and_then_is (split_at (length ys) a.0.1) (λ q. Some (a.0.0 ++ (ys ++ q.1))) zs a.2 in
      let x = parts n xs a.0 a.1 in
      let is : a.0.0 ++ (ys ++ b.0.1) ≡ zs = same_Some _ _ b.2 in
      ap (λ zs. slice_get zs (n + p)) (sym is) ∙ ap (λ k. slice_get (a.0.0 ++ (ys ++ b.0.1)) (k + p)) (sym x.many) ∙ append_right a.0.0 (ys ++ b.0.1) p ∙ append_left ys b.0.1 p lt

  pub unwritten_at : (k : ℕ) → (k < n) ⊎ (n + length ys ≤ k) → slice_get zs k ≡ slice_get xs k
  unwritten_at k outside =
      let a = and_then_is (split_at n xs) (λ p. split_at (length ys) p.1 >>= λ q. Some (p.0 ++ (ys ++ q.1))) zs h in
      let b = and_then_is (split_at (length ys) a.0.1) (λ q. Some (a.0.0 ++ (ys ++ q.1))) zs a.2 in
      let x = parts n xs a.0 a.1 in
      let y = parts (length ys) a.0.1 b.0 b.1 in
      let is : a.0.0 ++ (ys ++ b.0.1) ≡ zs = same_Some _ _ b.2 in
      let whole : xs ≡ a.0.0 ++ (b.0.0 ++ b.0.1) = x.all ∙ ap (λ r. a.0.0 ++ r) y.all in
      ap (λ zs. slice_get zs k) (sym is) ∙ by a.0.0 b.0.0 b.0.1 x.many y.many outside ∙ ap (λ xs. slice_get xs k) (sym whole)
    where
      by : (u v r : List A) → length u ≡ n → length v ≡ length ys → (k < n) ⊎ (n + length ys ≤ k) → slice_get (u ++ (ys ++ r)) k ≡ slice_get (u ++ (v ++ r)) k
      by u v r e f (inl lt) = append_left u (ys ++ r) k (omega (arith, lt, e)) ∙ sym (append_left u (v ++ r) k (omega (arith, lt, e)))
      by u v r e f (inr le) =
          let c = k - (n + length ys) in
          let first : k ≡ length u + (length ys + c) = omega (arith, le, e) in
          let second : k ≡ length u + (length v + c) = omega (arith, le, e, f) in
          ap (slice_get (u ++ (ys ++ r))) first ∙ append_right u (ys ++ r) (length ys + c) ∙ append_right ys r c ∙ sym (append_right v r c) ∙ sym (append_right u (v ++ r) (length v + c)) ∙ ap (slice_get (u ++ (v ++ r))) (sym second)

-- ---- secondary modules ----

module _ (namespace : ℕ → List ℕ) (names : SplitNames) (m : Module) (moved : List ℕ) where
  abbrev all_from : ℕ → List (List ℕ) → List Secondary
  all_from = secondaries_for namespace names m moved

  -- The secondary module of a slot, counted from a base, and its range of slots.
  pub record OwnsSlot (base : ℕ) (owns : List (List ℕ)) (slot j : ℕ) : Type 0 where
    pub own : List ℕ
    pub before : ℕ
    pub slots : HasSlots moved own before
    pub is : slice_get (all_from base owns) j ≡ Some (record { «module» = secondary_with names m moved own before; placeholders = placeholders_for namespace m before own })
    pub low : base ≤ before
    pub from : before ≤ base + slot
    pub to : base + slot < before + length own
    pub all : (k : ℕ) → before ≤ base + k → base + k < before + length own → secondary_of (all_from base owns) k ≡ Some j

  pub owns_slot : (owns : List (List ℕ)) (done : List ℕ) (base : ℕ) → moved ≡ done ++ flat_map (λ own. own) owns → base ≡ length done → (slot j : ℕ) → secondary_of (all_from base owns) slot ≡ Some j → OwnsSlot base owns slot j
  owns_slot [] done base whole count slot j h = absurd (let k = h in cc)
  owns_slot (own ∷ owns) done base whole count slot j h =
      ⊎_elim
      (λ e.
      let here : 0 ≡ j = same_Some _ _ e.1 in
      let many = slots_many namespace m base own in
      let lt = ltb-true slot (length (placeholders_for namespace m base own)) e.0 in
      record {
        own = own;
        before = base;
        slots = record { earlier = done; later = flat_map (λ own. own) owns; all = whole; count = count };
        is = ap (slice_get (all_from base (own ∷ owns))) (sym here);
        low = omega arith;
        from = omega arith;
        to = omega (arith, many, lt);
        all = λ k from to.
            ap (λ c. cond c (Some 0) (secondary_of (all_from (base + length own) owns) (k - length (placeholders_for namespace m base own)) >>= λ j. Some (suc j))) (lt-ltb k (length (placeholders_for namespace m base own)) (omega (arith, many, to))) ∙ ap Some here;
      })
      (λ e.
      let many = slots_many namespace m base own in
      let high : length (placeholders_for namespace m base own) ≤ slot = (let f = e.0 in grind (arith, nat_tests, f)) in
      let k = and_then_is (secondary_of (all_from (base + length own) owns) (slot - length (placeholders_for namespace m base own))) (λ j. Some (suc j)) j e.1 in
      let more = length-append done own in
      let r = owns_slot owns (done ++ own) (base + length own) (whole ∙ sym (append_assoc done own (flat_map (λ own. own) owns))) (omega (arith, more, count)) (slot - length (placeholders_for namespace m base own)) k.0 k.1 in
      let next : suc k.0 ≡ j = same_Some _ _ k.2 in
      let low = r.low in
      let from = r.from in
      let to = r.to in
      record {
        own = r.own;
        before = r.before;
        slots = r.slots;
        is = ap (slice_get (all_from base (own ∷ owns))) (sym next) ∙ r.is;
        low = omega (arith, low);
        from = omega (arith, from, high, many);
        to = omega (arith, to, high, many);
        all = λ l from to.
            let past : nat_lt l (length (placeholders_for namespace m base own)) ≡ false = (let least : length (placeholders_for namespace m base own) ≤ l = omega (arith, many, low, from) in grind (arith, nat_tests, least)) in
            ap (λ c. cond c (Some 0) (secondary_of (all_from (base + length own) owns) (l - length (placeholders_for namespace m base own)) >>= λ j. Some (suc j))) past
            ∙ ap (λ o. o >>= λ j. Some (suc j)) (r.all (l - length (placeholders_for namespace m base own)) (omega (arith, many, low, from)) (omega (arith, many, low, from, to))) ∙ ap Some next;
      })
      (cond_is (nat_lt slot (length (placeholders_for namespace m base own))) (Some 0) (secondary_of (all_from (base + length own) owns) (slot - length (placeholders_for namespace m base own)) >>= λ j. Some (suc j)) (Some j) h)
