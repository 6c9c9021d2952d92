-- The places in the lists of unknown slots and items.
use Rattle.base_lists.proofs.Common.{◌≡◌, ℕ, zero, suc, ◌+◌, ◌<◌, ◌≤◌, List, [], ◌∷◌, map, length, Bool, true, false, cond, ◌&&◌, ◌||◌, Some, refl, sym, ap, ap₂, ◌∙◌, inl, inr, arith, nat_eq, nat_le, nat_lt, slice_get, is_some, filter, list_any, cases_eq, cases_lt, cases_order, lt-ltb, le-ltb}
use Rattle.base_lists.proofs.Common.{le-leb, lt-leb, eq-eqb, ne_eqb, eqb-true, and_parts, list_any-append}
use Rattle.std.specs.Prelude.{unwrap_or}
use Rattle.std.proofs.lemmas.Map.Views.{any-filter_same}
use Rattle.base_lists.specs.Options.{◌>>=◌}
use Rattle.base_lists.specs.Places.{numbers, places}
use Rattle.wasm_tree_spec.specs.Prelude.{ElemSeg, ConstExpr}
use Rattle.wasm_meaning.specs.Prelude.{RefVal, Table}
use Rattle.run_simulation.specs.Prelude.{is_place_among}
use Rattle.eval_spec.specs.Prelude.{any_in_row, reads_global, slots_from, unknown_items}

abbrev pub is_at : (a p : ℕ) → ℕ × ℕ → Bool
is_at a p x = nat_eq x.0 a && nat_eq x.1 p

-- A row of one place has only this place.
one_place : (p n : ℕ) → nat_le p n && nat_lt n (p + 1) ≡ nat_eq n p
one_place p n = elim (cases_order n p) [
  | inl e ↦
      let a : nat_le p n ≡ true = le-leb p n (omega (arith, e)) in let b : nat_lt n (p + 1) ≡ true = lt-ltb n (p + 1) (omega (arith, e)) in let c : nat_eq n p ≡ true = eq-eqb n p e in
      rw (a, b, c) refl
  | inr ne ↦ elim ne [
    | inl lt ↦ let a : nat_le p n ≡ false = lt-leb p n lt in let c : nat_eq n p ≡ false = ne_eqb n p (λ e. absurd (omega (arith, e, lt))) in rw (a, c) refl
    | inr lt ↦
        let a : nat_le p n ≡ true = le-leb p n (omega (arith, lt)) in let b : nat_lt n (p + 1) ≡ false = le-ltb n (p + 1) (omega (arith, lt)) in let c : nat_eq n p ≡ false = ne_eqb n p (λ e. absurd (omega (arith, e, lt))) in
        rw (a, b, c) refl
  ]
]

pub row_of_one : (xs : List (ℕ × ℕ)) (a p : ℕ) → any_in_row xs a p 1 ≡ is_place_among xs a p
row_of_one [] a p = refl
row_of_one (x ∷ xs) a p = ap₂ (λ b c. (nat_eq x.0 a && b) || c) (one_place p x.1) (row_of_one xs a p)

-- A place is in a filtered list exactly if it is in the list and passes the test.
pub among_filtered : (f : ℕ × ℕ → Bool) (xs : List (ℕ × ℕ)) (a p : ℕ) → is_place_among (filter f xs) a p ≡ f (a, p) && is_place_among xs a p
among_filtered f xs a p = any-filter_same (is_at a p) f (f (a, p)) (λ x e. let both = and_parts (nat_eq x.0 a) (nat_eq x.1 p) e in ap₂ (λ m n. f (m, n)) (eqb-true x.0 a both.0) (eqb-true x.1 p both.1)) xs

-- ---- the slots of tables ----

row_elsewhere : (n a p j c : ℕ) → nat_eq n a ≡ false → list_any (is_at a p) (map (λ k. (n, k)) (numbers j c)) ≡ false
row_elsewhere n a p j zero e = refl
row_elsewhere n a p j (suc c) e = rw e (row_elsewhere n a p (suc j) c e)

row_here : (n p j c : ℕ) → j ≤ p → list_any (is_at n p) (map (λ k. (n, k)) (numbers j c)) ≡ nat_lt p (j + c)
row_here n p j zero le = sym (le-ltb p (j + 0) (omega (arith, le)))
row_here n p j (suc c) le = elim (cases_eq j p) [
  | inl e ↦ let a : nat_eq n n ≡ true = eq-eqb n n refl in let b : nat_eq j p ≡ true = eq-eqb j p e in let d : nat_lt p (j + suc c) ≡ true = lt-ltb p (j + suc c) (omega (arith, e)) in rw (a, b, d) refl
  | inr ne ↦
      let b : nat_eq j p ≡ false = ne_eqb j p ne in let a : nat_eq n n ≡ true = eq-eqb n n refl in let z : suc j + c ≡ j + suc c = omega arith in
      let less : suc j ≤ p = elim (cases_order j p) [ inl e ↦ absurd (ne e) | inr o ↦ elim o [ inl lt ↦ omega (arith, lt) | inr gt ↦ absurd (omega (arith, gt, le)) ] ] in
      rw (a, b) (row_here n p (suc j) c less ∙ ap (nat_lt p) z)
]

before_them : (ts : List Table) (i a p : ℕ) → a < i → list_any (is_at a p) (slots_from i ts) ≡ false
before_them [] i a p lt = refl
before_them (t ∷ ts) i a p lt =
    let ne : nat_eq i a ≡ false = ne_eqb i a (λ e. absurd (omega (arith, e, lt))) in
    list_any-append (is_at a p) (map (λ k. (i, k)) (numbers 0 (length t.slots))) (slots_from (i + 1) ts)
    ∙ rw (row_elsewhere i a p 0 (length t.slots) ne) (before_them ts (i + 1) a p (omega (arith, lt)))

there_is : (rs : List RefVal) (p : ℕ) → nat_lt p (length rs) ≡ is_some (slice_get rs p)
there_is [] p = le-ltb p 0 (omega arith)
there_is (r ∷ rs) zero = lt-ltb 0 (suc (length rs)) (omega arith)
there_is (r ∷ rs) (suc p) = same ∙ there_is rs p
  where
    same : nat_lt (suc p) (suc (length rs)) ≡ nat_lt p (length rs)
    same = elim (cases_lt p (length rs)) [
      | inl lt ↦ lt-ltb (suc p) (suc (length rs)) (omega (arith, lt)) ∙ sym (lt-ltb p (length rs) lt)
      | inr le ↦ le-ltb (suc p) (suc (length rs)) (omega (arith, le)) ∙ sym (le-ltb p (length rs) le)
    ]

or_none : (b : Bool) → b || false ≡ b
or_none true = refl
or_none false = refl

pub slot_among : (ts : List Table) (i k p : ℕ) → is_place_among (slots_from i ts) (i + k) p ≡ is_some (slice_get ts k >>= λ t. slice_get t.slots p)
slot_among [] i k p = refl
slot_among (t ∷ ts) i zero p =
    let z : i + 0 ≡ i = omega arith in
    let o : 0 + length t.slots ≡ length t.slots = omega arith in
    rw z (list_any-append (is_at i p) (map (λ k. (i, k)) (numbers 0 (length t.slots))) (slots_from (i + 1) ts)
    ∙ rw (before_them ts (i + 1) i p (omega arith)) (or_none _ ∙ (row_here i p 0 (length t.slots) (omega arith) ∙ (ap (nat_lt p) o ∙ there_is t.slots p))))
slot_among (t ∷ ts) i (suc k) p =
    let ne : nat_eq i (i + suc k) ≡ false = ne_eqb i (i + suc k) (λ e. absurd (omega (arith, e))) in
    let z : (i + 1) + k ≡ i + suc k = omega arith in
    list_any-append (is_at (i + suc k) p) (map (λ k. (i, k)) (numbers 0 (length t.slots))) (slots_from (i + 1) ts)
    ∙ rw (row_elsewhere i (i + suc k) p 0 (length t.slots) ne) (ap (λ a. list_any (is_at a p) (slots_from (i + 1) ts)) (sym z) ∙ slot_among ts (i + 1) k p)

-- ---- the items of segments ----

abbrev pub reads_global_at : List ConstExpr → ℕ → Bool
reads_global_at xs q = unwrap_or (slice_get xs q >>= λ x. Some (reads_global x)) false

item_elsewhere : (n a q j : ℕ) (xs : List ConstExpr) → nat_eq n a ≡ false → list_any (is_at a q) (map (λ k. (n, k)) (places reads_global xs j)) ≡ false
item_elsewhere n a q j [] e = refl
item_elsewhere n a q j (x ∷ xs) e = by (item_elsewhere n a q (suc j) xs e) (reads_global x)
  where
    by : list_any (is_at a q) (map (λ k. (n, k)) (places reads_global xs (suc j))) ≡ false → (b : Bool) → list_any (is_at a q) (map (λ k. (n, k)) (cond b (j ∷ places reads_global xs (suc j)) (places reads_global xs (suc j)))) ≡ false
    by on true = rw e on
    by on false = on

item_before : (n q j : ℕ) (xs : List ConstExpr) → q < j → list_any (is_at n q) (map (λ k. (n, k)) (places reads_global xs j)) ≡ false
item_before n q j [] lt = refl
item_before n q j (x ∷ xs) lt = by (item_before n q (suc j) xs (omega (arith, lt))) (reads_global x)
  where
    no : nat_eq j q ≡ false
    no = ne_eqb j q (λ e. absurd (omega (arith, e, lt)))

    same : nat_eq n n ≡ true
    same = eq-eqb n n refl

    by : list_any (is_at n q) (map (λ k. (n, k)) (places reads_global xs (suc j))) ≡ false → (b : Bool) → list_any (is_at n q) (map (λ k. (n, k)) (cond b (j ∷ places reads_global xs (suc j)) (places reads_global xs (suc j)))) ≡ false
    by on true = rw (same, no) on
    by on false = on

item_here : (n q j : ℕ) (xs : List ConstExpr) → list_any (is_at n (j + q)) (map (λ k. (n, k)) (places reads_global xs j)) ≡ reads_global_at xs q
item_here n q j [] = refl
item_here n zero j (x ∷ xs) = by (reads_global x)
  where
    z : j + 0 ≡ j
    z = omega arith

    here : nat_eq j j ≡ true
    here = eq-eqb j j refl

    same : nat_eq n n ≡ true
    same = eq-eqb n n refl

    by : (b : Bool) → list_any (is_at n (j + 0)) (map (λ k. (n, k)) (cond b (j ∷ places reads_global xs (suc j)) (places reads_global xs (suc j)))) ≡ b
    by true = rw (z, same, here) refl
    by false = rw z (item_before n j (suc j) xs (omega arith))
item_here n (suc q) j (x ∷ xs) = by (item_here n q (suc j) xs) (reads_global x)
  where
    z : suc j + q ≡ j + suc q
    z = omega arith

    no : nat_eq j (j + suc q) ≡ false
    no = ne_eqb j (j + suc q) (λ e. absurd (omega (arith, e)))

    same : nat_eq n n ≡ true
    same = eq-eqb n n refl

    by : list_any (is_at n (suc j + q)) (map (λ k. (n, k)) (places reads_global xs (suc j))) ≡ reads_global_at xs q →
        (b : Bool) → list_any (is_at n (j + suc q)) (map (λ k. (n, k)) (cond b (j ∷ places reads_global xs (suc j)) (places reads_global xs (suc j)))) ≡ reads_global_at xs q
    by on true = rw (same, no) (rw z at on)
    by on false = rw z at on

items_before : (es : List ElemSeg) (i a q : ℕ) → a < i → list_any (is_at a q) (unknown_items i es) ≡ false
items_before [] i a q lt = refl
items_before (e ∷ es) i a q lt =
    let ne : nat_eq i a ≡ false = ne_eqb i a (λ e. absurd (omega (arith, e, lt))) in
    list_any-append (is_at a q) (map (λ k. (i, k)) (places reads_global e.items 0)) (unknown_items (i + 1) es)
    ∙ rw (item_elsewhere i a q 0 e.items ne) (items_before es (i + 1) a q (omega (arith, lt)))

pub item_among : (es : List ElemSeg) (i k q : ℕ) (e : ElemSeg) → slice_get es k ≡ Some e → is_place_among (unknown_items i es) (i + k) q ≡ reads_global_at e.items q
item_among [] i k q e at = cc
item_among (d ∷ es) i zero q e at =
    let same : d ≡ e = cc in
    let z : i + 0 ≡ i = omega arith in let o : q ≡ 0 + q = omega arith in
    rw (z, same) (list_any-append (is_at i q) (map (λ k. (i, k)) (places reads_global e.items 0)) (unknown_items (i + 1) es)
    ∙ rw (items_before es (i + 1) i q (omega arith)) (or_none _ ∙ (ap (λ n. list_any (is_at i n) (map (λ k. (i, k)) (places reads_global e.items 0))) o ∙ item_here i q 0 e.items)))
item_among (d ∷ es) i (suc k) q e at =
    let ne : nat_eq i (i + suc k) ≡ false = ne_eqb i (i + suc k) (λ e. absurd (omega (arith, e))) in
    let z : (i + 1) + k ≡ i + suc k = omega arith in
    list_any-append (is_at (i + suc k) q) (map (λ k. (i, k)) (places reads_global d.items 0)) (unknown_items (i + 1) es)
    ∙ rw (item_elsewhere i (i + suc k) q 0 d.items ne) (ap (λ a. list_any (is_at a q) (unknown_items (i + 1) es)) (sym z) ∙ item_among es (i + 1) k q e at)
