-- The slots that are unknown after an element segment was copied into a table of the quiet run.
use Rattle.base_lists.proofs.Common.{◌≡◌, ◌∙◌, sym, ap, refl, ℕ, zero, suc, ◌+◌, ◌-◌, ◌<◌, ◌≤◌, List, [], ◌∷◌, map, length, Bool, true, false, cond, not, Some, ◌⊎◌, inl, inr, arith, slice_get, nat_eq, nat_le, nat_lt, ◌&&◌, filter, eq-eqb, le-leb, le-ltb, lt-leb, lt-ltb, ne_eqb, not-true, is_kept}
use Rattle.base_lists.proofs.Common.{numbers_at, Has, append_at_left, append_right, map_at, same_Some}
use Rattle.std.proofs.lemmas.Bool.{not_from_false}
use Rattle.base_lists.specs.Places.{numbers}
use Rattle.wasm_meaning.specs.Prelude.{Table}
use Rattle.run_simulation.specs.Prelude.{Unknowns, is_place_among}
use Rattle.eval_spec.specs.Prelude.{State, copied_slots, slots_from}
use Rattle.eval_spec.specs.Instantiation.{is_unknown_slot}
use Rattle.eval_snapshot_proof.proofs.AllocatedStores.{place_among_at}
use Rattle.eval_snapshot_proof.proofs.OverwrittenLists.{KnownAfter}

-- Each slot of a table is in the list of all slots.
slot_there : (from : ℕ) (ts : List Table) (c p : ℕ) (t : Table) → slice_get ts c ≡ Some t → p < length t.slots → Has (slots_from from ts) (from + c, p)
slot_there from [] c p t h low = absurd (let k = h in cc)
slot_there from (u ∷ ts) zero p t h low =
    let same = ap (λ (t : Table). length t.slots) (same_Some u t h) in
    let z : from ≡ from + 0 = omega arith in
    let y : 0 + p ≡ p = omega arith in (
      p,
      append_at_left (map (λ k. (from, k)) (numbers 0 (length u.slots))) (slots_from (from + 1) ts) p (from + 0, p)
          (map_at (λ k. (from, k)) (numbers 0 (length u.slots)) p (0 + p) (numbers_at 0 (length u.slots) p (omega (arith, same, low))) ∙ ap (λ q. Some (from, q)) y ∙ ap (λ q. Some (q, p)) z),
    )
slot_there from (u ∷ ts) (suc c) p t h low =
    let r = slot_there (from + 1) ts c p t h low in
    let z : (from + 1) + c ≡ from + suc c = omega arith in
    (length (map (λ k. (from, k)) (numbers 0 (length u.slots))) + r.0, append_right (map (λ k. (from, k)) (numbers 0 (length u.slots))) (slots_from (from + 1) ts) r.0 ∙ r.1 ∙ ap (λ q. Some (q, p)) z)

-- A slot of a table that is not in the filtered list fails the test of the filter.
slot_told : (ts : List Table) (c p : ℕ) (t : Table) (keeps : ℕ × ℕ → Bool) → slice_get ts c ≡ Some t → p < length t.slots → not (is_place_among (filter keeps (slots_from 0 ts)) c p) ≡ true →
    keeps (c, p) ≡ false
slot_told ts c p t keeps h low k = by (keeps (c, p)) refl
  where
    by : (b : Bool) → keeps (c, p) ≡ b → b ≡ false
    by false e = refl
    by true e =
        let s = slot_there 0 ts c p t h low in
        let z : 0 + c ≡ c = omega arith in
        let r = is_kept keeps (slots_from 0 ts) s.0 (c, p) (s.1 ∙ ap (λ q. Some (q, p)) z) e in
        sym (place_among_at (filter keeps (slots_from 0 ts)) r.0 c p r.1) ∙ not-true _ k

module _ (s : State) (segment table place count : ℕ) where
  abbrev after : Unknowns
  after = copied_slots s segment table place count

  -- A slot of another table that is known after the copy was known before it.
  pub other_table : (c p : ℕ) (t : Table) → slice_get s.store.tables c ≡ Some t → p < length t.slots → (table ≡ c → ⊥) → not (is_place_among after.slots c p) ≡ true →
      not (is_place_among s.unknown.slots c p) ≡ true
  other_table c p t h low other k =
      let told = slot_told s.store.tables c p t (is_unknown_slot s.unknown segment table place count) h low k in
      let differs = ne_eqb c table (λ e. other (sym e)) in
      not_from_false _ (ap (λ b. cond (b && (nat_le place p && nat_lt p (place + count))) (is_place_among s.unknown.items segment (p - place)) (is_place_among s.unknown.slots c p)) (sym differs)
      ∙ told)

  -- A slot of the written table is known after the copy if its new item is known, or if it received
  -- none and was known before.
  pub this_table : (t : Table) → slice_get s.store.tables table ≡ Some t →
      KnownAfter (λ p. not (is_place_among s.unknown.slots table p)) (λ k. not (is_place_among s.unknown.items segment k)) (λ p. not (is_place_among after.slots table p)) place count (length t.slots)
  this_table t h = record { came = came; stayed = stayed }
    where
      told : (p : ℕ) → p < length t.slots → not (is_place_among after.slots table p) ≡ true → is_unknown_slot s.unknown segment table place count (table, p) ≡ false
      told p low k = slot_told s.store.tables table p t (is_unknown_slot s.unknown segment table place count) h low k

      came : (k : ℕ) → k < count → place + k < length t.slots → not (is_place_among after.slots table (place + k)) ≡ true → not (is_place_among s.unknown.items segment k) ≡ true
      came k lt low e =
          let z : (place + k) - place ≡ k = omega arith in
          let inside : nat_eq table table && (nat_le place (place + k) && nat_lt (place + k) (place + count)) ≡ true =
          rw (eq-eqb table table refl, le-leb place (place + k) (omega arith), lt-ltb (place + k) (place + count) (omega (arith, lt))) refl in
          not_from_false _ (ap (is_place_among s.unknown.items segment) (sym z)
          ∙ ap (λ b. cond b (is_place_among s.unknown.items segment ((place + k) - place)) (is_place_among s.unknown.slots table (place + k))) (sym inside) ∙ told (place + k) low e)

      outside : (p : ℕ) → (p < place) ⊎ (place + count ≤ p) → nat_le place p && nat_lt p (place + count) ≡ false
      outside p (inl lt) = rw (lt-leb place p lt) refl
      outside p (inr le) = rw (le-leb place p (omega (arith, le)), le-ltb p (place + count) le) refl

      stayed : (p : ℕ) → (p < place) ⊎ (place + count ≤ p) → p < length t.slots → not (is_place_among after.slots table p) ≡ true → not (is_place_among s.unknown.slots table p) ≡ true
      stayed p q low e =
          let out : nat_eq table table && (nat_le place p && nat_lt p (place + count)) ≡ false = rw (eq-eqb table table refl, outside p q) refl in
          not_from_false _ (ap (λ b. cond b (is_place_among s.unknown.items segment (p - place)) (is_place_among s.unknown.slots table p)) (sym out) ∙ told p low e)
