-- What an active element segment does to the slots of a state (WebAssembly Core 2.0, section
-- 4.5.4).
use Rattle.base_lists.proofs.Common.{◌≡◌, ℕ, ℤ, suc, ◌+◌, ◌-◌, ◌<◌, ◌≤◌, List, length, Bool, true, false, cond, ◌&&◌, Option, Some, None, refl, sym, ap, ◌∙◌, inl, inr, ◌⊎◌, arith, subst, nat_eq, nat_le, nat_lt, slice_get, is_some, filter, cases_eq, cases_lt, lt-ltb, le-ltb, le-leb, lt-leb, eq-eqb}
use Rattle.base_lists.proofs.Common.{ne_eqb, same_Some, slice_get_within, slice_get_past, all_there_length, all_there_at, is_some_there, and_false, right_true, set_at, set_other, slice_get_none, slice_get_there, numbers_at, numbers_is, length-numbers}
use Rattle.std.proofs.Common.{length-append}
use Rattle.std.specs.Prelude.{unwrap_or}
use Rattle.base_lists.specs.Options.{◌>>=◌}
use Rattle.wasm_tree_spec.specs.Prelude.{Tables, TableType, ConstExpr, ElemSeg, Module, imported_tables, funcs_of, tables_of}
use Rattle.wasm_tree.specs.declared.types.RefType.TheVariants as reft
use Rattle.wasm_tree.specs.declared.module.ConstExpr.TheVariants as const
use Rattle.wasm_tree.specs.declared.module.ElemMode.TheVariants as elem
use Rattle.wasm_num.specs.Operations.{wrapped}
use Rattle.wasm_meaning.specs.Prelude.{RefVal, FuncRef, Ref, Table, Store, SetTable, DropElem, ref_of, changed, no_items, PlacedSegment, new_elem, run_elem_with}
use Rattle.run_simulation.specs.Prelude.{is_place_among}
use Rattle.eval_spec.specs.Prelude.{State, is_imported, own_inst, reads_global, value_in, unknown_items, slots_from, copied_slots}
use Rattle.eval_spec.specs.Instantiation.{is_unknown_slot}
use Rattle.eval_machine.specs.declared.slots.Slot.{Slot}
use Rattle.eval_machine.specs.Prelude.{CopiesItems, IsFilled, StartsAs, is_within, item_slot, refs_in, IsSlot, defined_table, filled_at, is_unknown_in, ref_in, slot_count}
use Rattle.eval_machine.specs.Slots.{StandsAs, null_in, slot_at, slots_declared}
use Rattle.eval_machine.proofs.ElementStops.{is_imported_table}
use Rattle.eval_machine.proofs.OverwrittenLists.{put_over, overwrite_in, overwrite_out, over_length, over_at}
use Rattle.eval_machine.proofs.UnknownPlaces.{row_of_one, among_filtered, slot_among, item_among}

stands_too : (a b : Bool) (q r : Option RefVal) (x y : Slot) → a ≡ b → q ≡ r → x ≡ y → StandsAs a q x → StandsAs b r y
stands_too a b q r x y e f g h = rw (← e, ← f, ← g) h

-- The slot of an item holds the reference that its expression gives.
pub item_stands : (m : Module) (x : ConstExpr) (r : RefVal) → (value_in m x >>= ref_of) ≡ Some r → StandsAs (reads_global x) (Some r) (item_slot x)
item_stands m (const.I32 v) r e = absurd (let k = e in cc)
item_stands m (const.I64 v) r e = absurd (let k = e in cc)
item_stands m (const.Null reft.Func) r e = (refl, ap (λ o. o >>= λ x. Some (Ref x)) (sym e))
item_stands m (const.Null reft.Extern) r e = (refl, ap (λ o. o >>= λ x. Some (Ref x)) (sym e))
item_stands m (const.Func f) r e = (refl, by (slice_get (own_inst m).funcs f) refl e)
  where
    by : (o : Option ℕ) → slice_get (own_inst m).funcs f ≡ o → ((o >>= λ a. Some (Ref (FuncRef (Some a)))) >>= ref_of) ≡ Some r → Some (Ref r) ≡ Some (Ref (FuncRef (Some f)))
    by None is e = absurd (let k = e in cc)
    by (Some a) is e = let n = numbers_is (length (funcs_of m)) f a is in ap (λ o. o >>= λ x. Some (Ref x)) (sym e) ∙ ap (λ a. Some (Ref (FuncRef (Some a)))) (sym n.1)
item_stands m (const.Global g) r e = refl

eq_sym : (a b : ℕ) → nat_eq a b ≡ nat_eq b a
eq_sym a b = elim (cases_eq a b) [ inl e ↦ eq-eqb a b e ∙ sym (eq-eqb b a (sym e)) | inr ne ↦ ne_eqb a b ne ∙ sym (ne_eqb b a (λ e. ne (sym e))) ]

and_known : (a : Bool) (o : Option RefVal) → (a ≡ true → is_some o ≡ true) → a && is_some o ≡ a
and_known true o k = k refl
and_known false o k = refl

and_true : (b : Bool) → b && true ≡ b
and_true true = refl
and_true false = refl

is_there : (rs : List RefVal) (p : ℕ) → is_some (slice_get rs p) ≡ true → p < length rs
is_there rs p e = let x = is_some_there (slice_get rs p) e in slice_get_within rs p x.0 x.1

-- A defined table has as many slots as it declares.
pub sized : (m : Module) (t : ℕ) (ty : TableType) → defined_table m t ≡ Some ty → slots_declared m t ≡ Some ty.limits.min
sized m t ty e = by (nat_lt t (length (imported_tables m.imports))) e
  where
    by : (b : Bool) → cond b None (slice_get m.tables (t - length (imported_tables m.imports))) ≡ Some ty → cond b (Some 0) (slice_get m.tables (t - length (imported_tables m.imports)) >>= λ t. Some t.limits.min) ≡ Some ty.limits.min
    by true e = absurd (let k = e in cc)
    by false e = rw e refl

-- The index of a defined table is its address.
table_there : (m : Module) (t : ℕ) (ty : TableType) → defined_table m t ≡ Some ty → slice_get (own_inst m).tables t ≡ Some t
table_there m t ty e = by (cases_lt t (length (imported_tables m.imports)))
  where
    by : (t < length (imported_tables m.imports)) ⊎ (length (imported_tables m.imports) ≤ t) → slice_get (own_inst m).tables t ≡ Some t
    by (inl lt) = absurd (let yes : nat_lt t (length (imported_tables m.imports)) ≡ true = lt-ltb t (length (imported_tables m.imports)) lt in let k : None ≡ Some ty = rw yes at e in cc)
    by (inr le) =
        let no : nat_lt t (length (imported_tables m.imports)) ≡ false = le-ltb t (length (imported_tables m.imports)) le in
        let here : slice_get m.tables (t - length (imported_tables m.imports)) ≡ Some ty = rw no at e in
        let lt : t - length (imported_tables m.imports) < length m.tables = slice_get_within m.tables (t - length (imported_tables m.imports)) ty here in
        let many : length (tables_of m) ≡ length (imported_tables m.imports) + length m.tables = length-append (imported_tables m.imports) m.tables in
        let z : 0 + t ≡ t = omega arith in
        numbers_at 0 (length (tables_of m)) t (omega (arith, lt, le, many)) ∙ ap Some z

-- An index that is neither of a defined nor of an imported table has no address.
pub table_nowhere : (m : Module) (t : ℕ) → defined_table m t ≡ None → is_imported m Tables t ≡ false → slice_get (own_inst m).tables t ≡ None
table_nowhere m t e off = by (cases_lt t (length (imported_tables m.imports)))
  where
    by : (t < length (imported_tables m.imports)) ⊎ (length (imported_tables m.imports) ≤ t) → slice_get (own_inst m).tables t ≡ None
    by (inl lt) = absurd (let k : true ≡ false = sym (is_imported_table m t lt) ∙ off in cc)
    by (inr le) =
        let yes_ : nat_lt t (length (imported_tables m.imports)) ≡ false = le-ltb t (length (imported_tables m.imports)) le in
        let gone : slice_get m.tables (t - length (imported_tables m.imports)) ≡ None = rw yes_ at e in
        let past : length m.tables ≤ t - length (imported_tables m.imports) = slice_get_none m.tables (t - length (imported_tables m.imports)) gone in
        let many : length (tables_of m) ≡ length (imported_tables m.imports) + length m.tables = length-append (imported_tables m.imports) m.tables in
        slice_get_past (own_inst m).tables t (rw (length-numbers 0 (length (tables_of m))) (omega (arith, past, le, many)))

-- The element segment at an index, with its references.
module _ (m : Module) (first : State) (starts : StartsAs m first) (s : State) (n : ℕ) (filled : List (ℕ × Slot)) (f : IsFilled m first n filled s) (e : ElemSeg) (at : slice_get m.elems n ≡ Some e)
    (refs : List RefVal) (given : refs_in m e.items ≡ Some refs) (stands : slice_get first.store.elems n ≡ Some (new_elem e.mode refs)) where
  abbrev pub task : PlacedSegment ElemSeg
  task = record { part = 0; inst = own_inst m; address = n; segment = e }

  as_many : length refs ≡ length e.items
  as_many = all_there_length (λ x. value_in m x >>= ref_of) e.items refs given

  -- The segment is active for this table and this place.
  module _ (table : ℕ) (v : ℤ) (is : e.mode ≡ elem.Active table (const.I32 v)) (ty : TableType) (there : defined_table m table ≡ Some ty) (t : Table) (has : slice_get s.store.tables table ≡ Some t) where
    abbrev place : ℕ
    place = wrapped 32 v

    its_elem : slice_get s.store.elems n ≡ Some (record { items = refs; dropped = false })
    its_elem = f.elems n (omega arith) ∙ (stands ∙ ap (λ mode. Some (new_elem mode refs)) is)

    many_slots : length t.slots ≡ ty.limits.min
    many_slots =
        let a : slot_count s table ≡ Some (length t.slots) = rw has refl in
        same_Some (length t.slots) ty.limits.min (sym a ∙ (f.counts table ∙ starts.counts table ∙ sized m table ty there))

    abbrev pub after : Store
    after = changed (changed s.store (SetTable table (record t { slots = put_over t.slots place refs }))) (DropElem n)

    pub goes : place + length e.items ≤ ty.limits.min → run_elem_with (value_in m) s.store task (elem.Active table (const.I32 v)) ≡ record { store = after; trapped = false }
    goes fits =
        let inside : place + length refs ≤ length t.slots = omega (arith, fits, as_many, many_slots) in
        rw (table_there m table ty there, has, its_elem, overwrite_in t.slots place refs inside) refl

    pub passes : ty.limits.min < place + length e.items → (run_elem_with (value_in m) s.store task (elem.Active table (const.I32 v))).trapped ≡ true
    passes past =
        let outside : length t.slots < place + length refs = omega (arith, past, as_many, many_slots) in
        rw (table_there m table ty there, has, its_elem, overwrite_out t.slots place refs outside) refl

    module _ (fits : place + length e.items ≤ ty.limits.min) (new : List (ℕ × Slot)) (copies : CopiesItems filled new table place e.items) where
      abbrev pub next : State
      next = record s { store = after; unknown = copied_slots s n table place (length e.items) }

      inside : place + length refs ≤ length t.slots
      inside = omega (arith, fits, as_many, many_slots)

      within : table < length s.store.tables
      within = slice_get_within s.store.tables table t has

      -- ---- the references ----

      ref_there : (p : ℕ) → ref_in next table p ≡ cond (nat_le place p && nat_lt p (place + length refs)) (slice_get refs (p - place)) (slice_get t.slots p)
      ref_there p = rw (set_at s.store.tables table (record t { slots = put_over t.slots place refs }) within) (over_at t.slots place refs inside p)

      ref_before : (p : ℕ) → ref_in s table p ≡ slice_get t.slots p
      ref_before p = rw has refl

      ref_elsewhere : (u p : ℕ) → (u ≡ table → ⊥) → ref_in next u p ≡ ref_in s u p
      ref_elsewhere u p ne = rw (set_other s.store.tables table u (record t { slots = put_over t.slots place refs }) ne) refl

      -- ---- what is unknown ----

      abbrev test : ℕ × ℕ → Bool
      test = is_unknown_slot s.unknown n table place (length e.items)

      unknown_is : (u p : ℕ) → is_unknown_in next u p ≡ test (u, p) && is_some (ref_in s u p)
      unknown_is u p =
          let z : 0 + u ≡ u = omega arith in
          row_of_one (filter test (slots_from 0 s.store.tables)) u p
          ∙ (among_filtered test (slots_from 0 s.store.tables) u p
          ∙ ap (λ b. test (u, p) && b) (ap (λ a. is_place_among (slots_from 0 s.store.tables) a p) (sym z) ∙ slot_among s.store.tables 0 u p))

      -- A slot to which nothing is copied is unknown exactly if it was before.
      unknown_stays : (u p : ℕ) → nat_eq u table && (nat_le place p && nat_lt p (place + length e.items)) ≡ false → is_unknown_in next u p ≡ is_unknown_in s u p
      unknown_stays u p off =
          let old : is_place_among s.unknown.slots u p ≡ is_unknown_in s u p = sym (row_of_one s.unknown.slots u p) in
          unknown_is u p ∙ rw (off, old) (and_known (is_unknown_in s u p) (ref_in s u p) (f.known u p))

      -- ---- a slot ----

      stays : (u p : ℕ) → p < 4294967296 → nat_eq u table && (nat_le place p && nat_lt p (place + length e.items)) ≡ false → ref_in next u p ≡ ref_in s u p → IsSlot next u p (slot_at m new u p)
      stays u p lt off ref =
          let held : filled_at new u p ≡ filled_at filled u p =
          let same : is_within table place (length e.items) u p ≡ false = ap (λ b. b && (nat_le place p && nat_lt p (place + length e.items))) (eq_sym table u) ∙ off in
          copies u p lt ∙ rw same refl in
          stands_too (is_unknown_in s u p) (is_unknown_in next u p) (ref_in s u p) (ref_in next u p) (slot_at m filled u p) (slot_at m new u p)
          (sym (unknown_stays u p off)) (sym ref) (ap (λ o. unwrap_or o (null_in (defined_table m u) p)) (sym held)) (f.slots u p lt)

      -- A slot to which an item is copied holds the slot of the item.
      filled_by : (k : ℕ) (x : ConstExpr) (r : RefVal) → slice_get e.items k ≡ Some x → slice_get refs k ≡ Some r → (value_in m x >>= ref_of) ≡ Some r → place + k < 4294967296 → IsSlot next table (place + k) (slot_at m new table (place + k))
      filled_by k x r item ref value lt =
          let less : k < length e.items = slice_get_within e.items k x item in
          let a : nat_eq table table ≡ true = eq-eqb table table refl in
          let b : nat_le place (place + k) ≡ true = le-leb place (place + k) (omega arith) in
          let c : nat_lt (place + k) (place + length e.items) ≡ true = lt-ltb (place + k) (place + length e.items) (omega (arith, less)) in
          let d : nat_lt (place + k) (place + length refs) ≡ true = lt-ltb (place + k) (place + length refs) (omega (arith, less, as_many)) in
          let z : (place + k) - place ≡ k = omega arith in
          let held : filled_at new table (place + k) ≡ Some (item_slot x) = copies table (place + k) lt ∙ rw (a, b, c, z, item) refl in
          let stood : is_some (ref_in s table (place + k)) ≡ true =
          let less_slots : place + k < length t.slots = omega (arith, less, as_many, inside) in
          let y = slice_get_there t.slots (place + k) less_slots in
          rw (ref_before (place + k), y.1) refl in
          let o : n ≡ 0 + n = omega arith in
          let among : is_place_among s.unknown.items n k ≡ reads_global x =
          ap (λ u. is_place_among u n k) (f.items ∙ starts.items) ∙ (ap (λ a. is_place_among (unknown_items 0 m.elems) a k) o ∙ (item_among m.elems 0 n k e at ∙ rw item refl)) in
          let unknown : is_unknown_in next table (place + k) ≡ reads_global x = unknown_is table (place + k) ∙ rw (a, b, c, z, stood, among) (and_true (reads_global x)) in
          let found : ref_in next table (place + k) ≡ Some r = ref_there (place + k) ∙ rw (b, d, z) ref in
          stands_too (reads_global x) (is_unknown_in next table (place + k)) (Some r) (ref_in next table (place + k)) (item_slot x) (slot_at m new table (place + k))
          (sym unknown) (sym found) (sym (ap (λ o. unwrap_or o (null_in (defined_table m table) (place + k))) held)) (item_stands m x r value)

      slots_next : (u p : ℕ) → p < 4294967296 → IsSlot next u p (slot_at m new u p)
      slots_next u p lt = elim (cases_eq u table) [
        | inr ne ↦
            let a : nat_eq u table ≡ false = ne_eqb u table ne in
            stays u p lt (ap (λ b. b && (nat_le place p && nat_lt p (place + length e.items))) a) (ref_elsewhere u p ne)
        | inl same ↦ rw same (in_table p lt)
      ]
        where
          in_table : (p : ℕ) → p < 4294967296 → IsSlot next table p (slot_at m new table p)
          in_table p lt = elim (cases_lt p place) [
            | inl before ↦
                let b : nat_le place p ≡ false = lt-leb place p before in
                stays table p lt (ap (λ b. nat_eq table table && (b && nat_lt p (place + length e.items))) b ∙ and_false (nat_eq table table)) (ref_there p ∙ (ap (λ b. cond (b && nat_lt p (place + length refs)) (slice_get refs (p - place)) (slice_get t.slots p)) b ∙ sym (ref_before p)))
            | inr le ↦ elim (cases_lt p (place + length e.items)) [
              | inl less ↦
                  let k : p - place < length e.items = omega (arith, le, less) in
                  let x = slice_get_there e.items (p - place) k in
                  let r = all_there_at (λ x. value_in m x >>= ref_of) e.items refs given (p - place) x.0 x.1 in
                  let z : place + (p - place) ≡ p = omega (arith, le) in
                  subst (λ q. IsSlot next table q (slot_at m new table q)) z (filled_by (p - place) x.0 r.0 x.1 r.2 r.1 (omega (arith, lt, le)))
              | inr past ↦
                  let c : nat_lt p (place + length e.items) ≡ false = le-ltb p (place + length e.items) past in
                  let d : nat_lt p (place + length refs) ≡ false = le-ltb p (place + length refs) (omega (arith, past, as_many)) in
                  stays table p lt (ap (λ b. nat_eq table table && (nat_le place p && b)) c ∙ (ap (λ b. nat_eq table table && b) (and_false (nat_le place p)) ∙ and_false (nat_eq table table)))
                  (ref_there p ∙ (ap (λ b. cond (nat_le place p && b) (slice_get refs (p - place)) (slice_get t.slots p)) d ∙ (ap (λ b. cond b (slice_get refs (p - place)) (slice_get t.slots p)) (and_false (nat_le place p)) ∙ sym (ref_before p))))
            ]
          ]

      known_next : (u p : ℕ) → is_unknown_in next u p ≡ true → is_some (ref_in next u p) ≡ true
      known_next u p yes_ = elim (cases_eq u table) [
        | inr ne ↦ ap is_some (ref_elsewhere u p ne) ∙ there_too
        | inl same ↦ rw same (in_table (rw same at there_too))
      ]
        where
          there_too : is_some (ref_in s u p) ≡ true
          there_too = right_true (test (u, p)) (is_some (ref_in s u p)) (sym (unknown_is u p) ∙ yes_)

          in_table : is_some (ref_in s table p) ≡ true → is_some (ref_in next table p) ≡ true
          in_table h =
              let z : is_some (slice_get t.slots p) ≡ true = ap is_some (sym (ref_before p)) ∙ h in
              let lt : p < length t.slots = is_there t.slots p z in
              let y = slice_get_there (put_over t.slots place refs) p (rw (over_length t.slots place refs inside) lt) in
              rw (set_at s.store.tables table (record t { slots = put_over t.slots place refs }) within, y.1) refl

      counts_next : (u : ℕ) → slot_count next u ≡ slot_count first u
      counts_next u = elim (cases_eq u table) [
        | inr ne ↦ ap (λ o. o >>= λ t. Some (length t.slots)) (set_other s.store.tables table u (record t { slots = put_over t.slots place refs }) ne) ∙ f.counts u
        | inl same ↦
            rw same (ap (λ o. o >>= λ t. Some (length t.slots)) (set_at s.store.tables table (record t { slots = put_over t.slots place refs }) within)
            ∙ (ap Some (over_length t.slots place refs inside) ∙ (sym (ap (λ o. o >>= λ t. Some (length t.slots)) has) ∙ f.counts table)))
      ]

      pub filled_next : IsFilled m first (suc n) new next
      filled_next = record {
        funcs = f.funcs;
        mems = f.mems;
        globals = f.globals;
        datas = f.datas;
        unset = f.unset;
        items = f.items;
        written = f.written;
        turns = f.turns;
        elems = λ k le. set_other s.store.elems n k no_items (λ same. absurd (omega (arith, same, le))) ∙ f.elems k (omega (arith, le));
        counts = counts_next;
        known = known_next;
        slots = slots_next;
      }
