-- The active element segments of an instantiation, one after the other.
use Rattle.base_lists.proofs.Common.{◌≡◌, ℕ, ℤ, suc, ◌+◌, ◌≤◌, List, [], ◌∷◌, length, drop, Bool, true, false, cond, ◌||◌, Option, Some, None, refl, sym, ap, ◌∙◌, inl, inr, ◌⊎◌, arith, subst, slice_get, leb-true, get_or_from_slice_get, same_Some, slice_get_within, and_then_is}
use Rattle.std.proofs.Math.Seq.{drop-cons, drop-length}
use Rattle.std.proofs.lemmas.Bool.{leb-false, or_parts}
use Rattle.base_lists.specs.Options.{◌>>=◌}
use Rattle.wasm_tree_spec.specs.Prelude.{Tables, TableType, ConstExpr, ElemSeg, ElemMode, Module}
use Rattle.wasm_tree.specs.declared.module.ConstExpr.TheVariants as const
use Rattle.wasm_tree.specs.declared.module.ElemMode.TheVariants as elem
use Rattle.wasm_num.specs.Operations.{W32, wrapped}
use Rattle.wasm_meaning.specs.Prelude.{RefVal, FuncRef, Ref, Table, num_of, Filled, PlacedSegment, run_elem_with, new_elem}
use Rattle.eval_spec.specs.declared.stop.Stop.{Stop}
use Rattle.eval_spec.specs.declared.stop.Stop.TheVariants as why
use Rattle.eval_spec.specs.Prelude.{State, Stage, Finished, Stopped, stop_of, is_imported, own_inst, reads_global, value_in, with_elem, with_elem_mode, in_order}
use Rattle.eval_spec.specs.Instantiation.{elem_filled}
use Rattle.eval_machine.specs.declared.slots.Slot.{Slot}
use Rattle.eval_machine.specs.Prelude.{CopiesItems, FillsTables, IsFilled, StartsAs, elems_end, refs_in, defined_table, filled_at}
use Rattle.eval_machine.specs.InstantiationParts.{FillsByMode, FillsSlots, elem_stop, elems_from, has_slots, place_at}
use Rattle.eval_machine.proofs.ActiveElements.{task, goes, passes, sized, next, filled_next, table_nowhere}

-- The stop of an element segment, if there is one, by the order of the tests.
pub data StopIs (unknown there : Bool) : Option Stop → Type 0 where
  nothing : unknown ≡ false → there ≡ true → StopIs unknown there None
  first_ : unknown ≡ true → StopIs unknown there (Some why.Unknown)
  second : unknown ≡ false → there ≡ false → StopIs unknown there (Some why.Trap)

stop_is : (unknown there : Bool) → StopIs unknown there (cond unknown (Some why.Unknown) (cond there None (Some why.Trap)))
stop_is true there = first_ refl
stop_is false true = nothing refl refl
stop_is false false = second refl refl

-- The place and the table of an element segment whose slots are there.
pub record HasPlace (m : Module) (table : ℕ) (offset : ConstExpr) (count : ℕ) : Type 0 where
  pub value : ℤ
  pub is : offset ≡ const.I32 value
  pub ty : TableType
  pub there : defined_table m table ≡ Some ty
  pub fits : wrapped 32 value + count ≤ ty.limits.min

pub has_place : (m : Module) (table : ℕ) (offset : ConstExpr) (count : ℕ) → has_slots (defined_table m table) offset count ≡ true → HasPlace m table offset count
has_place m table offset count e = by (defined_table m table) offset refl refl e
  where
    by : (o : Option TableType) (x : ConstExpr) → defined_table m table ≡ o → offset ≡ x → has_slots o x count ≡ true → HasPlace m table offset count
    by None x a b h = absurd (let k = h in cc)
    by (Some t) (const.I32 v) a b h = record { value = v; is = b; ty = t; there = a; fits = leb-true (wrapped 32 v + count) t.limits.min h }
    by (Some t) (const.I64 v) a b h = absurd (let k = h in cc)
    by (Some t) (const.Null v) a b h = absurd (let k = h in cc)
    by (Some t) (const.Func v) a b h = absurd (let k = h in cc)
    by (Some t) (const.Global v) a b h = absurd (let k = h in cc)

module _ (m : Module) (first : State) (starts : StartsAs m first) (s : State) (n : ℕ) (filled : List (ℕ × Slot)) (f : IsFilled m first n filled s) (e : ElemSeg) (at : slice_get m.elems n ≡ Some e)
    (refs : List RefVal) (given : refs_in m e.items ≡ Some refs) (stands : slice_get first.store.elems n ≡ Some (new_elem e.mode refs)) where
  its_table : (table : ℕ) (ty : TableType) → defined_table m table ≡ Some ty → (t : Table) × (slice_get s.store.tables table ≡ Some t)
  its_table table ty there = let k = and_then_is (slice_get s.store.tables table) (λ t. Some (length t.slots)) ty.limits.min (f.counts table ∙ starts.counts table ∙ sized m table ty there) in (k.0, k.1)

  abbrev stage : (table : ℕ) (offset : ConstExpr) → Filled → Stage
  stage table offset x = elem_filled m s (task m first starts s n filled f e at refs given stands) table offset x

  abbrev run : (table : ℕ) (offset : ConstExpr) → Filled
  run table offset = run_elem_with (value_in m) s.store (task m first starts s n filled f e at refs given stands) (elem.Active table offset)

  -- A segment whose slots are not there traps.
  traps : (table : ℕ) (offset : ConstExpr) → (reads_global offset || is_imported m Tables table) ≡ false → has_slots (defined_table m table) offset (length e.items) ≡ false → e.mode ≡ elem.Active table offset → (run table offset).trapped ≡ true
  traps table (const.I32 v) known off is = by (defined_table m table) refl off
    where
      by : (o : Option TableType) → defined_table m table ≡ o → has_slots o (const.I32 v) (length e.items) ≡ false → (run table (const.I32 v)).trapped ≡ true
      by None there h = rw (table_nowhere m table there known) refl
      by (Some ty) there h =
          let t = its_table table ty there in
          passes m first starts s n filled f e at refs given stands table v is ty there t.0 t.1 (leb-false (wrapped 32 v + length e.items) ty.limits.min h)
  traps table (const.I64 v) known off is = refl
  traps table (const.Null v) known off is = refl
  traps table (const.Func v) known off is = rw (by (slice_get (own_inst m).funcs v)) refl
    where
      by : (o : Option ℕ) → (((o >>= λ a. Some (Ref (FuncRef (Some a)))) >>= num_of W32)) ≡ None
      by None = refl
      by (Some a) = refl
  traps table (const.Global v) known off is = absurd (let k = known in cc)

  -- ---- a segment ----

  stage_of : (table : ℕ) (offset : ConstExpr) → e.mode ≡ elem.Active table offset → with_elem m s (task m first starts s n filled f e at refs given stands) ≡ stage table offset (run table offset)
  stage_of table offset is =
      ap (with_elem_mode m s (task m first starts s n filled f e at refs given stands)) is
      ∙ ap (λ mode. stage table offset (run_elem_with (value_in m) s.store (task m first starts s n filled f e at refs given stands) mode)) is

  stops_first : (table : ℕ) (offset : ConstExpr) (x : Filled) → (reads_global offset || is_imported m Tables table) ≡ true → stage table offset x ≡ Stopped why.Unknown s.turns
  stops_first table offset x h = rw h refl

  stops_second : (table : ℕ) (offset : ConstExpr) (x : Filled) → (reads_global offset || is_imported m Tables table) ≡ false → x.trapped ≡ true → stage table offset x ≡ Stopped why.Trap s.turns
  stops_second table offset x h k = rw (h, k) refl

  goes_on : (table : ℕ) (v : ℤ) (is : e.mode ≡ elem.Active table (const.I32 v)) (ty : TableType) (there : defined_table m table ≡ Some ty) (t : Table) (has : slice_get s.store.tables table ≡ Some t) (fits : wrapped 32 v + length e.items ≤ ty.limits.min)
      (new : List (ℕ × Slot)) (copies : CopiesItems filled new table (wrapped 32 v) e.items) → is_imported m Tables table ≡ false →
      stage table (const.I32 v) (run table (const.I32 v)) ≡ Finished (next m first starts s n filled f e at refs given stands table v is ty there t has fits new copies)
  goes_on table v is ty there t has fits new copies known = rw (goes m first starts s n filled f e at refs given stands table v is ty there t has fits, known) refl

  pub elem_stops : (table : ℕ) (offset : ConstExpr) (x : Stop) → e.mode ≡ elem.Active table offset → elem_stop m table offset (length e.items) ≡ Some x → with_elem m s (task m first starts s n filled f e at refs given stands) ≡ Stopped x s.turns
  elem_stops table offset x is h = by (elem_stop m table offset (length e.items)) (stop_is (reads_global offset || is_imported m Tables table) (has_slots (defined_table m table) offset (length e.items))) h
    where
      by : (o : Option Stop) → StopIs (reads_global offset || is_imported m Tables table) (has_slots (defined_table m table) offset (length e.items)) o → o ≡ Some x → with_elem m s (task m first starts s n filled f e at refs given stands) ≡ Stopped x s.turns
      by None (nothing a b) g = absurd (let k = g in cc)
      by (Some _) (first_ a) g = stage_of table offset is ∙ (stops_first table offset (run table offset) a ∙ ap (λ x. Stopped x s.turns) (same_Some _ _ g))
      by (Some _) (second a b) g = stage_of table offset is ∙ (stops_second table offset (run table offset) a (traps table offset a b is) ∙ ap (λ x. Stopped x s.turns) (same_Some _ _ g))

  pub elem_goes : (table : ℕ) (offset : ConstExpr) (new : List (ℕ × Slot)) → e.mode ≡ elem.Active table offset → elem_stop m table offset (length e.items) ≡ None → CopiesItems filled new table (place_at offset) e.items →
      (t : State) × (with_elem m s (task m first starts s n filled f e at refs given stands) ≡ Finished t) × IsFilled m first (suc n) new t
  elem_goes table offset new is h copies = by (elem_stop m table offset (length e.items)) (stop_is (reads_global offset || is_imported m Tables table) (has_slots (defined_table m table) offset (length e.items))) h
    where
      at_place : (p : HasPlace m table offset (length e.items)) → is_imported m Tables table ≡ false → (t : State) × (with_elem m s (task m first starts s n filled f e at refs given stands) ≡ Finished t) × IsFilled m first (suc n) new t
      at_place p known =
          let mode : e.mode ≡ elem.Active table (const.I32 p.value) = is ∙ ap (elem.Active table) p.is in
          let there : CopiesItems filled new table (wrapped 32 p.value) e.items = rw p.is at copies in
          let t = its_table table p.ty p.there in (
            next m first starts s n filled f e at refs given stands table p.value mode p.ty p.there t.0 t.1 p.fits new there,
            stage_of table (const.I32 p.value) mode ∙ goes_on table p.value mode p.ty p.there t.0 t.1 p.fits new there known,
            filled_next m first starts s n filled f e at refs given stands table p.value mode p.ty p.there t.0 t.1 p.fits new there,
          )

      by : (o : Option Stop) → StopIs (reads_global offset || is_imported m Tables table) (has_slots (defined_table m table) offset (length e.items)) o → o ≡ None → (t : State) × (with_elem m s (task m first starts s n filled f e at refs given stands) ≡ Finished t) × IsFilled m first (suc n) new t
      by None (nothing a b) g = at_place (has_place m table offset (length e.items) b) (or_parts (reads_global offset) (is_imported m Tables table) a).1
      by (Some _) (first_ a) g = absurd (let k = g in cc)
      by (Some _) (second a b) g = absurd (let k = g in cc)

  filled_too : IsFilled m first (suc n) filled s
  filled_too = record {
    funcs = f.funcs;
    mems = f.mems;
    globals = f.globals;
    datas = f.datas;
    unset = f.unset;
    items = f.items;
    written = f.written;
    turns = f.turns;
    elems = λ k le. f.elems k (omega (arith, le));
    counts = f.counts;
    known = f.known;
    slots = f.slots;
  }

  pub elem_rests : (e.mode ≡ elem.Passive) ⊎ (e.mode ≡ elem.Declarative) → (with_elem m s (task m first starts s n filled f e at refs given stands) ≡ Finished s) × IsFilled m first (suc n) filled s
  elem_rests (inl is) = (rw is refl, filled_too)
  elem_rests (inr is) = (rw is refl, filled_too)

-- ---- all element segments ----

-- The segments from an index on are the one at the index and those after it.
one_less : (m : Module) (n : ℕ) (e : ElemSeg) → slice_get m.elems n ≡ Some e → elems_from m n (drop n m.elems) ≡ record { part = 0; inst = own_inst m; address = n; segment = e } ∷ elems_from m (suc n) (drop (suc n) m.elems)
one_less m n e at = rw (drop-cons m.elems n e (slice_get_within m.elems n e at), get_or_from_slice_get m.elems n e e at) refl

-- The state after the first `n` element segments, whose slots are as `filled` says.
pub record Stands (m : Module) (first : State) (n : ℕ) (filled : List (ℕ × Slot)) : Type 0 where
  pub state : State
  pub leads : elems_end m first ≡ in_order (with_elem m) (Finished state) (elems_from m n (drop n m.elems))
  pub filled_ : IsFilled m first n filled state

pub begins : (m : Module) (first : State) (filled : List (ℕ × Slot)) → StartsAs m first → ((t p : ℕ) → filled_at filled t p ≡ None) → Stands m first 0 filled
begins m first filled starts none = record {
  state = first;
  leads = refl;
  filled_ = record {
    funcs = refl;
    mems = refl;
    globals = refl;
    datas = refl;
    unset = refl;
    items = refl;
    written = refl;
    turns = refl;
    elems = λ k le. refl;
    counts = λ t. refl;
    known = λ t p h. absurd (let k : true ≡ false = sym h ∙ starts.known t p in cc);
    slots = λ t p lt. rw (none t p) (starts.slots t p);
  };
}

module _ (m : Module) (first : State) (starts : StartsAs m first) (n : ℕ) (filled : List (ℕ × Slot)) (stands : Stands m first n filled) (e : ElemSeg) (at : slice_get m.elems n ≡ Some e) where
  its_refs : (refs : List RefVal) × (refs_in m e.items ≡ Some refs) × (slice_get first.store.elems n ≡ Some (new_elem e.mode refs))
  its_refs = starts.elems n e at

  pub stands_on : (table : ℕ) (offset : ConstExpr) (new : List (ℕ × Slot)) → e.mode ≡ elem.Active table offset → FillsSlots m table offset e.items filled None new → Stands m first (suc n) new
  stands_on table offset new is fills =
      let r = its_refs in
      let t = elem_goes m first starts stands.state n filled stands.filled_ e at r.0 r.1 r.2 table offset new is fills.0 fills.1 in
      record { state = t.0; leads = stands.leads ∙ (ap (in_order (with_elem m) (Finished stands.state)) (one_less m n e at) ∙ ap (λ x. in_order (with_elem m) x (elems_from m (suc n) (drop (suc n) m.elems))) t.1); filled_ = t.2 }

  pub stands_still : (e.mode ≡ elem.Passive) ⊎ (e.mode ≡ elem.Declarative) → Stands m first (suc n) filled
  stands_still is =
      let r = its_refs in
      let t = elem_rests m first starts stands.state n filled stands.filled_ e at r.0 r.1 r.2 is in
      record { state = stands.state; leads = stands.leads ∙ (ap (in_order (with_elem m) (Finished stands.state)) (one_less m n e at) ∙ ap (λ x. in_order (with_elem m) x (elems_from m (suc n) (drop (suc n) m.elems))) t.0); filled_ = t.1 }

  stopped : (x : Stop) (left : ℕ) (xs : List (PlacedSegment ElemSeg)) → stop_of (in_order (with_elem m) (Stopped x left) xs) ≡ Some x
  stopped x left [] = refl
  stopped x left (y ∷ xs) = refl

  pub stops_there : (table : ℕ) (offset : ConstExpr) (new : List (ℕ × Slot)) (x : Stop) → e.mode ≡ elem.Active table offset → FillsSlots m table offset e.items filled (Some x) new → stop_of (elems_end m first) ≡ Some x
  stops_there table offset new x is fills =
      let r = its_refs in
      let t = elem_stops m first starts stands.state n filled stands.filled_ e at r.0 r.1 r.2 table offset x is fills in
      ap stop_of (stands.leads ∙ (ap (in_order (with_elem m) (Finished stands.state)) (one_less m n e at) ∙ ap (λ x. in_order (with_elem m) x (elems_from m (suc n) (drop (suc n) m.elems))) t)) ∙ stopped x stands.state.turns (elems_from m (suc n) (drop (suc n) m.elems))

-- The state after all element segments.
pub all_filled : (m : Module) (first : State) (filled : List (ℕ × Slot)) → Stands m first (length m.elems) filled → (s : State) × (elems_end m first ≡ Finished s) × IsFilled m first (length m.elems) filled s
all_filled m first filled stands =
    let gone : drop (length m.elems) m.elems ≡ [] = drop-length m.elems in
    (stands.state, stands.leads ∙ ap (λ xs. in_order (with_elem m) (Finished stands.state) (elems_from m (length m.elems) xs)) gone, stands.filled_)

-- ---- one more element segment ----

abbrev pub AllStand : (m : Module) (n : ℕ) (filled : List (ℕ × Slot)) → Type 0
AllStand m n filled = (first : State) → StartsAs m first → Stands m first n filled

module _ (m : Module) (n : ℕ) (old new : List (ℕ × Slot)) (e : ElemSeg) (at : slice_get m.elems n ≡ Some e) (stand : AllStand m n old) where
  pub one_filled : (stop : Option Stop) → FillsByMode m e e.mode old stop new → stop ≡ None → AllStand m (n + 1) new
  one_filled stop fills none first starts = subst (λ k. Stands m first k new) z (by e.mode refl stop fills none)
    where
      z : suc n ≡ n + 1
      z = omega arith

      by : (mode : ElemMode) → e.mode ≡ mode → (stop : Option Stop) → FillsByMode m e mode old stop new → stop ≡ None → Stands m first (suc n) new
      by (elem.Active table offset) is None h k = stands_on m first starts n old (stand first starts) e at table offset new is h
      by (elem.Active table offset) is (Some x) h k = absurd (let j = k in cc)
      by elem.Passive is stop h k = subst (λ f. Stands m first (suc n) f) (sym h.1) (stands_still m first starts n old (stand first starts) e at (inl is))
      by elem.Declarative is stop h k = subst (λ f. Stands m first (suc n) f) (sym h.1) (stands_still m first starts n old (stand first starts) e at (inr is))

  pub one_stopped : (stop : Option Stop) (x : Stop) → FillsByMode m e e.mode old stop new → stop ≡ Some x → FillsTables m (elems_end m) (Some x) new
  one_stopped stop x fills some first starts = by e.mode refl stop fills some
    where
      by : (mode : ElemMode) → e.mode ≡ mode → (stop : Option Stop) → FillsByMode m e mode old stop new → stop ≡ Some x → stop_of (elems_end m first) ≡ Some x
      by (elem.Active table offset) is None h k = absurd (let j = k in cc)
      by (elem.Active table offset) is (Some y) h k = stops_there m first starts n old (stand first starts) e at table offset new x is (subst (λ y. FillsSlots m table offset e.items old (Some y) new) (same_Some y x k) h)
      by elem.Passive is stop h k = absurd (let j : None ≡ Some x = sym h.0 ∙ k in cc)
      by elem.Declarative is stop h k = absurd (let j : None ≡ Some x = sym h.0 ∙ k in cc)

pub all_stand : (m : Module) (filled : List (ℕ × Slot)) → AllStand m (length m.elems) filled → FillsTables m (elems_end m) None filled
all_stand m filled stand first starts = all_filled m first filled (stand first starts)
