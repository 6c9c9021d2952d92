-- Two related stores stay related where a module is added to one of them and its segments write
-- only what is related to nothing.
use Rattle.base_lists.proofs.Common.{◌≡◌, ℕ, suc, ◌<◌, ◌≤◌, List, [], ◌∷◌, ◌++◌, length, Option, Some, refl, subst, arith, slice_get, slice_get_within, append-nil, append_left, append_at_left, set_other, number_is}
use Rattle.wasm_tree_spec.specs.Prelude.{Space, Functions, ElementSegments, DataSegments, ElemSeg, DataSeg, Module}
use Rattle.wasm_meaning.specs.Prelude.{Inst, Store, ExternalValue, Filled, PlacedSegment, numbers, const_value, store_with, joined_stores, segments_in, run_elem_with, run_data_with, and_then, one_by_one, Added, added, own_segments, next_inst}
use Rattle.run_simulation.specs.Prelude.{Pairing, BothRel, both, StoreRel, turned, HasNoPartner}
use Rattle.world_simulation.specs.AddedModules.{WritesAlone}
use Rattle.world_simulation.specs.Prelude.{RelatedStay, in_first, in_second}
use Rattle.world_simulation.proofs.SegmentsInOrder.{kept_rel}

-- ---- what is added comes behind ----

pub right_is : {A B : Type 0} {P : A → B → Type 0} {o : Option A} {p : Option B} → BothRel P o p → (b : B) × (p ≡ Some b)
right_is (both {b = b} r) = (b, refl)

left_is : {A B : Type 0} {P : A → B → Type 0} {o : Option A} {p : Option B} → BothRel P o p → (a : A) × (o ≡ Some a)
left_is (both {a = a} r) = (a, refl)

-- Related items of two lists are still related after both lists are extended at their ends.
both_joined : {A B : Type 0} {P : A → B → Type 0} (xs us : List A) (ys vs : List B) (a b : ℕ) → BothRel P (slice_get xs a) (slice_get ys b) → BothRel P (slice_get (xs ++ us) a) (slice_get (ys ++ vs) b)
both_joined xs us ys vs a b r =
    let x = left_is r in
    let y = right_is r in
    rw (append_left xs us a (slice_get_within xs a x.0 x.1), append_left ys vs b (slice_get_within ys b y.0 y.1)) r

module _ (R : Pairing) where
  -- Related stores are still related after both are extended.
  joined_both : {s z : Store} (t u : Store) → StoreRel R s z → StoreRel R (joined_stores s t) (joined_stores z u)
  joined_both {s} {z} t u like = record {
    types = λ {a} {b} r. let same = funcs a b r in rw (same.0, same.1) (like.types r);
    owns = λ {a} {b} r. let same = funcs a b r in rw (same.0, same.1) (like.owns r);
    funcs = λ r l. search (both_joined, like.funcs r l);
    tables = λ r. search (both_joined, like.tables r);
    mems = λ r. search (both_joined, like.mems r);
    globals = λ r. search (both_joined, like.globals r);
    elems = λ r. search (both_joined, like.elems r);
    datas = λ r. search (both_joined, like.datas r);
  }
    where
      funcs : (a b : ℕ) → R.of Functions a b → (slice_get (s.funcs ++ t.funcs) a ≡ slice_get s.funcs a) × (slice_get (z.funcs ++ u.funcs) b ≡ slice_get z.funcs b)
      funcs a b r =
          let k = left_is (like.types r) in
          let l = right_is (like.types r) in
          grind (arith, append_at_left, k.1, l.1)

  abbrev nothing_defined : Store
  nothing_defined = record { funcs = []; tables = []; mems = []; globals = []; elems = []; datas = [] }

  pub joined_right : {s z : Store} (t : Store) → StoreRel R s z → StoreRel R s (joined_stores z t)
  joined_right t like = simp append-nil at (joined_both nothing_defined t like)

  joined_left : {s z : Store} (t : Store) → StoreRel R s z → StoreRel R (joined_stores s t) z
  joined_left t like = simp append-nil at (joined_both t nothing_defined like)

-- ---- a module that is added ----

pub number_past : (from count n a : ℕ) → slice_get (numbers from count) n ≡ Some a → from ≤ a
number_past from count n a h = omega (arith, number_is from count n a h)

-- Adding a module appends what the module defines to the store, and then copies its segments.
pub added_is : (s : Store) (m : Module) (things : List ExternalValue) (a : Added) → added s m things ≡ Some a →
    let i = next_inst s m things in (t : Store) × (store_with (const_value s.globals i) m i ≡ Some t) × (record { inst = i; filled = own_segments (const_value s.globals i) m i (joined_stores s t) } ≡ a)
added_is s m things a h = grind arith

module _ (related alone : Space → ℕ → Type 0) (never : (k : Space) (a : ℕ) → alone k a → related k a → ⊥) where
  -- What each of two steps of copying keeps is kept by one after the other.
  then_kept : (s : Store) (f : Filled) (g : Store → Filled) → RelatedStay related s f.store → ((t : Store) → RelatedStay related t (g t).store) → RelatedStay related s (and_then f g).store
  then_kept s f g h next = grind (arith, next f.store)

  -- What the copy of each segment keeps is kept by the copies of all segments in turn.
  turn_kept : {A : Type 0} (run : Store → PlacedSegment A → Filled) (i : Inst) (ns : List ℕ) (xs : List A) →
      ((n a : ℕ) (x : A) → slice_get ns n ≡ Some a → slice_get xs n ≡ Some x → (s : Store) → RelatedStay related s (run s (record { part = 0; inst = i; address = a; segment = x })).store) → (s : Store) → RelatedStay related s (one_by_one run s (segments_in 0 i ns xs)).store
  turn_kept run i (a ∷ ns) (x ∷ xs) h s = then_kept s _ (λ s. one_by_one run s (segments_in 0 i ns xs)) (h 0 a x refl refl s) (turn_kept run i ns xs (λ n. h (suc n)))
  turn_kept run i _ _ h s = assumption

  -- What is related is kept if all related segments were there before, and the segments of the
  -- added module write only tables and memories that are related to nothing.
  added_kept : (s : Store) (m : Module) (things : List ExternalValue) (a : Added) → added s m things ≡ Some a →
      ((n : ℕ) → related ElementSegments n → n < length s.elems) → ((n : ℕ) → related DataSegments n → n < length s.datas) → WritesAlone alone m a.inst → (t : Store) × RelatedStay related (joined_stores s t) a.filled.store
  added_kept s m things a h elems datas writes =
      let i = next_inst s m things in
      let value = const_value s.globals i in
      let t = added_is s m things a h in
      let kept : WritesAlone alone m i → RelatedStay related (joined_stores s t.0) (own_segments value m i (joined_stores s t.0)).store = λ writes.
      let run_elem = λ (s : Store) (task : PlacedSegment ElemSeg). run_elem_with value s task task.segment.mode in
      let run_data = λ (s : Store) (task : PlacedSegment DataSeg). run_data_with value s task task.segment.mode in
      then_kept (joined_stores s t.0) (one_by_one run_elem (joined_stores s t.0) (segments_in 0 i i.elems m.elems)) (λ s. one_by_one run_data s (segments_in 0 i i.datas m.datas))
      (turn_kept run_elem i i.elems m.elems (λ n b x b_is x_is s. grind (arith, set_other, number_past)) (joined_stores s t.0)) (turn_kept run_data i i.datas m.datas (λ n b x b_is x_is s. grind (arith, set_other, number_past))) in
      (t.0, subst (λ (a : Added). WritesAlone alone m a.inst → RelatedStay related (joined_stores s t.0) a.filled.store) t.2 kept writes)

module _ (R : Pairing) where
  first_apart : (k : Space) (a : ℕ) → HasNoPartner (turned R) k a → in_first R k a → ⊥
  first_apart k a alone r = alone r.0 r.1

  second_apart : (k : Space) (b : ℕ) → HasNoPartner R k b → in_second R k b → ⊥
  second_apart k b alone r = alone r.0 r.1

module _ (R : Pairing) (s z : Store) (m : Module) (things : List ExternalValue) (a : Added) (like : StoreRel R s z) where
  pub added_second : added z m things ≡ Some a → WritesAlone (HasNoPartner R) m a.inst → StoreRel R s a.filled.store
  added_second h writes =
      let k = added_kept (in_second R) (HasNoPartner R) (second_apart R) z m things a h
      (λ n r. let b = right_is (like.elems r.1) in slice_get_within z.elems n b.0 b.1) (λ n r. let b = right_is (like.datas r.1) in slice_get_within z.datas n b.0 b.1) writes in
      kept_rel R (joined_right R k.0 like) (assumption) k.1

  pub added_first : added s m things ≡ Some a → WritesAlone (HasNoPartner (turned R)) m a.inst → StoreRel R a.filled.store z
  added_first h writes =
      let k = added_kept (in_first R) (HasNoPartner (turned R)) (first_apart R) s m things a h
      (λ n r. let b = left_is (like.elems r.1) in slice_get_within s.elems n b.0 b.1) (λ n r. let b = left_is (like.datas r.1) in slice_get_within s.datas n b.0 b.1) writes in
      kept_rel R (joined_left R k.0 like) k.1 (assumption)
