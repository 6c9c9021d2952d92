-- Segments of two worlds, of which partners are in the same order, are copied to related stores,
-- and trap in both or neither.
use Rattle.base_lists.proofs.Common.{◌≡◌, ℕ, suc, List, ◌∷◌, length, Option, Some, None, Bool, false, refl, arith, slice_get, append_from, set_other, overwrite_rel, there, cond_two, then_rel, then_same_is, number_is, overwritten_length, overwrite_fits}
use Rattle.wasm_tree_spec.specs.Prelude.{Space, ElementSegments, DataSegments, ConstExpr, ElemSeg, DataSeg, Module}
use Rattle.wasm_meaning.specs.Prelude.{overwrite, no_items, no_bytes, RefVal, Val, Table, Memory, Inst, Store, Part, module_at, Environment, Filled, PlacedSegment, numbers, own_count, defined_before, insts_from, segments_in, placed_elems, placed_datas, or_trapped, copy_slots, run_elem_with}
use Rattle.wasm_meaning.specs.Prelude.{run_elem, copy_bytes, run_data_with, run_data, and_then, one_by_one}
use Rattle.run_simulation.specs.Prelude.{Pairing, OneToOne, OptRel, none, some, StoreRel, set_table, set_memory, drop_elem, drop_data, turned, HasNoPartner}
use Rattle.run_simulation.proofs.RelatedOutcomes.{written}
use Rattle.run_simulation.proofs.StepsAgree.{changed_rel}
use Rattle.world_simulation.specs.Prelude.{Instantiated, DefinedAt, values_in, InOrder, both, ends, only_second, ElemsPartner, ElemAlone, DatasPartner, DataAlone, offset_in, IsInst, RelatedStay}
use Rattle.world_simulation.specs.SegmentsInOrder as segments
use Rattle.world_simulation.specs.SegmentsInOrder.{in_first, in_second}
use Rattle.world_simulation.specs.SegmentsByPart.{segments_by_part}
use Rattle.world_simulation.proofs.PartInstances.{inst_in}
use Rattle.world_simulation.proofs.SegmentRoom.{set_holds, HasRoom, nothing_kept}

-- ---- each segment is one that its part defines ----

module _ (env : Environment) (w : Instantiated) (k : Space) {A : Type 0} (definitions : Module → List A) where
  -- A part defines the segment, at the segment's address.
  abbrev IsDefined : PlacedSegment A → Type 0
  IsDefined x = (d : DefinedAt env w k definitions x.address) × (d.definition ≡ x.segment)

  -- Each segment of the list is defined by a part.
  abbrev pub Defines : List (PlacedSegment A) → Type 0
  Defines tasks = (n : ℕ) (x : PlacedSegment A) → slice_get tasks n ≡ Some x → IsDefined x

module _ {A : Type 0} (p : ℕ) (i : Inst) where
  pub task_at : (ns : List ℕ) (xs : List A) (n : ℕ) (x : PlacedSegment A) → slice_get (segments_in p i ns xs) n ≡ Some x → (slice_get ns n ≡ Some x.address) × (slice_get xs n ≡ Some x.segment)
  task_at (a ∷ ns) (y ∷ xs) (suc n) x h = task_at ns xs n x h
  task_at _ _ n x h = grind arith

-- What holds of each segment of each module, with the address that the module's instance has for
-- it, holds of every segment of the list by part.
each_task : {A : Type 0} {P : PlacedSegment A → Type 0} (segs : Module → List A) (adds : Inst → List ℕ) (p : ℕ) (parts : List Part) (is : List Inst) →
    ((q : ℕ) (m : Module) (i : Inst) → module_at parts q ≡ Some m → slice_get is q ≡ Some i → (n : ℕ) (x : PlacedSegment A) → slice_get (adds i) n ≡ Some x.address → slice_get (segs m) n ≡ Some x.segment → P x) →
    (n : ℕ) (x : PlacedSegment A) → slice_get (segments_by_part segs adds p parts is) n ≡ Some x → P x
each_task segs adds p (part ∷ parts) (i ∷ is) f n x h = grind (arith, append_from, task_at, f 0 part.«module» i refl refl, each_task segs adds (suc p) parts is (λ q. f (suc q)))
each_task segs adds p _ _ f n x h = cc

pub elems_by : (p : ℕ) (parts : List Part) (is : List Inst) → placed_elems p parts is ≡ segments_by_part (λ m. m.elems) (λ i. i.elems) p parts is
elems_by p (part ∷ parts) (i ∷ is) = rw (elems_by (suc p) parts is)
elems_by p _ _ = refl

pub datas_by : (p : ℕ) (parts : List Part) (is : List Inst) → placed_datas p parts is ≡ segments_by_part (λ m. m.datas) (λ i. i.datas) p parts is
datas_by p (part ∷ parts) (i ∷ is) = rw (datas_by (suc p) parts is)
datas_by p _ _ = refl

module _ (env : Environment) (w : Instantiated) (are : insts_from env w.parts 0 w.parts ≡ Some w.insts) where
  -- A world that is instantiated has the instance of each of its parts.
  pub inst_at : (p : ℕ) (m : Module) (i : Inst) → module_at w.parts p ≡ Some m → slice_get w.insts p ≡ Some i → IsInst env w.parts p m i
  inst_at p m i is there = grind (arith, inst_in _ _ _ are p m is)

  -- All segments of a kind are defined by parts, if each instance has the addresses of the segments
  -- that its part defines.
  all_defined : {k : Space} {A : Type 0} (definitions : Module → List A) (adds : Inst → List ℕ) → own_count k env ≡ 0 →
      ((p : ℕ) (m : Module) (i : Inst) → IsInst env w.parts p m i → adds i ≡ numbers (defined_before k w.parts p) (length (definitions m))) → Defines env w k definitions (segments_by_part definitions adds 0 w.parts w.insts)
  all_defined definitions adds none_own first = each_task definitions adds 0 w.parts w.insts (λ p m i is_part is_inst n x address stands.
      (record { part = p; of = m; is_part = is_part; inst = i; is_inst = is_inst; place = n; definition = x.segment; stands = stands; address = grind (arith, number_is, first p m i (inst_at p m i is_part is_inst)) }, refl))

  pub elems_defined : Defines env w ElementSegments (λ m. m.elems) (placed_elems 0 w.parts w.insts)
  elems_defined = rw (elems_by 0 w.parts w.insts) (all_defined _ _ refl (λ p m i is. is.elems))

  pub datas_defined : Defines env w DataSegments (λ m. m.datas) (placed_datas 0 w.parts w.insts)
  datas_defined = rw (datas_by 0 w.parts w.insts) (all_defined _ _ refl (λ p m i is. is.datas))

-- ---- what is kept where it is related ----

module _ (R : Pairing) where
  pub kept_rel : {s t z y : Store} → StoreRel R s z → RelatedStay (in_first R) s t → RelatedStay (in_second R) z y → StoreRel R t y
  kept_rel like f g = grind (arith, both)

-- ---- the segments of one world ----

module _ (Q : Filled → Type 0) (value : ConstExpr → Option Val) (s : Store) (still : (trapped : Bool) → Q (record { store = s; trapped = trapped })) where
  -- Q holds of the result of a segment that is copied, if it holds of a store that is left as it
  -- is, and of a store in which contents are overwritten with as many items.
  elem_holds : (x : PlacedSegment ElemSeg) → ((a : ℕ) (t : Table) (slots : List RefVal) → slice_get s.tables a ≡ Some t → length slots ≡ length t.slots → Q (copy_slots s x.address a t (Some slots))) → Q (run_elem_with value s x x.segment.mode)
  elem_holds x written = grind (arith, overwritten_length)

  data_holds : (x : PlacedSegment DataSeg) → ((a : ℕ) (m : Memory) (bytes : List ℕ) → slice_get s.mems a ≡ Some m → length bytes ≡ length m.bytes → Q (copy_bytes s x.address a m (Some bytes))) → Q (run_data_with value s x x.segment.mode)
  data_holds x written = grind (arith, overwritten_length)

module _ (R : Pairing) (env : Environment) (w : Instantiated) where
  abbrev Room : Filled → Type 0
  Room f = HasRoom env w f.store

  -- A copy does not trap, and leaves the store as it was at the second addresses that R relates.
  abbrev Copies : Store → Filled → Type 0
  Copies s f = (f.trapped ≡ false) × RelatedStay (in_second R) s f.store

  -- Each copy of a segment of one kind, in a store with room, leaves room; and if the segment has
  -- no partner, it does not trap and keeps what is related.
  abbrev Runs : Space → {A : Type 0} → (Module → List A) → (PlacedSegment A → Type 0) → (Store → PlacedSegment A → Filled) → Type 0
  Runs k definitions alone run = (s : Store) → HasRoom env w s → (x : PlacedSegment _) → Room (run s x) × (IsDefined env w k definitions x → alone x → Copies s (run s x))

  elems_run : Runs ElementSegments (λ m. m.elems) (λ x. ElemAlone (HasNoPartner R) env w x x.segment.mode) (run_elem env w.parts w.insts)
  elems_run s room x = (
    elem_holds Room (values_in env w x.part) s (λ _. room) x (λ a t slots there same. assumption (
      set_holds s.tables a (record t { slots = slots }) room.tables (grind arith),
      set_holds s.elems x.address no_items room.elems (grind arith),
    )),
    λ d alone. elim alone as (λ mode _. Copies s (run_elem_with (values_in env w x.part) s x mode)) [
      | segments.ElemAlone.active {n = n} named lone table by_itself offset fits ↦
          let u = room.tables _ table in
          let i = room.elems _ d.0 in
          let o = overwrite_fits u.0.slots i.0.items n (grind arith) in
          rw (offset, named, u.1, i.1, o.1) (grind (arith, set_other))
      | _ ↦ assumption
    ],
  )

  datas_run : Runs DataSegments (λ m. m.datas) (λ x. DataAlone (HasNoPartner R) env w x x.segment.mode) (run_data env w.parts w.insts)
  datas_run s room x = (
    data_holds Room (values_in env w x.part) s (λ _. room) x (λ a m bytes there same. assumption (
      set_holds s.mems a (record m { bytes = bytes }) room.mems (grind arith),
      set_holds s.datas x.address no_bytes room.datas (grind arith),
    )),
    λ d alone. elim alone as (λ mode _. Copies s (run_data_with (values_in env w x.part) s x mode)) [
      | segments.DataAlone.active {n = n} named lone memory by_itself offset fits ↦
          let u = room.mems _ memory in
          let i = room.datas _ d.0 in
          let o = overwrite_fits u.0.bytes i.0.bytes n (grind arith) in
          rw (offset, named, u.1, i.1, o.1) (grind (arith, set_other))
      | _ ↦ assumption
    ],
  )

-- ---- related stores with room ----

module _ (R : Pairing) (apart : OneToOne R) (env : Environment) (v w : Instantiated) where
  pub record Stores (s z : Store) : Type 0 where
    pub related : StoreRel R s z
    pub first : HasRoom env v s
    pub second : HasRoom env w z

  pub record FilledAlike (f g : Filled) : Type 0 where
    pub stores : Stores f.store g.store
    pub trapped : f.trapped ≡ g.trapped

  pub and_then_alike : {f g : Filled} {h k : Store → Filled} → FilledAlike f g → ((s z : Store) → Stores s z → FilledAlike (h s) (k z)) → FilledAlike (and_then f h) (and_then g k)
  and_then_alike {g = g} r next = rw r.trapped (cond_two FilledAlike g.trapped (assumption) (next _ _ r.stores))

  -- ---- partners ----

  -- The stores are related, and both trapped or neither did.
  abbrev Related : Filled → Filled → Type 0
  Related f g = StoreRel R f.store g.store × (f.trapped ≡ g.trapped)

  or_trapped_rel : {s z : Store} {o p : Option Filled} → StoreRel R s z → OptRel Related o p → Related (or_trapped s o) (or_trapped z p)
  or_trapped_rel like none = (like, refl)
  or_trapped_rel like (some r) = r

  -- ---- in order ----

  module _ {k : Space} {A : Type 0} {definitions : Module → List A} {partners : PlacedSegment A → PlacedSegment A → Type 0} {alone second_alone : PlacedSegment A → Type 0} {run second_run : Store → PlacedSegment A → Filled}
      (first : Runs (turned R) env v k definitions alone run) (second : Runs R env w k definitions second_alone second_run) (related : (s z : Store) → StoreRel R s z → (x y : PlacedSegment A) → partners x y → Related (run s x) (second_run z y)) where
    -- Partners are copied on both sides; a segment without a partner is copied on its own side,
    -- while the other store stays as it is.
    in_order : {xs ys : List (PlacedSegment A)} → InOrder partners alone second_alone xs ys → Defines env v k definitions xs → Defines env w k definitions ys → (s z : Store) → Stores s z → FilledAlike (one_by_one run s xs) (one_by_one second_run z ys)
    in_order ends d e s z like = assumption
    in_order (both {x = x} {y = y} p r) d e s z like =
        let alike : FilledAlike (run s x) (second_run z y) = assumption (related s z like.related x y p, first s like.first x, second z like.second y) in
        and_then_alike alike (in_order r (λ n. d (suc n)) (λ n. e (suc n)))
    in_order (segments.InOrder.only_first p r) d e s z like =
        let c = first s like.first _ in
        let k = c.1 (d 0 _ refl) p in
        rw k.0 (in_order r (λ n. d (suc n)) e _ z (assumption (kept_rel R like.related k.1 (nothing_kept _ z))))
    in_order (only_second p r) d e s z like =
        let c = second z like.second _ in
        let k = c.1 (e 0 _ refl) p in
        rw k.0 (in_order r d (λ n. e (suc n)) s _ (assumption (kept_rel R like.related (nothing_kept _ s) k.1)))

  pub elems_in_order : {xs ys : List (PlacedSegment ElemSeg)} →
      InOrder (λ x y. ElemsPartner R (values_in env v x.part) (values_in env w y.part) x y x.segment.mode y.segment.mode) (λ x. ElemAlone (HasNoPartner (turned R)) env v x x.segment.mode) (λ y. ElemAlone (HasNoPartner R) env w y y.segment.mode) xs ys →
      Defines env v ElementSegments (λ m. m.elems) xs → Defines env w ElementSegments (λ m. m.elems) ys → (s z : Store) → Stores s z → FilledAlike (one_by_one (run_elem env v.parts v.insts) s xs) (one_by_one (run_elem env w.parts w.insts) z ys)
  elems_in_order = in_order (elems_run (turned R) env v) (elems_run R env w) (λ s z like x y p. elim p as (λ m n _. Related (run_elem_with (values_in env v x.part) s x m) (run_elem_with (values_in env w y.part) z y n)) [
    | segments.ElemsPartner.active e to same ↦
        rw (← same) (or_trapped_rel like (then_same_is _ (λ q _. then_rel to (λ a b h. then_rel (there (like.tables h)) (λ t u r. then_rel (there (like.elems e)) (λ _ _ i. some (
        elim (overwrite_rel q r.slots i.items) as (λ o p _. Related (copy_slots s x.address a t o) (copy_slots z y.address b u p)) [
          | some l ↦ (changed_rel R (written apart) (changed_rel R (written apart) like (set_table h (assumption))) (drop_elem e), refl)
          | none ↦ (like, refl)
        ])))))))
    | _ ↦ (like, refl)
  ])

  pub datas_in_order : {xs ys : List (PlacedSegment DataSeg)} →
      InOrder (λ x y. DatasPartner R (values_in env v x.part) (values_in env w y.part) x y x.segment.mode y.segment.mode) (λ x. DataAlone (HasNoPartner (turned R)) env v x x.segment.mode) (λ y. DataAlone (HasNoPartner R) env w y y.segment.mode) xs ys →
      Defines env v DataSegments (λ m. m.datas) xs → Defines env w DataSegments (λ m. m.datas) ys → (s z : Store) → Stores s z → FilledAlike (one_by_one (run_data env v.parts v.insts) s xs) (one_by_one (run_data env w.parts w.insts) z ys)
  datas_in_order = in_order (datas_run (turned R) env v) (datas_run R env w) (λ s z like x y p. elim p as (λ m n _. Related (run_data_with (values_in env v x.part) s x m) (run_data_with (values_in env w y.part) z y n)) [
    | segments.DatasPartner.active {d = d} e to same ↦
        rw (← same) (or_trapped_rel like (then_same_is (offset_in (values_in env v x.part) d) (λ q _. then_rel to (λ a b h. then_rel (there (like.mems h)) (λ m _ same. then_rel (there (like.datas e)) (λ c _ bytes. some (rw (← same, ← bytes) (
        elim (overwrite m.bytes q c.bytes) as (λ o. Related (copy_bytes s x.address a m o) (copy_bytes z y.address b m o)) [
          | Some bytes ↦ (changed_rel R (written apart) (changed_rel R (written apart) like (set_memory h)) (drop_data e), refl)
          | None ↦ (like, refl)
        ]))))))))
    | _ ↦ (like, refl)
  ])
