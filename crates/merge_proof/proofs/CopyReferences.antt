-- A store into which segments are copied refers to nothing to which it did not refer before.
use Rattle.base_lists.proofs.Common.{◌≡◌, refl, ℕ, List, [], ◌∷◌, Option, Some, None, true, false, cond, option_and_then, slice_get, put_rel, overwrite_rel, get_rel, opt_self}
use Rattle.wasm_tree_spec.specs.Prelude.{ConstExpr, ElemSeg, ElemMode, DataSeg, DataMode, Module}
use Rattle.wasm_tree.specs.declared.module.ElemMode.TheVariants as elem
use Rattle.wasm_tree.specs.declared.module.DataMode.TheVariants as data'
use Rattle.wasm_meaning.specs.Prelude.{overwrite, RefVal, Val, Inst, Table, Memory, Elem, Store, Filled, PlacedSegment, or_trapped, copy_slots, run_elem_with, copy_bytes, run_data_with, and_then, one_by_one, segments_in, own_segments}
use Rattle.run_simulation.specs.Prelude.{Pairing, ListRel, nil}
use Rattle.world_simulation.specs.Prelude.{offset_in}
use Rattle.world_simulation.proofs.SegmentRoom.{then_holds}
use Rattle.merge_proof.proofs.ClosedStores.{Closed}

-- An element of a list that is related to itself is related to itself.
pub self_at : {A : Type 0} {P : A → A → Type 0} (xs : List A) (n : ℕ) (x : A) → ListRel P xs xs → slice_get xs n ≡ Some x → P x x
self_at xs n x r e = opt_self (get_rel r n) e

module _ (R : Pairing) where
  -- A closed store stays closed when it is filled.
  abbrev Closes : Store → Filled → Type 0
  Closes s f = Closed R s → Closed R f.store

  table_closed : (s : Store) (segment a : ℕ) (t : Table) (e : Elem) (n : ℕ) → slice_get s.tables a ≡ Some t → slice_get s.elems segment ≡ Some e → (o : Option (List RefVal)) → overwrite t.slots n e.items ≡ o → Closes s (copy_slots s segment a t o)
  table_closed s segment a t e n at_t at_e None h c = c
  table_closed s segment a t e n at_t at_e (Some slots) h c =
      let slots_rel = opt_self (overwrite_rel n (self_at s.tables a t c.tables at_t).slots (self_at s.elems segment e c.elems at_e).items) h in
      record { funcs = c.funcs; tables = put_rel c.tables a (record { type = refl; most = refl; slots = slots_rel }); globals = c.globals; elems = put_rel c.elems segment (record { items = nil }) }

  memory_closed : (s : Store) (segment a : ℕ) (m : Memory) (o : Option (List ℕ)) → Closes s (copy_bytes s segment a m o)
  memory_closed s segment a m None c = c
  memory_closed s segment a m (Some bytes) c = record { funcs = c.funcs; tables = c.tables; globals = c.globals; elems = c.elems }

  -- If a looked-up value is missing, nothing is written.
  found : {A : Type 0} (s : Store) (o : Option A) (f : A → Option Filled) → ((a : A) → o ≡ Some a → Closes s (or_trapped s (f a))) → Closes s (or_trapped s (option_and_then f o))
  found s o f = then_holds (Closes s) s o f (λ c. c)

  elem_closed : (value : ConstExpr → Option Val) (s : Store) (task : PlacedSegment ElemSeg) (mode : ElemMode) → Closes s (run_elem_with value s task mode)
  elem_closed value s task (elem.Active x offset) =
      found s (offset_in value offset) _ (λ n _. found s (slice_get task.inst.tables x) _ (λ a _. found s (slice_get s.tables a) _ (λ t at_t. found s (slice_get s.elems task.address) _ (λ e at_e. table_closed s task.address a t e n at_t at_e (overwrite t.slots n e.items) refl))))
  elem_closed value s task _ = λ c. c

  data_closed : (value : ConstExpr → Option Val) (s : Store) (task : PlacedSegment DataSeg) (mode : DataMode) → Closes s (run_data_with value s task mode)
  data_closed value s task (data'.Active x offset) =
      found s (offset_in value offset) _ (λ n _. found s (slice_get task.inst.mems x) _ (λ a _. found s (slice_get s.mems a) _ (λ m _. found s (slice_get s.datas task.address) _ (λ d _. memory_closed s task.address a m (overwrite m.bytes n d.bytes)))))
  data_closed value s task data'.Passive = λ c. c

  then_closed : (s : Store) (f : Filled) (g : Store → Filled) → Closes s f → ((t : Store) → Closes t (g t)) → Closes s (and_then f g)
  then_closed s f g h k = elim f.trapped as (λ b. Closes s (cond b f (g f.store))) [ true ↦ h | false ↦ λ c. k f.store (h c) ]

  turn_closed : {A : Type 0} (f : Store → A → Filled) → ((s : Store) (x : A) → Closes s (f s x)) → (s : Store) (xs : List A) → Closes s (one_by_one f s xs)
  turn_closed f h s [] = λ c. c
  turn_closed f h s (x ∷ xs) = then_closed s (f s x) (λ s. one_by_one f s xs) (h s x) (λ t. turn_closed f h t xs)

  pub own_closed : (value : ConstExpr → Option Val) (m : Module) (i : Inst) (s : Store) → Closes s (own_segments value m i s)
  own_closed value m i s =
      let elems = λ (s : Store) (task : PlacedSegment ElemSeg). run_elem_with value s task task.segment.mode in
      let datas = λ (s : Store) (task : PlacedSegment DataSeg). run_data_with value s task task.segment.mode in
      then_closed s (one_by_one elems s (segments_in 0 i i.elems m.elems)) (λ t. one_by_one datas t (segments_in 0 i i.datas m.datas))
      (turn_closed elems (λ s task. elem_closed value s task task.segment.mode) s (segments_in 0 i i.elems m.elems)) (λ t. turn_closed datas (λ s task. data_closed value s task task.segment.mode) t (segments_in 0 i i.datas m.datas))
