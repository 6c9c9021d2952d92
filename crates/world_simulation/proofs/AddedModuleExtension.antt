-- A module that is added extends the store, and so does a step under a loader.
use Rattle.base_lists.proofs.Common.{◌≡◌, ℕ, ◌≤◌, List, [], ◌∷◌, ◌++◌, length, Option, Some, None, Bool, true, false, cond, option_and_then, unwrap_or, refl, ap, subst, ◌∙◌, arith, slice_get, append_at_left, and_then_is, same_Some, overwritten_length}
use Rattle.base_lists.specs.Related.{EachRelated}
use Rattle.base_lists.proofs.Related.{each_then}
use Rattle.wasm_tree_spec.specs.Prelude.{ConstExpr, ElemMode, ElemSeg, DataMode, DataSeg, Module}
use Rattle.wasm_tree.specs.declared.module.ElemMode.TheVariants as elem
use Rattle.wasm_tree.specs.declared.module.DataMode.TheVariants as data'
use Rattle.wasm_meaning.specs.Prelude.{Gives, Traps, IllTyped, overwrite, RefVal, Val, Inst, Table, Memory, Store, Entry, Ran, CallsOwn, WaitsGrowth, CallsPlaceholder, EndsCall, SetTable, SetMemory, DropElem, DropData, changed, Filled, PlacedSegment, joined_stores, value_of, placed_elems}
use Rattle.wasm_meaning.specs.Prelude.{placed_datas, segments_in, or_trapped, copy_slots, run_elem_with, copy_bytes, run_data_with, and_then, one_by_one, Added, added, Run, Event, Transition, Steps, Makes, made, transition, run_after, LoaderWorld, LoaderRun, secondary_of, store_loaded, loader_made}
use Rattle.wasm_meaning.specs.Prelude.{StepsWriteWhatTheyTouch, next_inst, const_value, own_segments, ExternalValue, store_with}
use Rattle.wasm_meaning.specs.Loader.{loader_with, if_no_start, secondary_added, call_answered, secondary_called, placeholder_called}
use Rattle.run_simulation.specs.Prelude.{IsBegun}
use Rattle.world_simulation.specs.Prelude.{offset_in}
use Rattle.world_simulation.proofs.SegmentRoom.{then_holds}
use Rattle.wasm_meaning.proofs.Outcomes.{stopped}
use Rattle.world_simulation.specs.StoreExtension.{TableExtends, MemoryExtends, GlobalExtends, Extends, StaysIn, RunExtends, OwnSegmentsExtend, SegmentsExtend, AddedModulesExtend, LoaderKept, LoadersExtend}
use Rattle.world_simulation.proofs.StoreExtension
use Rattle.world_simulation.proofs.StoreExtension.{stays, table_stays, memory_stays, global_stays, table, memory, elem_drops, data_drops, changed_extends}
use Rattle.world_simulation.proofs.RunStepExtension.{after_kept, answer_leaves, tick_extends, stepping_begun, call_extends}

-- ---- what is there stays ----

pub stays_in : (s t : Store) → Extends s t → StaysIn s t
stays_in s t e = record { funcs = λ a f h. ap (λ fs. slice_get fs a) e.funcs ∙ h; tables = e.tables; mems = e.mems; globals = e.globals }

pub still_in : (s t u : Store) → StaysIn s t → StaysIn t u → StaysIn s u
still_in s t u h k = record {
  funcs = λ a f e. k.funcs a f (h.funcs a f e);
  tables = each_then TableExtends s.tables t.tables u.tables (λ x y z p q. let l : length x.slots ≤ length z.slots = omega (arith, p.size, q.size) in record { type = q.type ∙ p.type; most = q.most ∙ p.most; size = l }) h.tables k.tables;
  mems = each_then MemoryExtends s.mems t.mems u.mems (λ x y z p q. let l : x.pages ≤ z.pages = omega (arith, p.size, q.size) in record { most = q.most ∙ p.most; size = l }) h.mems k.mems;
  globals = each_then GlobalExtends s.globals t.globals u.globals (λ x y z p q. record { type = q.type ∙ p.type; fixed = λ e. q.fixed (ap (λ t. t.mutable) p.type ∙ e) ∙ p.fixed e }) h.globals k.globals;
}

each_joined : {A : Type 0} (P : A → A → Type 0) (xs ys : List A) → ((x : A) → P x x) → EachRelated P xs (xs ++ ys)
each_joined P xs ys same a x h = (x, append_at_left xs ys a x h, same x)

pub joined_stays : (s t : Store) → StaysIn s (joined_stores s t)
joined_stays s t = record {
  funcs = λ a f h. append_at_left s.funcs t.funcs a f h;
  tables = each_joined TableExtends s.tables t.tables table_stays;
  mems = each_joined MemoryExtends s.mems t.mems memory_stays;
  globals = each_joined GlobalExtends s.globals t.globals global_stays;
}

-- ---- segments ----

abbrev Fills : Store → Filled → Type 0
Fills s f = Extends s f.store

table_filled : (s : Store) (n a q : ℕ) (t : Table) (items : List RefVal) → slice_get s.tables a ≡ Some t → (o : Option (List RefVal)) → overwrite t.slots q items ≡ o → Fills s (copy_slots s n a t o)
table_filled s n a q t items at None h = stays s
table_filled s n a q t items at (Some slots) h =
    let l = overwritten_length t.slots q items slots h in
    let s1 = changed s (SetTable a (record t { slots = slots })) in
    StoreExtension.and_then s s1 (changed s1 (DropElem n)) (changed_extends (table at (record { type = refl; most = refl; size = omega (arith, l) }))) (changed_extends {s = s1} {c = DropElem n} elem_drops)

memory_filled : (s : Store) (n a : ℕ) (m : Memory) → slice_get s.mems a ≡ Some m → (o : Option (List ℕ)) → Fills s (copy_bytes s n a m o)
memory_filled s n a m at None = stays s
memory_filled s n a m at (Some bytes) =
    let s1 = changed s (SetMemory a (record m { bytes = bytes })) in
    StoreExtension.and_then s s1 (changed s1 (DropData n)) (changed_extends (memory at (record { most = refl; size = omega arith }))) (changed_extends {s = s1} {c = DropData n} data_drops)

module _ (value : ConstExpr → Option Val) where
  elem_run : (s : Store) (x : PlacedSegment ElemSeg) (mode : ElemMode) → Fills s (run_elem_with value s x mode)
  elem_run s x (elem.Active y d) =
      then_holds (Fills s) s (offset_in value d) _ (stays s) (λ q _. then_holds (Fills s) s (slice_get x.inst.tables y) _ (stays s) (λ a _. then_holds (Fills s) s (slice_get s.tables a) _ (stays s) (λ t at.
      then_holds (Fills s) s (slice_get s.elems x.address) _ (stays s) (λ e _. table_filled s x.address a q t e.items at (overwrite t.slots q e.items) refl))))
  elem_run s x elem.Passive = stays s
  elem_run s x elem.Declarative = stays s

  data_run : (s : Store) (x : PlacedSegment DataSeg) (mode : DataMode) → Fills s (run_data_with value s x mode)
  data_run s x (data'.Active y d) =
      then_holds (Fills s) s (offset_in value d) _ (stays s) (λ q _. then_holds (Fills s) s (slice_get x.inst.mems y) _ (stays s) (λ a _. then_holds (Fills s) s (slice_get s.mems a) _ (stays s) (λ m at.
      then_holds (Fills s) s (slice_get s.datas x.address) _ (stays s) (λ e _. memory_filled s x.address a m at (overwrite m.bytes q e.bytes)))))
  data_run s x data'.Passive = stays s

then_fills : (s : Store) (f : Filled) (g : Store → Filled) → Fills s f → ((t : Store) → Fills t (g t)) → Fills s (and_then f g)
then_fills s f g h next = by f.trapped
  where
    by : (b : Bool) → Fills s (cond b f (g f.store))
    by true = h
    by false = StoreExtension.and_then s f.store (g f.store).store h (next f.store)

turn_fills : {A : Type 0} (run : Store → PlacedSegment A → Filled) → ((s : Store) (x : PlacedSegment A) → Fills s (run s x)) → (xs : List (PlacedSegment A)) (s : Store) → Fills s (one_by_one run s xs)
turn_fills run h [] s = stays s
turn_fills run h (x ∷ xs) s = then_fills s (run s x) (λ s. one_by_one run s xs) (h s x) (λ t. turn_fills run h xs t)

-- The segments of several parts extend the store.
all_fill : (value : ℕ → ConstExpr → Option Val) (es : List (PlacedSegment ElemSeg)) (ds : List (PlacedSegment DataSeg)) (s : Store) →
    Fills s (and_then (one_by_one (λ s task. run_elem_with (value task.part) s task task.segment.mode) s es) (λ s. one_by_one (λ s task. run_data_with (value task.part) s task task.segment.mode) s ds))
all_fill value es ds s =
    then_fills s (one_by_one (λ s task. run_elem_with (value task.part) s task task.segment.mode) s es) (λ s. one_by_one (λ s task. run_data_with (value task.part) s task task.segment.mode) s ds)
    (turn_fills (λ s task. run_elem_with (value task.part) s task task.segment.mode) (λ s x. elem_run (value x.part) s x x.segment.mode) es s)
    (λ s. turn_fills (λ s task. run_data_with (value task.part) s task task.segment.mode) (λ s x. data_run (value x.part) s x x.segment.mode) ds s)

pub own_segments_fill : OwnSegmentsExtend
own_segments_fill value m i s = all_fill (λ _. value) (segments_in 0 i i.elems m.elems) (segments_in 0 i i.datas m.datas) s

pub segments_fill : SegmentsExtend
segments_fill env parts insts s = all_fill (value_of env parts insts) (placed_elems 0 parts insts) (placed_datas 0 parts insts) s

-- The result of adding a module, if what the module defines is `t`.
abbrev pub added_with : Store → Module → List ExternalValue → Store → Added
added_with s m things t = record { inst = next_inst s m things; filled = own_segments (const_value s.globals (next_inst s m things)) m (next_inst s m things) (joined_stores s t) }

added_stays : (s : Store) (m : Module) (things : List ExternalValue) (t : Store) (a : Added) → added_with s m things t ≡ a → StaysIn s a.filled.store
added_stays s m things t a is =
    let start = joined_stores s t in
    subst (λ (a : Added). StaysIn s a.filled.store) is (still_in s start _ (joined_stays s t) (stays_in start _ (own_segments_fill _ m _ start)))

pub added_extends : AddedModulesExtend
added_extends s m things a h =
    let x : (t : Store) × (store_with (const_value s.globals (next_inst s m things)) m (next_inst s m things) ≡ Some t) × (added_with s m things t ≡ a) = grind (arith, h) in
    added_stays s m things x.0 a x.2

-- ---- a step under a loader ----

-- A secondary module that links has no start, so it is added as any module is.
pub without_start : (start : Option ℕ) (o : Option Added) (a : Added) → if_no_start start o ≡ Some a → o ≡ Some a
without_start None o a e = e
without_start (Some f) o a e = cc

loaded_stays : (w : LoaderWorld) (i : Inst) (m : Module) (b : Bool) (s : Store) → StaysIn s (store_loaded w i m b s).store
loaded_stays w i m true s = stays_in s s (stays s)
loaded_stays w i m false s = by (secondary_added w.import_namespace w.primary i m s) refl
  where
    by : (o : Option Added) → secondary_added w.import_namespace w.primary i m s ≡ o → StaysIn s (or_trapped s (option_and_then (λ (a : Added). Some a.filled) o)).store
    by None e = stays_in s s (stays s)
    by (Some a) e = let things = and_then_is _ (added s m) a (without_start m.start _ a e) in added_extends s m things.0 a things.2

module _ (writes : StepsWriteWhatTheyTouch) (w : LoaderWorld) (q : LoaderRun) (begun : IsBegun q.run.phase) where
  -- The call of a placeholder keeps what is in the store, whether or not a module is loaded for it.
  called_kept : (r : Run) (slot : ℕ) (vs : List Val) (s : Store) (es : List Entry) → IsBegun r.phase → StaysIn q.run.store s → (o : Option (LoaderRun × Option Event)) → placeholder_called w q r slot vs s es ≡ o →
      LoaderKept q (unwrap_or o (loader_with q (run_after (record r { store = s; entries = es }) Traps)))
  called_kept r slot vs s es b h None e =
      let k = after_kept (record r { store = s; entries = es }) Traps stopped in
      record { store = still_in q.run.store s _ h (stays_in s _ k.store); inst = refl; begun = k.begun b }
  called_kept r slot vs s es b h (Some o) e =
      let i = and_then_is q.inst _ o e in
      let j = and_then_is (secondary_of w.secondaries slot) _ o i.2 in
      let x = and_then_is (slice_get w.secondaries j.0) _ o j.2 in
      let l = and_then_is (slice_get q.loaded j.0) _ o x.2 in
      let f = store_loaded w i.0 x.0.«module» l.0 s in
      let k = after_kept (record r { store = f.store; entries = es }) (call_answered w i.0 slot vs es f) (answer_leaves w i.0 slot vs es f) in
      let same : secondary_called w q r i.0 slot vs es j.0 f ≡ o = same_Some _ _ l.2 in
      subst (LoaderKept q) same (record { store = still_in q.run.store s _ h (still_in s f.store _ (loaded_stays w i.0 x.0.«module» l.0 s) (stays_in f.store _ k.store)); inst = refl; begun = k.begun b })

  made_kept : (t : Transition) → transition q.run ≡ t → LoaderKept q (loader_made w q t)
  made_kept t e = by t e (plain t e)
    where
      plain : (t : Transition) → transition q.run ≡ t → LoaderKept q (loader_with q (made t))
      plain t e = let k = subst (λ t. RunExtends q.run (made t)) e (tick_extends writes q.run begun) in record { store = stays_in q.run.store _ k.store; inst = refl; begun = k.begun begun }

      by : (t : Transition) → transition q.run ≡ t → LoaderKept q (loader_with q (made t)) → LoaderKept q (loader_made w q t)
      by (Makes o) e k = k
      by (Steps r Traps) e k = k
      by (Steps r IllTyped) e k = k
      by (Steps r (Gives (Ran s es))) e k = k
      by (Steps r (Gives (CallsOwn p t vs s es))) e k = k
      by (Steps r (Gives (WaitsGrowth g m n s es))) e k = k
      by (Steps r (Gives (EndsCall vs s es))) e k = k
      by (Steps r (Gives (CallsPlaceholder slot vs s es))) e k =
          called_kept r slot vs s es (stepping_begun writes q.run r _ begun e) (stays_in q.run.store s (call_extends writes q.run r slot vs s es begun e)) (placeholder_called w q r slot vs s es) refl

pub loader_extends : StepsWriteWhatTheyTouch → LoadersExtend
loader_extends writes w q begun = made_kept writes w q begun (transition q.run) refl
