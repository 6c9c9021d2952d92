-- Active element segments depend on and change only the tables and the element segments of a store.
use Rattle.base_lists.proofs.Common.{◌≡◌, arith, refl, ℕ, List, [], ◌∷◌, map, Option, Some, None, true, false, option_and_then, slice_get, slice_set, same_Some}
use Rattle.wasm_tree_spec.specs.Prelude.{ConstExpr, ElemSeg, ElemMode}
use Rattle.wasm_tree.specs.declared.module.ElemMode.TheVariants as elem
use Rattle.wasm_meaning.specs.Prelude.{overwrite, Inst, Table, Elem, Store, no_items, Filled, PlacedSegment, or_trapped, copy_slots, run_elem_with, and_then, one_by_one}
use Rattle.wasm_meaning.specs.Sequential.{is_active_elem}
use Rattle.world_simulation.specs.Prelude.{offset_in}
use Rattle.merge_proof.proofs.CopyRuns.{Lists, Job, Skip, Fill, run, runs, LowJob, low_skip, low_fill, LowJobs, Kept, kept_skip, kept_fill, KeptAll}
use Rattle.merge_proof.proofs.SegmentJobs.{AllBelow, Gives, Values, number_given, jobs, task_job, jobs_low, jobs_kept}

-- The outcome of copying segments: the resulting lists are put into the store, or a segment was out
-- of bounds.
pub data Turned {X Y : Type 0} (set : Lists X Y → Store) : Option (Lists X Y) → Filled → Type 0 where
  goes_on : {c : Lists X Y} → Turned set (Some c) (record { store = set c; trapped = false })
  stops : {u : Store} → Turned set None (record { store = u; trapped = true })

module _ {X Y : Type 0} {set : Lists X Y → Store} where
  pub turned_some : {o : Option (Lists X Y)} {f : Filled} → Turned set o f → (c : Lists X Y) → o ≡ Some c → f ≡ record { store = set c; trapped = false }
  turned_some (goes_on {c = d}) c e = rw (same_Some d c e)
  turned_some stops c e = cc

  pub turned_not : {o : Option (Lists X Y)} {f : Filled} → Turned set o f → f.trapped ≡ false → (c : Lists X Y) × (o ≡ Some c)
  turned_not (goes_on {c = c}) e = (c, refl)
  turned_not stops e = cc

  pub then_turned : {o : Option (Lists X Y)} {f : Filled} (g : Lists X Y → Option (Lists X Y)) (h : Store → Filled) → Turned set o f → ((c : Lists X Y) → Turned set (g c) (h (set c))) → Turned set (option_and_then g o) (and_then f h)
  then_turned g h (goes_on {c = c}) k = k c
  then_turned g h stops k = stops

pub or_turned : {A X Y : Type 0} (set : Lists X Y → Store) (s : Store) (o : Option A) (g : A → Option (Lists X Y)) (f : A → Option Filled) → ((a : A) → Turned set (g a) (or_trapped s (f a))) → Turned set (option_and_then g o) (or_trapped s (option_and_then f o))
or_turned set s None g f h = stops
or_turned set s (Some a) g f h = h a

-- ---- elements ----

abbrev pub table_fill : Table → Elem → ℕ → Option Table
table_fill t e n = option_and_then (λ slots. Some (record t { slots = slots })) (overwrite t.slots n e.items)

abbrev pub with_tables : Store → Lists Table Elem → Store
with_tables s c = record s { tables = c.0; elems = c.1 }

abbrev pub elem_runs : List Job → Lists Table Elem → Option (Lists Table Elem)
elem_runs = runs Table Elem table_fill no_items

abbrev pub elem_job : Values → Inst → ℕ → ElemMode → Job
elem_job value i n (elem.Active x offset) = Fill n (slice_get i.tables x) (offset_in value offset)
elem_job value i n _ = Skip

abbrev pub elem_segment : Values → Inst → ℕ → ElemSeg → Job
elem_segment value i n s = elem_job value i n s.mode

abbrev pub elem_jobs : Values → Inst → List ℕ → List ElemSeg → List Job
elem_jobs = jobs elem_segment

abbrev pub elem_task_job : (ℕ → Values) → PlacedSegment ElemSeg → Job
elem_task_job = task_job elem_segment

abbrev pub elem_turn : (ℕ → Values) → Store → PlacedSegment ElemSeg → Filled
elem_turn value s task = run_elem_with (value task.part) s task task.segment.mode

elem_turned_one : (value : Values) (s : Store) (task : PlacedSegment ElemSeg) (mode : ElemMode) → Turned (with_tables s) (run Table Elem table_fill no_items (elem_job value task.inst task.address mode) (s.tables, s.elems)) (run_elem_with value s task mode)
elem_turned_one value s task (elem.Active x offset) =
    or_turned (with_tables s) s (offset_in value offset) _ _ (λ n. or_turned (with_tables s) s (slice_get task.inst.tables x) _ _ (λ a. or_turned (with_tables s) s (slice_get s.tables a) _ _ (λ t. or_turned (with_tables s) s (slice_get s.elems task.address) _ _ (λ e.
    elim (overwrite t.slots n e.items) as (λ o. Turned (with_tables s) (option_and_then (λ z. Some (slice_set s.tables a z, slice_set s.elems task.address no_items)) (option_and_then (λ slots. Some (record t { slots = slots })) o)) (copy_slots s task.address a t o))
    [ Some slots ↦ goes_on | None ↦ stops ]))))
elem_turned_one value s task _ = goes_on

pub elems_turned : (value : ℕ → Values) (tasks : List (PlacedSegment ElemSeg)) (s : Store) → Turned (with_tables s) (elem_runs (map (elem_task_job value) tasks) (s.tables, s.elems)) (one_by_one (elem_turn value) s tasks)
elems_turned value [] s = goes_on
elems_turned value (task ∷ tasks) s = then_turned _ (λ s. one_by_one (elem_turn value) s tasks) (elem_turned_one (value task.part) s task task.segment.mode) (λ c. elems_turned value tasks (with_tables s c))

pub elem_skips : (value : Values) (i : Inst) (n : ℕ) (s : ElemSeg) → is_active_elem s.mode ≡ false → elem_segment value i n s ≡ Skip
elem_skips value i n s h = grind arith

pub elems_low : (value : Values) (i : Inst) (targets segments : ℕ) → AllBelow targets i.tables → (ns : List ℕ) (ss : List ElemSeg) → AllBelow segments ns → LowJobs targets segments (elem_jobs value i ns ss)
elems_low value i targets segments f = jobs_low elem_segment value i targets segments (λ n s l. elim s.mode as (λ mode. LowJob targets segments (elem_job value i n mode)) [ elem.Active x offset ↦ low_fill l (f x) | _ ↦ low_skip ])

pub elems_kept : (v w : Values) (i : Inst) (ns : List ℕ) (ss : List ElemSeg) → ((n : ℕ) (s : ElemSeg) (x : _) (e : ConstExpr) → slice_get ss n ≡ Some s → s.mode ≡ elem.Active x e → Gives v w e) → KeptAll (elem_jobs v i ns ss) (elem_jobs w i ns ss)
elems_kept v w i ns ss h = jobs_kept elem_segment v w i ns ss (λ l a s at. elim s.mode as (λ mode. ((x : _) (e : ConstExpr) → mode ≡ elem.Active x e → Gives v w e) → Kept (elem_job v i a mode) (elem_job w i a mode)) [
  | elem.Active x offset ↦ λ m. kept_fill (number_given v w offset (m x offset refl))
  | _ ↦ λ m. kept_skip
] (λ x e. h l s x e at))
