-- Active data segments depend on and change only the memories and the data segments of a store.
use Rattle.base_lists.proofs.Common.{◌≡◌, arith, refl, ℕ, List, [], ◌∷◌, map, Option, Some, false, option_and_then, slice_get, slice_set, None}
use Rattle.wasm_tree_spec.specs.Prelude.{ConstExpr, DataSeg, DataMode}
use Rattle.wasm_tree.specs.declared.module.DataMode.TheVariants as data'
use Rattle.wasm_meaning.specs.Prelude.{overwrite, Inst, Memory, Data, Store, no_bytes, Filled, PlacedSegment, copy_bytes, run_data_with, one_by_one}
use Rattle.wasm_meaning.specs.Sequential.{is_active_data}
use Rattle.world_simulation.specs.Prelude.{offset_in}
use Rattle.merge_proof.proofs.CopyRuns.{Lists, Job, Skip, Fill, run, runs, LowJob, low_skip, low_fill, LowJobs, Kept, kept_skip, kept_fill, KeptAll}
use Rattle.merge_proof.proofs.ElementSegmentRuns.{Turned, goes_on, stops, or_turned, then_turned}
use Rattle.merge_proof.proofs.SegmentJobs.{AllBelow, Gives, Values, number_given, jobs, task_job, jobs_low, jobs_kept}

abbrev pub memory_fill : Memory → Data → ℕ → Option Memory
memory_fill t e n = option_and_then (λ bytes. Some (record t { bytes = bytes })) (overwrite t.bytes n e.bytes)

abbrev pub with_memories : Store → Lists Memory Data → Store
with_memories s c = record s { mems = c.0; datas = c.1 }

abbrev pub data_runs : List Job → Lists Memory Data → Option (Lists Memory Data)
data_runs = runs Memory Data memory_fill no_bytes

abbrev pub data_job : Values → Inst → ℕ → DataMode → Job
data_job value i n (data'.Active x offset) = Fill n (slice_get i.mems x) (offset_in value offset)
data_job value i n data'.Passive = Skip

abbrev pub data_segment : Values → Inst → ℕ → DataSeg → Job
data_segment value i n s = data_job value i n s.mode

abbrev pub data_jobs : Values → Inst → List ℕ → List DataSeg → List Job
data_jobs = jobs data_segment

abbrev pub data_task_job : (ℕ → Values) → PlacedSegment DataSeg → Job
data_task_job = task_job data_segment

abbrev pub data_turn : (ℕ → Values) → Store → PlacedSegment DataSeg → Filled
data_turn value s task = run_data_with (value task.part) s task task.segment.mode

data_turned_one : (value : Values) (s : Store) (task : PlacedSegment DataSeg) (mode : DataMode) → Turned (with_memories s) (run Memory Data memory_fill no_bytes (data_job value task.inst task.address mode) (s.mems, s.datas)) (run_data_with value s task mode)
data_turned_one value s task data'.Passive = goes_on
data_turned_one value s task (data'.Active x offset) =
    or_turned (with_memories s) s (offset_in value offset) _ _ (λ n. or_turned (with_memories s) s (slice_get task.inst.mems x) _ _ (λ a. or_turned (with_memories s) s (slice_get s.mems a) _ _ (λ t. or_turned (with_memories s) s (slice_get s.datas task.address) _ _ (λ e.
    elim (overwrite t.bytes n e.bytes) as (λ o. Turned (with_memories s) (option_and_then (λ z. Some (slice_set s.mems a z, slice_set s.datas task.address no_bytes)) (option_and_then (λ bytes. Some (record t { bytes = bytes })) o)) (copy_bytes s task.address a t o))
    [ Some bytes ↦ goes_on | None ↦ stops ]))))

pub datas_turned : (value : ℕ → Values) (tasks : List (PlacedSegment DataSeg)) (s : Store) → Turned (with_memories s) (data_runs (map (data_task_job value) tasks) (s.mems, s.datas)) (one_by_one (data_turn value) s tasks)
datas_turned value [] s = goes_on
datas_turned value (task ∷ tasks) s = then_turned _ (λ s. one_by_one (data_turn value) s tasks) (data_turned_one (value task.part) s task task.segment.mode) (λ c. datas_turned value tasks (with_memories s c))

pub data_skips : (value : Values) (i : Inst) (n : ℕ) (s : DataSeg) → is_active_data s.mode ≡ false → data_segment value i n s ≡ Skip
data_skips value i n s h = grind arith

pub datas_low : (value : Values) (i : Inst) (targets segments : ℕ) → AllBelow targets i.mems → (ns : List ℕ) (ss : List DataSeg) → AllBelow segments ns → LowJobs targets segments (data_jobs value i ns ss)
datas_low value i targets segments f = jobs_low data_segment value i targets segments (λ n s l. elim s.mode as (λ mode. LowJob targets segments (data_job value i n mode)) [ data'.Active x offset ↦ low_fill l (f x) | data'.Passive ↦ low_skip ])

pub datas_kept : (v w : Values) (i : Inst) (ns : List ℕ) (ss : List DataSeg) → ((n : ℕ) (s : DataSeg) (x : _) (e : ConstExpr) → slice_get ss n ≡ Some s → s.mode ≡ data'.Active x e → Gives v w e) → KeptAll (data_jobs v i ns ss) (data_jobs w i ns ss)
datas_kept v w i ns ss h = jobs_kept data_segment v w i ns ss (λ l a s at. elim s.mode as (λ mode. ((x : _) (e : ConstExpr) → mode ≡ data'.Active x e → Gives v w e) → Kept (data_job v i a mode) (data_job w i a mode)) [
  | data'.Active x offset ↦ λ m. kept_fill (number_given v w offset (m x offset refl))
  | data'.Passive ↦ λ m. kept_skip
] (λ x e. h l s x e at))
