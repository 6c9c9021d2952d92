-- Active segments that are copied in each part's turn have the effect that they have when all parts
-- are instantiated at once.
use Rattle.base_lists.proofs.Common.{◌≡◌, ◌∙◌, refl, ℕ, ◌≤◌, List, ◌++◌, map, length, Option, Some, false, arith, slice_get, append_left}
use Rattle.wasm_tree_spec.specs.Prelude.{ElemSeg, DataSeg, Module}
use Rattle.wasm_meaning.specs.Prelude.{Inst, Table, Memory, Elem, Data, Store, no_items, no_bytes, Part, module_at, Environment, Filled, PlacedSegment, own_store, stores_from, joined_stores, value_of, segments_in, placed_elems, placed_datas, and_then, one_by_one, segments, HasNoActive, own_segments}
use Rattle.wasm_meaning.specs.Sequential.{is_active_elem, is_active_data}
use Rattle.merge_proof.proofs.StoresByPart.{rest_from, Lengths, lengths_first, allocated_whole}
use Rattle.merge_proof.proofs.SequentialConstants.{HoldsFixed}
use Rattle.merge_proof.proofs.CopyRuns.{Lists, Job, first_jobs, rest_jobs, all_runs}
use Rattle.merge_proof.proofs.ElementSegmentRuns.{Turned, goes_on, stops, turned_some, turned_not, table_fill, with_tables, elem_runs, elem_segment, elem_jobs, elem_task_job, elem_turn, elems_turned, elem_skips}
use Rattle.merge_proof.proofs.DataSegmentRuns.{memory_fill, data_runs, data_segment, data_jobs, data_task_job, data_turn, datas_turned, data_skips}
use Rattle.merge_proof.proofs.SegmentJobs.{Values, tasks_jobs, jobs_skip, jobs_of, jobs_at, jobs_none, all_by_part}

-- ---- elements, then data ----

module _ (value : ℕ → Values) (es : List (PlacedSegment ElemSeg)) (ds : List (PlacedSegment DataSeg)) (s : Store) where
  abbrev pub both_turns : Filled
  both_turns = and_then (one_by_one (elem_turn value) s es) (λ s. one_by_one (data_turn value) s ds)

  pub both_go : (c : Lists Table Elem) (d : Lists Memory Data) → elem_runs (map (elem_task_job value) es) (s.tables, s.elems) ≡ Some c → data_runs (map (data_task_job value) ds) (s.mems, s.datas) ≡ Some d →
      both_turns ≡ record { store = record s { tables = c.0; elems = c.1; mems = d.0; datas = d.1 }; trapped = false }
  both_go c d g h = rw (turned_some (elems_turned value es s) c g) (turned_some (datas_turned value ds (with_tables s c)) d h)

  pub both_went : both_turns.trapped ≡ false → (c : Lists Table Elem) × (d : Lists Memory Data) × (elem_runs (map (elem_task_job value) es) (s.tables, s.elems) ≡ Some c) × (data_runs (map (data_task_job value) ds) (s.mems, s.datas) ≡ Some d)
  both_went e = go (elems_turned value es s) e
    where
      go : {o : Option (Lists Table Elem)} {f : Filled} → Turned (with_tables s) o f → (and_then f (λ s. one_by_one (data_turn value) s ds)).trapped ≡ false → (c : Lists Table Elem) × (d : Lists Memory Data) × (o ≡ Some c) × (data_runs (map (data_task_job value) ds) (s.mems, s.datas) ≡ Some d)
      go (goes_on {c = c}) e = let d = turned_not (datas_turned value ds (with_tables s c)) e in (c, d.0, refl, d.1)
      go stops e = cc

-- The segments of one module succeed if its jobs do.
pub own_go : (value : Values) (m : Module) (i : Inst) (s : Store) (c : Lists Table Elem) (d : Lists Memory Data) → elem_runs (elem_jobs value i i.elems m.elems) (s.tables, s.elems) ≡ Some c → data_runs (data_jobs value i i.datas m.datas) (s.mems, s.datas) ≡ Some d →
    own_segments value m i s ≡ record { store = record s { tables = c.0; elems = c.1; mems = d.0; datas = d.1 }; trapped = false }
own_go value m i s c d g h = both_go (λ p. value) (segments_in 0 i i.elems m.elems) (segments_in 0 i i.datas m.datas) s c d (rw (tasks_jobs elem_segment (λ p. value)) g) (rw (tasks_jobs data_segment (λ p. value)) h)

-- A module with no active segment leaves the store as it is.
pub none_active : (value : Values) (m : Module) (i : Inst) (s : Store) → HasNoActive m → own_segments value m i s ≡ record { store = s; trapped = false }
none_active value m i s h = own_go value m i s (s.tables, s.elems) (s.mems, s.datas)
    (jobs_skip elem_segment Table Elem table_fill no_items (λ e. is_active_elem e.mode) elem_skips value i i.elems m.elems h.elems (s.tables, s.elems))
    (jobs_skip data_segment Memory Data memory_fill no_bytes (λ d. is_active_data d.mode) data_skips value i i.datas m.datas h.datas (s.mems, s.datas))

module _ (env : Environment) (parts : List Part) (insts : List Inst) where
  -- The element and data segments of part k, as jobs.
  abbrev pub elem_jobs_of : ℕ → List Job
  elem_jobs_of = jobs_of elem_segment Table Elem table_fill no_items (λ i. i.elems) (λ m. m.elems) env parts insts

  abbrev pub data_jobs_of : ℕ → List Job
  data_jobs_of = jobs_of data_segment Memory Data memory_fill no_bytes (λ i. i.datas) (λ m. m.datas) env parts insts

  module _ (k : ℕ) (m : Module) (i : Inst) (is_part : module_at parts k ≡ Some m) (is_inst : slice_get insts k ≡ Some i) where
    pub elem_jobs_at : elem_jobs_of k ≡ elem_jobs (value_of env parts insts k) i i.elems m.elems
    elem_jobs_at = jobs_at elem_segment Table Elem table_fill no_items (λ i. i.elems) (λ m. m.elems) env parts insts k m i is_part is_inst

    pub data_jobs_at : data_jobs_of k ≡ data_jobs (value_of env parts insts k) i i.datas m.datas
    data_jobs_at = jobs_at data_segment Memory Data memory_fill no_bytes (λ i. i.datas) (λ m. m.datas) env parts insts k m i is_part is_inst

  -- The store that the parts from k on add.
  abbrev rest : ℕ → Store
  rest = rest_from env parts insts

  -- ---- the segments of the first k parts ----

  -- The store, joined with what the parts from k on add, is the allocated store after the element
  -- segments and then the data segments of the first k parts, none of them out of bounds.
  pub record FilledUpto (allocated : Store) (k : ℕ) (t : Store) : Type 0 where
    pub tables : elem_runs (first_jobs Table Elem table_fill no_items elem_jobs_of k) (allocated.tables, allocated.elems) ≡ Some (t.tables ++ (rest k).tables, t.elems ++ (rest k).elems)
    pub mems : data_runs (first_jobs Memory Data memory_fill no_bytes data_jobs_of k) (allocated.mems, allocated.datas) ≡ Some (t.mems ++ (rest k).mems, t.datas ++ (rest k).datas)
    pub funcs : allocated.funcs ≡ t.funcs ++ (rest k).funcs
    pub globals : allocated.globals ≡ t.globals ++ (rest k).globals
    pub lengths : Lengths env parts insts k t

  -- The premise under which constant expressions have their values holds of such a store.
  pub filled_holds : (allocated : Store) (k : ℕ) (t : Store) → FilledUpto allocated k t → HoldsFixed env parts allocated k t
  filled_holds allocated k t h a g low at fixed =
      let n = h.lengths.globals in
      (g, rw (h.globals, append_left t.globals (rest k).globals a (omega arith)) at at, refl)

  module _ (allocated : Store) (stores_are : stores_from env parts insts (own_store env) 0 parts insts ≡ Some allocated) (size : length insts ≡ length parts) where
    pub filled_none : FilledUpto allocated 0 (own_store env)
    filled_none = rw (allocated_whole env parts insts allocated stores_are size) (record { tables = refl; mems = refl; funcs = refl; globals = refl; lengths = lengths_first env parts insts })

    pub all_elems : map (elem_task_job (value_of env parts insts)) (placed_elems 0 parts insts) ≡ rest_jobs Table Elem table_fill no_items elem_jobs_of (length parts) 0
    all_elems = all_by_part elem_segment Table Elem table_fill no_items (λ i. i.elems) (λ m. m.elems) env parts insts placed_elems (λ p. refl) (λ p part ps i is. refl) size

    pub all_datas : map (data_task_job (value_of env parts insts)) (placed_datas 0 parts insts) ≡ rest_jobs Memory Data memory_fill no_bytes data_jobs_of (length parts) 0
    all_datas = all_by_part data_segment Memory Data memory_fill no_bytes (λ i. i.datas) (λ m. m.datas) env parts insts placed_datas (λ p. refl) (λ p part ps i is. refl) size

    -- All segments are copied, if no part from k on has an active segment.
    pub filled_all : (k : ℕ) (t : Store) → k ≤ length parts → FilledUpto allocated k t → ((q : ℕ) (m : Module) → k ≤ q → module_at parts q ≡ Some m → HasNoActive m) → segments env parts insts allocated ≡ record { store = joined_stores t (rest k); trapped = false }
    filled_all k t l filled none =
        let es = all_runs Table Elem table_fill no_items elem_jobs_of (length parts) k l _ _ filled.tables (λ q h. jobs_none elem_segment Table Elem table_fill no_items (λ i. i.elems) (λ m. m.elems) env parts insts (λ e. is_active_elem e.mode) elem_skips q (λ m e. (none q m h e).elems)) in
        let ds = all_runs Memory Data memory_fill no_bytes data_jobs_of (length parts) k l _ _ filled.mems (λ q h. jobs_none data_segment Memory Data memory_fill no_bytes (λ i. i.datas) (λ m. m.datas) env parts insts (λ d. is_active_data d.mode) data_skips q (λ m e. (none q m h e).datas)) in
        both_go (value_of env parts insts) (placed_elems 0 parts insts) (placed_datas 0 parts insts) allocated _ _ (rw (← all_elems) at es) (rw (← all_datas) at ds) ∙ rw (filled.funcs, filled.globals)
