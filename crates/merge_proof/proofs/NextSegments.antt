-- The active segments of the next part, in its turn: they have the effect that they have at once,
-- after those of the parts before it and before those of later parts.
use Rattle.merge_proof.proofs.PartLaws.{Instances}
use Rattle.merge_proof.proofs.ExternalValues.{part_inst}
use Rattle.base_lists.proofs.Common.{◌≡◌, ◌∙◌, refl, ℕ, suc, List, ◌++◌, length, Some, false, append_assoc, arith, slice_get, and_then_is, slice_get_within}
use Rattle.wasm_tree_spec.specs.Prelude.{Space, Tables, Memories, DataSegments, ElementSegments, ConstExpr, Module}
use Rattle.wasm_meaning.specs.Prelude.{Val, numbers, defined_count, Inst, Table, Memory, Elem, Data, Store, no_items, no_bytes, Part, module_at, Environment, base, own_store, stores_from, part_store, joined_stores, const_value, value_of, placed_elems, placed_datas, segments, defined_before}
use Rattle.wasm_meaning.specs.Prelude.{JoinsEarlier, own_segments}
use Rattle.merge_proof.proofs.JoinedImports.{ExportsThere}
use Rattle.merge_proof.proofs.AddressOrder.{numbers_low, space_low}
use Rattle.merge_proof.proofs.StoresByPart.{rest_from, rest_next, Lengths, lengths_next}
use Rattle.merge_proof.proofs.SequentialConstants.{Constant, value_given}
use Rattle.merge_proof.proofs.PartInstantiation.{EachMatches}
use Rattle.merge_proof.proofs.PartStores.{Constants}
use Rattle.merge_proof.proofs.CopyRuns.{runs_front, runs_kept, next_runs}
use Rattle.merge_proof.proofs.ElementSegmentRuns.{table_fill, elem_jobs, elems_low, elems_kept}
use Rattle.merge_proof.proofs.DataSegmentRuns.{memory_fill, data_jobs, datas_low, datas_kept}
use Rattle.merge_proof.proofs.SegmentJobs.{AllBelow}
use Rattle.merge_proof.proofs.SegmentsInTurn.{both_went, own_go, elem_jobs_of, data_jobs_of, elem_jobs_at, data_jobs_at, FilledUpto, filled_holds, all_elems, all_datas}
use Rattle.world_simulation.specs.Prelude.{IsInst}

module _ (env : Environment) (parts : List Part) (insts : List Inst) (are : Instances env parts insts) (allocated : Store) (stores_are : stores_from env parts insts (own_store env) 0 parts insts ≡ Some allocated) (matched : EachMatches env parts allocated) (size : length insts ≡ length parts)
    (there : ExportsThere parts) (earlier : JoinsEarlier parts) where
  -- The store after the segments of part k, in which nothing else has changed.
  pub record StoreFilled (k : ℕ) (m : Module) (i : Inst) (t a : Store) : Type 0 where
    pub store : Store
    pub is : own_segments (const_value t.globals i) m i (joined_stores t a) ≡ record { store = store; trapped = false }
    pub filled : FilledUpto env parts insts allocated (suc k) store
    pub funcs : store.funcs ≡ t.funcs ++ a.funcs
    pub globals : store.globals ≡ t.globals ++ a.globals

  module _ (k : ℕ) (m : Module) (i : Inst) (is_part : module_at parts k ≡ Some m) (is_inst : slice_get insts k ≡ Some i) (t a : Store) (is_added : part_store env parts insts k m i ≡ Some a) (filled : FilledUpto env parts insts allocated k t) where
    inst : IsInst env parts k m i
    inst = part_inst env parts insts are k m i is_part is_inst

    rest : rest_from env parts insts k ≡ joined_stores a (rest_from env parts insts (suc k))
    rest = rest_next env parts insts k m i a is_part is_inst is_added

    lengths : Lengths env parts insts (suc k) (joined_stores t a)
    lengths = lengths_next env parts insts are.next k m i a is_part is_inst is_added t filled.lengths

    abbrev later : Store
    later = rest_from env parts insts (suc k)

    -- The addresses of the part's own segments are lower than those of later parts.
    own_low : (s : Space) (ns : List ℕ) → ns ≡ numbers (defined_before s parts k) (defined_count s m) → AllBelow (defined_before s parts (suc k)) ns
    own_low s ns ns_are x b at =
        let l = numbers_low (defined_before s parts k) (defined_count s m) x b (rw ns_are at at) in
        let n = are.next s parts k m is_part in
        omega arith

    module _ (constants : Constants m) where
      -- A constant expression of the part has its value in the part's turn.
      given : (e : ConstExpr) → Constant m e → (v : Val) → value_of env parts insts k e ≡ Some v → const_value t.globals i e ≡ Some v
      given = value_given env parts insts are allocated stores_are matched size there earlier k m i is_part is_inst t (filled_holds env parts insts allocated k t filled)

      pub filled_next : (segments env parts insts allocated).trapped ≡ false → StoreFilled k m i t a
      filled_next well =
          let all = both_went (value_of env parts insts) (placed_elems 0 parts insts) (placed_datas 0 parts insts) allocated well in
          let b = and_then_is (slice_get parts k) (λ part. Some part.«module») m is_part in
          let l = slice_get_within parts k b.0 b.1 in
          let es = next_runs Table Elem table_fill no_items (elem_jobs_of env parts insts) (length parts) k l (allocated.tables, allocated.elems) _ all.0 (rw (all_elems env parts insts allocated stores_are size) at all.2)
          (rw (rest, ← append_assoc t.tables a.tables later.tables, ← append_assoc t.elems a.elems later.elems) at filled.tables) in
          let ds = next_runs Memory Data memory_fill no_bytes (data_jobs_of env parts insts) (length parts) k l (allocated.mems, allocated.datas) _ all.1 (rw (all_datas env parts insts allocated stores_are size) at all.3)
          (rw (rest, ← append_assoc t.mems a.mems later.mems, ← append_assoc t.datas a.datas later.datas) at filled.mems) in
          let elems = elems_low (value_of env parts insts k) i (base env parts Tables (suc k)) (defined_before ElementSegments parts (suc k)) (space_low env parts there earlier are k m i is_part inst Tables) i.elems m.elems (own_low ElementSegments i.elems inst.elems) in
          let e = runs_front Table Elem table_fill no_items later.tables later.elems (elem_jobs (value_of env parts insts k) i i.elems m.elems) _ _ elems (t.tables ++ a.tables) (t.elems ++ a.elems) lengths.tables lengths.elems es.0 (rw (← elem_jobs_at env parts insts k m i is_part is_inst) es.1) in
          let datas = datas_low (value_of env parts insts k) i (base env parts Memories (suc k)) (defined_before DataSegments parts (suc k)) (space_low env parts there earlier are k m i is_part inst Memories) i.datas m.datas (own_low DataSegments i.datas inst.datas) in
          let d = runs_front Memory Data memory_fill no_bytes later.mems later.datas (data_jobs (value_of env parts insts k) i i.datas m.datas) _ _ datas (t.mems ++ a.mems) (t.datas ++ a.datas) lengths.mems lengths.datas ds.0 (rw (← data_jobs_at env parts insts k m i is_part is_inst) ds.1) in
          record {
            store = record (joined_stores t a) { tables = e.targets; elems = e.segments; mems = d.targets; datas = d.segments };
            is = own_go (const_value t.globals i) m i (joined_stores t a) (e.targets, e.segments) (d.targets, d.segments)
                (runs_kept Table Elem table_fill no_items (elems_kept (value_of env parts insts k) (const_value t.globals i) i i.elems m.elems (λ n s x e at mode. given e (constants.tables n s x e at mode))) _ _ e.is)
                (runs_kept Memory Data memory_fill no_bytes (datas_kept (value_of env parts insts k) (const_value t.globals i) i i.datas m.datas (λ n s x e at mode. given e (constants.memories n s x e at mode))) _ _ d.is);
            filled = record {
              tables = rw e.whole at es.2;
              mems = rw d.whole at ds.2;
              funcs = rw (append_assoc t.funcs a.funcs later.funcs) (rw rest at filled.funcs);
              globals = rw (append_assoc t.globals a.globals later.globals) (rw rest at filled.globals);
              lengths = record {
                funcs = lengths.funcs;
                tables = e.target_count ∙ lengths.tables;
                mems = d.target_count ∙ lengths.mems;
                globals = lengths.globals;
                elems = e.segment_count ∙ lengths.elems;
                datas = d.segment_count ∙ lengths.datas;
              };
            };
            funcs = refl;
            globals = refl;
          }
