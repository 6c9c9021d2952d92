-- An instantiation with more turns does the same: its segments take no turns, and its start is a
-- call.
use Rattle.base_lists.proofs.Common.{◌≡◌, ◌∙◌, ℕ, ◌+◌, List, [], ◌∷◌, length, Option, Some, None, Bool, true, false, cond, ◌||◌, refl, ap, nat_lt}
use Rattle.base_lists.specs.Options.{◌>>=◌}
use Rattle.wasm_tree_spec.specs.Prelude.{ElemSeg, ElemMode, DataSeg, DataMode, Module, memories_of, Tables, Memories}
use Rattle.wasm_tree.specs.declared.module.ElemMode.TheVariants as elem
use Rattle.wasm_tree.specs.declared.module.DataMode.TheVariants as data'
use Rattle.wasm_meaning.specs.Prelude.{Outcome, Gives, Store, Touched, Bytes, Filled, PlacedSegment, segments_in, store_with, joined_stores, run_elem_with, run_data_with}
use Rattle.eval_spec.specs.declared.stop.Stop.{Stop}
use Rattle.eval_spec.specs.declared.stop.Stop.TheVariants as why
use Rattle.eval_spec.specs.Prelude.{State, Stage, Going, Stopped, Finished, tried, is_imported, written_after, writes_too_many, test, reads_global, place_in, copied_slots, own_inst, imported_store, value_in, unknown_at_first, none_written, with_elem_mode, with_elem, with_data_mode, with_data}
use Rattle.eval_spec.specs.Prelude.{in_order, with_segments, filled_from, instantiated, after_start, booted, called_in_order}
use Rattle.eval_proof.specs.Budgets.{more_turns, with_turns, HasTurns, EvaluationIsMonotoneInTheBudget}
use Rattle.eval_proof.proofs.MoreTurns.{call_same, kept_turns, calls_same}

module _ (m : Module) (d : ℕ) where
  two_same : (a b : Bool) (x y : Stop) (n : ℕ) (u v : Stage) → v ≡ with_turns d u → tried (test a x (n + d) ∷ test b y (n + d) ∷ []) v ≡ with_turns d (tried (test a x n ∷ test b y n ∷ []) u)
  two_same true b x y n u v e = refl
  two_same false true x y n u v e = refl
  two_same false false x y n u v e = e

  three_same : (a b c : Bool) (x y z : Stop) (n : ℕ) (u v : Stage) → v ≡ with_turns d u →
      tried (test a x (n + d) ∷ test b y (n + d) ∷ test c z (n + d) ∷ []) v ≡ with_turns d (tried (test a x n ∷ test b y n ∷ test c z n ∷ []) u)
  three_same true b c x y z n u v e = refl
  three_same false b c x y z n u v e = two_same b c y z n u v e

  elem_mode_same : (s : State) (task : PlacedSegment ElemSeg) (mode : ElemMode) → with_elem_mode m (more_turns d s) task mode ≡ with_turns d (with_elem_mode m s task mode)
  elem_mode_same s task (elem.Active table offset) =
      let filled : Filled = run_elem_with (value_in m) s.store task task.segment.mode in
      let after : State = record s { store = filled.store; unknown = copied_slots s task.address table (place_in m offset) (length task.segment.items) } in
      two_same (reads_global offset || is_imported m Tables table) filled.trapped why.Unknown why.Trap s.turns (Finished after) (Finished (more_turns d after)) refl
  elem_mode_same s task elem.Passive = refl
  elem_mode_same s task elem.Declarative = refl

  data_mode_same : (s : State) (task : PlacedSegment DataSeg) (mode : DataMode) → with_data_mode m (more_turns d s) task mode ≡ with_turns d (with_data_mode m s task mode)
  data_mode_same s task (data'.Active memory offset) =
      let filled : Filled = run_data_with (value_in m) s.store task task.segment.mode in
      let touched : Outcome Touched = Gives (Bytes memory (place_in m offset) (length task.segment.bytes)) in
      let after : State = record s { store = filled.store; written = written_after s.written touched } in
      three_same (reads_global offset || is_imported m Memories memory) filled.trapped (writes_too_many s.written touched) why.Unknown why.Trap why.Memory s.turns (Finished after) (Finished (more_turns d after)) refl
  data_mode_same s task data'.Passive = refl

  in_order_same : {A : Type 0} (f : State → A → Stage) → ((s : State) (x : A) → f (more_turns d s) x ≡ with_turns d (f s x)) → (t : Stage) (xs : List A) → in_order f (with_turns d t) xs ≡ with_turns d (in_order f t xs)
  in_order_same f same (Finished s) [] = refl
  in_order_same f same (Finished s) (x ∷ xs) = ap (λ t. in_order f t xs) (same s x) ∙ in_order_same f same (f s x) xs
  in_order_same f same (Going s es) xs = refl
  in_order_same f same (Stopped x left) xs = refl

  segments_same : (s : State) → with_segments m (more_turns d s) ≡ with_turns d (with_segments m s)
  segments_same s =
      let elems = segments_in 0 (own_inst m) (own_inst m).elems m.elems in let datas = segments_in 0 (own_inst m) (own_inst m).datas m.datas in
      ap (λ t. in_order (with_data m) t datas) (in_order_same (with_elem m) (λ s x. elem_mode_same s x x.segment.mode) (Finished s) elems)
      ∙ in_order_same (with_data m) (λ s x. data_mode_same s x x.segment.mode) (in_order (with_elem m) (Finished s) elems) datas

  -- The state before any segment is copied, from the store that the module defines.
  abbrev at_first : (turns : ℕ) → Store → State
  at_first turns defined = record { store = joined_stores (imported_store m) defined; unknown = unknown_at_first m; written = none_written m.mems; turns = turns }

  filled_same : (turns : ℕ) (o : Option Store) → filled_from m (turns + d) (o >>= λ defined. Some (at_first (turns + d) defined)) ≡ with_turns d (filled_from m turns (o >>= λ defined. Some (at_first turns defined)))
  filled_same turns None = refl
  filled_same turns (Some defined) = segments_same (at_first turns defined)

  cond_same : (b : Bool) (x y u v : Stage) → u ≡ with_turns d x → v ≡ with_turns d y → cond b u v ≡ with_turns d (cond b x y)
  cond_same true x y u v e f = e
  cond_same false x y u v e f = f

  instantiated_same : (turns : ℕ) → instantiated m (turns + d) ≡ with_turns d (instantiated m turns)
  instantiated_same turns = cond_same (nat_lt 1 (length (memories_of m))) _ _ _ _ refl (filled_same turns (store_with (value_in m) m (own_inst m)))

  start_same : (t : Stage) (start : Option ℕ) → HasTurns (after_start m t start) → after_start m (with_turns d t) start ≡ with_turns d (after_start m t start)
  start_same (Finished s) (Some func) q = call_same m d s func q
  start_same (Finished s) None q = refl
  start_same (Going s es) start q = refl
  start_same (Stopped x left) start q = refl

  booted_same : (turns : ℕ) → HasTurns (booted m turns) → booted m (turns + d) ≡ with_turns d (booted m turns)
  booted_same turns q = ap (λ t. after_start m t m.start) (instantiated_same turns) ∙ start_same (instantiated m turns) m.start q

pub evaluation_is_monotone_in_the_budget : EvaluationIsMonotoneInTheBudget
evaluation_is_monotone_in_the_budget m turns d funcs q =
    ap (λ t. called_in_order m t funcs) (booted_same m d turns (kept_turns m d (booted m turns) funcs q)) ∙ calls_same m d (booted m turns) funcs q
