-- An evaluation ends: it is quiet, or something stops it.
use Rattle.base_lists.proofs.Common.{◌≡◌, ℕ, List, [], ◌∷◌, length, Option, Some, None, Bool, true, false, cond, refl, ap, nat_lt}
use Rattle.std.proofs.lemmas.Bool.{true≢false}
use Rattle.wasm_tree_spec.specs.Prelude.{ElemSeg, ElemMode, DataSeg, DataMode, Module, memories_of}
use Rattle.wasm_tree.specs.declared.module.ElemMode.TheVariants as elem
use Rattle.wasm_tree.specs.declared.module.DataMode.TheVariants as data'
use Rattle.wasm_meaning.specs.Prelude.{PlacedSegment, segments_in}
use Rattle.eval_spec.specs.declared.limits.TheConstants.{MOST_TURNS}
use Rattle.eval_spec.specs.Prelude.{State, Stage, Going, Stopped, Finished, Test, stopped_or, is_going, stop_of, host_call, call_end, own_inst, state_at_first, with_elem_mode, with_elem, with_data_mode, with_data, in_order, with_segments, filled_from, instantiated, after_start, booted}
use Rattle.eval_spec.specs.Prelude.{called_in_order, evaluated_within, calls_finished}
use Rattle.eval_proof.specs.EndsAndCounts.{EvaluationsEnd, QuietWhereNothingStops, NothingStopsQuiet, NoneCountedBefore}
use Rattle.eval_proof.proofs.RunEnds.{runs_end}

stopped_ends : (o : Option Test) (t : Stage) → is_going t ≡ false → is_going (stopped_or o t) ≡ false
stopped_ends (Some x) t e = refl
stopped_ends None t e = e

module _ (m : Module) where
  elem_ends : (s : State) (task : PlacedSegment ElemSeg) (mode : ElemMode) → is_going (with_elem_mode m s task mode) ≡ false
  elem_ends s task (elem.Active table offset) = stopped_ends _ (Finished _) refl
  elem_ends s task elem.Passive = refl
  elem_ends s task elem.Declarative = refl

  data_ends : (s : State) (task : PlacedSegment DataSeg) (mode : DataMode) → is_going (with_data_mode m s task mode) ≡ false
  data_ends s task (data'.Active memory offset) = stopped_ends _ (Finished _) refl
  data_ends s task data'.Passive = refl

  in_order_ends : {A : Type 0} (f : State → A → Stage) → ((s : State) (x : A) → is_going (f s x) ≡ false) → (t : Stage) (xs : List A) → is_going t ≡ false → is_going (in_order f t xs) ≡ false
  in_order_ends f all (Finished s) [] e = refl
  in_order_ends f all (Finished s) (x ∷ xs) e = in_order_ends f all (f s x) xs (all s x)
  in_order_ends f all (Stopped x left) xs e = refl
  in_order_ends f all (Going s es) xs e = e

  segments_end : (s : State) → is_going (with_segments m s) ≡ false
  segments_end s =
      in_order_ends (with_data m) (λ s x. data_ends s x x.segment.mode) (in_order (with_elem m) (Finished s) (segments_in 0 (own_inst m) (own_inst m).elems m.elems)) (segments_in 0 (own_inst m) (own_inst m).datas m.datas)
      (in_order_ends (with_elem m) (λ s x. elem_ends s x x.segment.mode) (Finished s) (segments_in 0 (own_inst m) (own_inst m).elems m.elems) refl)

  filled_ends : (turns : ℕ) (o : Option State) → is_going (filled_from m turns o) ≡ false
  filled_ends turns None = refl
  filled_ends turns (Some s) = segments_end s

  cond_ends : (b : Bool) (x y : Stage) → is_going x ≡ false → is_going y ≡ false → is_going (cond b x y) ≡ false
  cond_ends true x y e f = e
  cond_ends false x y e f = f

  instantiated_ends : (turns : ℕ) → is_going (instantiated m turns) ≡ false
  instantiated_ends turns = cond_ends (nat_lt 1 (length (memories_of m))) _ _ refl (filled_ends turns (state_at_first m turns))

  start_ends : (t : Stage) (start : Option ℕ) → is_going t ≡ false → is_going (after_start m t start) ≡ false
  start_ends (Finished s) (Some func) e = runs_end m (host_call s func)
  start_ends (Finished s) None e = refl
  start_ends (Stopped x left) start e = refl
  start_ends (Going s es) start e = e

  calls_end : (t : Stage) (funcs : List ℕ) → is_going t ≡ false → is_going (called_in_order m t funcs) ≡ false
  calls_end (Finished s) [] e = refl
  calls_end (Finished s) (f ∷ funcs) e = calls_end (call_end m s f) funcs (runs_end m (host_call s f))
  calls_end (Stopped x left) funcs e = refl
  calls_end (Going s es) funcs e = e

  none_counted : (t : Stage) (funcs : List ℕ) → ¬ ((s : State) × (called_in_order m t [] ≡ Finished s)) → calls_finished m t funcs ≡ 0
  none_counted (Finished s) funcs n = absurd (n (s, refl))
  none_counted (Stopped x left) funcs n = refl
  none_counted (Going s es) funcs n = refl

finished_where : (t : Stage) → is_going t ≡ false → stop_of t ≡ None → (s : State) × (t ≡ Finished s)
finished_where (Finished s) e n = (s, refl)
finished_where (Going s es) e n = absurd (true≢false e)
finished_where (Stopped x left) e n = absurd (let h = n in cc)

pub evaluations_end : EvaluationsEnd
evaluations_end m turns funcs = calls_end m (booted m turns) funcs (start_ends m (instantiated m turns) m.start (instantiated_ends m turns))

pub quiet_where_nothing_stops : QuietWhereNothingStops
quiet_where_nothing_stops m funcs n = finished_where (evaluated_within m MOST_TURNS funcs) (evaluations_end m MOST_TURNS funcs) n

pub nothing_stops_quiet : NothingStopsQuiet
nothing_stops_quiet m funcs q = ap stop_of q.1

pub none_counted_before : NoneCountedBefore
none_counted_before m funcs n = none_counted m (booted m MOST_TURNS) funcs n
