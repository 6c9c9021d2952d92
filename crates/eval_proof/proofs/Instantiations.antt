-- A quiet instantiation copies the segments that the machine copies.
use Rattle.base_lists.proofs.Common.{◌≡◌, ◌∙◌, ℕ, List, [], ◌∷◌, length, Option, Some, None, Bool, true, false, cond, refl, sym, ap, nat_lt}
use Rattle.base_lists.specs.Options.{◌>>=◌}
use Rattle.base_lists.specs.Every.{Every}
use Rattle.wasm_tree_spec.specs.Prelude.{ElemSeg, ElemMode, DataSeg, DataMode, Module, memories_of}
use Rattle.wasm_tree.specs.declared.module.ElemMode.TheVariants as elem
use Rattle.wasm_tree.specs.declared.module.DataMode.TheVariants as data'
use Rattle.wasm_meaning.specs.Prelude.{Outcome, Gives, Store, Touched, Bytes, Filled, PlacedSegment, segments_in, store_with, joined_stores, run_elem_with, run_data_with, and_then, one_by_one, own_segments}
use Rattle.eval_spec.specs.declared.stop.Stop.TheVariants as why
use Rattle.eval_spec.specs.Prelude.{State, Stage, Going, Stopped, Finished, Test, first_held, stopped_or, written_after, place_in, own_inst, imported_store, value_in, unknown_at_first, none_written, elem_tests, data_tests, with_elem_mode, with_elem, with_data_mode, with_data, in_order}
use Rattle.eval_spec.specs.Prelude.{with_segments, filled_from}
use Rattle.eval_proof.specs.QuietInstantiations.{InstantiatedAs, InstantiationsAreTheMachines}
use Rattle.eval_proof.proofs.QuietSteps.{none_held}

-- The result of copying segments of which none traps.
abbrev untrapped : Store → Filled
untrapped s = record { store = s; trapped = false }

abbrev store_at : Stage → Store → Store
store_at (Finished s) other = s.store
store_at _ other = other

tried_finished : (ts : List Test) (u s : State) → stopped_or (first_held ts) (Finished u) ≡ Finished s → Every (λ t. t.holds ≡ false) ts × (u.store ≡ s.store)
tried_finished ts u s e = by (first_held ts) refl e
  where
    by : (o : Option Test) → first_held ts ≡ o → stopped_or o (Finished u) ≡ Finished s → Every (λ t. t.holds ≡ false) ts × (u.store ≡ s.store)
    by (Some t) h e = absurd (let k = e in cc)
    by None h e = (none_held ts h, ap (λ t. store_at t u.store) e)

not_trapped : (f : Filled) (s : Store) → f.trapped ≡ false → f.store ≡ s → f ≡ untrapped s
not_trapped f s e g = ap (λ b. record f { trapped = b }) e ∙ ap untrapped g

module _ (m : Module) where
  abbrev elem_filled_by : State → PlacedSegment ElemSeg → Filled
  elem_filled_by s task = run_elem_with (value_in m) s.store task task.segment.mode

  elem_same : (s t : State) (task : PlacedSegment ElemSeg) (mode : ElemMode) → task.segment.mode ≡ mode → with_elem_mode m s task mode ≡ Finished t → elem_filled_by s task ≡ untrapped t.store
  elem_same s t task (elem.Active table offset) is e =
      let k = tried_finished (elem_tests m s table offset (elem_filled_by s task)) _ t e in not_trapped (elem_filled_by s task) t.store k.0.1.0 k.1
  elem_same s t task elem.Passive is e = ap (run_elem_with (value_in m) s.store task) is ∙ ap (λ x. untrapped (store_at x s.store)) e
  elem_same s t task elem.Declarative is e = ap (run_elem_with (value_in m) s.store task) is ∙ ap (λ x. untrapped (store_at x s.store)) e

  abbrev data_filled_by : State → PlacedSegment DataSeg → Filled
  data_filled_by s task = run_data_with (value_in m) s.store task task.segment.mode

  data_same : (s t : State) (task : PlacedSegment DataSeg) (mode : DataMode) → task.segment.mode ≡ mode → with_data_mode m s task mode ≡ Finished t → data_filled_by s task ≡ untrapped t.store
  data_same s t task (data'.Active memory offset) is e =
      let touched : Outcome Touched = Gives (Bytes memory (place_in m offset) (length task.segment.bytes)) in
      let after : State = record s { store = (data_filled_by s task).store; written = written_after s.written touched } in
      let k = tried_finished (data_tests m s memory offset (data_filled_by s task) touched) after t e in
      not_trapped (data_filled_by s task) t.store k.0.1.0 k.1
  data_same s t task data'.Passive is e = ap (run_data_with (value_in m) s.store task) is ∙ ap (λ x. untrapped (store_at x s.store)) e

  -- Segments in order: if each quiet copy that finishes is that of the machine, so are all.
  module _ {A : Type 0} (f : State → A → Stage) (g : Store → A → Filled) (same : (s t : State) (x : A) → f s x ≡ Finished t → g s.store x ≡ untrapped t.store) where
    began : (t : Stage) (xs : List A) (r : State) → in_order f t xs ≡ Finished r → (s : State) × (t ≡ Finished s)
    began (Finished s) xs r e = (s, refl)
    began (Stopped x left) xs r e = absurd (let k = e in cc)
    began (Going s es) xs r e = absurd (let k = e in cc)

    all_same : (s r : State) (xs : List A) → in_order f (Finished s) xs ≡ Finished r → one_by_one g s.store xs ≡ untrapped r.store
    all_same s r [] e = ap (λ x. untrapped (store_at x s.store)) e
    all_same s r (x ∷ xs) e =
        let b = began (f s x) xs r e in
        ap (λ y. and_then y (λ s. one_by_one g s xs)) (same s b.0 x b.1) ∙ all_same b.0 r xs (ap (λ t. in_order f t xs) (sym b.1) ∙ e)

  segments_same : (s r : State) → with_segments m s ≡ Finished r → own_segments (value_in m) m (own_inst m) s.store ≡ untrapped r.store
  segments_same s r e =
      let elems = segments_in 0 (own_inst m) (own_inst m).elems m.elems in let datas = segments_in 0 (own_inst m) (own_inst m).datas m.datas in
      let b = began (with_data m) (λ s task. run_data_with (value_in m) s task task.segment.mode) (λ s t x. data_same s t x x.segment.mode refl) (in_order (with_elem m) (Finished s) elems) datas r e in
      let first = all_same (with_elem m) (λ s task. run_elem_with (value_in m) s task task.segment.mode) (λ s t x. elem_same s t x x.segment.mode refl) s b.0 elems b.1 in
      let second = all_same (with_data m) (λ s task. run_data_with (value_in m) s task task.segment.mode) (λ s t x. data_same s t x x.segment.mode refl) b.0 r datas (ap (λ t. in_order (with_data m) t datas) (sym b.1) ∙ e) in
      ap (λ y. and_then y (λ s. one_by_one (λ s task. run_data_with (value_in m) s task task.segment.mode) s datas)) first ∙ second

  abbrev state_over : (turns : ℕ) → Store → State
  state_over turns defined = record { store = joined_stores (imported_store m) defined; unknown = unknown_at_first m; written = none_written m.mems; turns = turns }

  filled_same : (turns : ℕ) (r : State) (o : Option Store) → store_with (value_in m) m (own_inst m) ≡ o → filled_from m turns (o >>= λ defined. Some (state_over turns defined)) ≡ Finished r → InstantiatedAs m r
  filled_same turns r None is e = absurd (let k = e in cc)
  filled_same turns r (Some defined) is e =
      let same = segments_same (state_over turns defined) r e in
      record {
        added = record { inst = own_inst m; filled = own_segments (value_in m) m (own_inst m) (joined_stores (imported_store m) defined) };
        is = ap (λ o. o >>= λ t. Some (record { inst = own_inst m; filled = own_segments (value_in m) m (own_inst m) (joined_stores (imported_store m) t) })) is;
        untrapped = ap (λ f. f.trapped) same;
        store = ap (λ f. f.store) same;
      }

  one_memory : (b : Bool) (turns : ℕ) (t : Stage) (r : State) → cond b (Stopped why.Memory turns) t ≡ Finished r → t ≡ Finished r
  one_memory true turns t r e = absurd (let k = e in cc)
  one_memory false turns t r e = e

pub instantiations_are_the_machines : InstantiationsAreTheMachines
instantiations_are_the_machines m turns r e =
    filled_same m turns r (store_with (value_in m) m (own_inst m)) refl (one_memory m (nat_lt 1 (length (memories_of m))) turns _ r e)
