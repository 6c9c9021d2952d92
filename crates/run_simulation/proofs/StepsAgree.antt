-- One step of each of two related configurations agrees.
use Rattle.base_lists.proofs.Common.{◌≡◌, ℕ, List, [], ◌∷◌, refl, ap, subst, ◌∙◌, true, Some, append_rel}
use Rattle.wasm_tree.specs.declared.space.Space.TheVariants as space
use Rattle.wasm_tree_spec.specs.Prelude.{ValType, Instr, FuncType}
use Rattle.wasm_tree.specs.declared.instr.Instr.TheOpen.{Instr-F}
use Rattle.wasm_meaning.specs.Prelude.{Gives, bind, onto, or_ill_typed, Val, Func, Store, Change, Level, Frame, Entry, Running, Caller, Mark, Opening, Waiting, Ended, Growing, Growth, Env, Body, Act, Goes, Calls, AsksGrow, Ends, type_at, with_values, exec, step_code, step_levels, act, frame_of}
use Rattle.wasm_meaning.specs.Prelude.{give_levels, give, enter, enter_at, to_mark, changed, is_mark}
use Rattle.wasm_meaning.specs.Control.{call_address}
use Rattle.run_simulation.specs.Related
use Rattle.run_simulation.specs.Prelude.{Pairing, OneToOneWhereWritten, OptRel, none, some, ResRel, done, wrong, ListRel, nil, cons, ValRel, OpRel, CodeRel, end, then, instead, FuncRel, defined, own, slot, TableRel, GlobalRel, ElemRel, StoreRel, LevelRel, FrameRel, EntryRel, mark, opening, waiting}
use Rattle.run_simulation.specs.Prelude.{growing, BodyRel, GrowthRel, ChangeRel, keep, set_global, set_memory, set_table, drop_elem, drop_data, ActRel, goes, calls, asks_grow, ends, NextRel, ran, asked, asked_grow, loads, returned, NotOpaque, NextKnown, TopKnown, Unknowns, none_unknown, StoreRelOff}
use Rattle.run_simulation.specs.Prelude.{read_by, ReadsKnown, known, ActOff, Values, Memories, Control, GroupAgrees, HaveTypes}
use Rattle.run_simulation.specs.Related.{NextRelBy}
use Rattle.run_simulation.specs.UnknownPlaces.{read_next, read_levels}
use Rattle.run_simulation.specs.Groups.{Group, group_of}
use Rattle.run_simulation.proofs.RelatedOutcomes.{res_map}
use Rattle.base_lists.specs.Related.{PairRel}
use Rattle.base_lists.proofs.Related.{onto_rel}
use Rattle.run_simulation.proofs.UnknownPlaces.{to_off, to_related, changed_off, none_left_by, all_is_known, act_known}
use Rattle.run_simulation.proofs.ValueSteps.{zeros_rel}
use Rattle.run_simulation.proofs.ControlSteps.{end_level_rel}
use Rattle.run_simulation.proofs.ValueGroup.{values_agree}
use Rattle.run_simulation.proofs.MemoryGroup.{memories_agree}
use Rattle.run_simulation.proofs.ControlGroup.{control_agrees}

-- The laws of the three groups of instructions, joined.
pub each_group : (g : Group) → GroupAgrees g
each_group Values = values_agree
each_group Memories = memories_agree
each_group Control = control_agrees

-- No act calls a function on the list if the list is empty.
pub none_called : (R : Pairing) → ((a : ℕ) → ¬ R.listed a) → (x : Act) → NotOpaque R x
none_called R plain (Goes c f) = tt
none_called R plain (Calls a vs h) = plain a
none_called R plain (AsksGrow g m n f) = tt
none_called R plain (Ends vs) = tt

module _ (R : Pairing) (off : Unknowns) (ev ew : Env) (st : StoreRelOff R off ev.store ew.store) where
  exec_rel : {h k : Body} {o p : Instr-F Instr} → BodyRel R ev.inst ew.inst h k → OpRel R ev.inst ew.inst true o p → ReadsKnown off (read_by o ev h.values) → ResRel (ActOff R off ev.inst ew.inst) (exec o ev h) (exec p ew k)
  exec_rel {h} {k} {o} {p} r q reads = each_group (group_of o) R off ev ew st h k r o p q reads refl

  step_code_rel : {h k : Body} {c d : List Instr} → BodyRel R ev.inst ew.inst h k → CodeRel R ev.inst ew.inst c d → ((x : Act) → step_code ev h c ≡ Gives x → NotOpaque R x) → NextKnown R ev.inst ew.inst c d → ReadsKnown off (read_next ev h.values c) →
      ResRel (ActOff R off ev.inst ew.inst) (step_code ev h c) (step_code ew k d)
  step_code_rel r end f u reads = end_level_rel R off ev ew st r
  step_code_rel r (then o c) f u reads = exec_rel (record { locals = r.locals; values = r.values; rest = c; gives = r.gives; takes = r.takes; back = r.back; outer = r.outer }) (u o) reads
  step_code_rel {h} r (instead {a = a} {c = c} x p e l _ _) f u reads =
      let called : Body = record h { rest = c } in
      absurd (f (Calls a h.values called) (ap (λ o. exec o ev called) p ∙ ap (λ found. bind (or_ill_typed found) (call_address called)) e) l)

  step_levels_rel : {vs ws : List Val} {ls ms : List Level} → ListRel (ValRel R) vs ws → ListRel (LevelRel R ev.inst ew.inst) ls ms → ((x : Act) → step_levels ev vs ls ≡ Gives x → NotOpaque R x) → TopKnown R ev.inst ew.inst ls ms → ReadsKnown off (read_levels ev ls) →
      ResRel (ActOff R off ev.inst ew.inst) (step_levels ev vs ls) (step_levels ew ws ms)
  step_levels_rel v nil free u reads = wrong
  step_levels_rel v (cons l ls) free u reads = step_code_rel (record { locals = v; values = l.values; rest = end; gives = l.gives; takes = l.takes; back = l.back; outer = ls }) l.code free u reads

module _ (R : Pairing) (apart : OneToOneWhereWritten R) where
  pub act_off : {s t : Store} {f g : Frame} (off : Unknowns) → StoreRelOff R off s t → FrameRel R f g → ((x : Act) → act s f ≡ Gives x → NotOpaque R x) → TopKnown R f.inst g.inst f.levels g.levels → ReadsKnown off (read_levels (record { store = s; inst = f.inst }) f.levels) →
      ResRel (ActOff R off f.inst g.inst) (act s f) (act t g)
  act_off {s} {t} {f} {g} off p q free u reads = step_levels_rel R off (record { store = s; inst = f.inst }) (record { store = t; inst = g.inst }) p q.locals q.levels free u reads

  pub act_rel : {s t : Store} {f g : Frame} → StoreRel R s t → FrameRel R f g → ((x : Act) → act s f ≡ Gives x → NotOpaque R x) → TopKnown R f.inst g.inst f.levels g.levels → ResRel (ActRel R f.inst g.inst) (act s f) (act t g)
  act_rel {s} {t} p q free u = res_map (λ _ _ a. act_known R a) (act_off none_unknown (to_off R s t p) q free u (λ r _. all_is_known r))

  pub changed_rel : {s t : Store} {c d : Change} → StoreRel R s t → ChangeRel R c d → StoreRel R (changed s c) (changed t d)
  changed_rel {s} {t} {c} {d} r k =
      to_related R (changed s c) (changed t d) (subst (λ u. StoreRelOff R u (changed s c) (changed t d)) (none_left_by c) (changed_off R apart none_unknown (to_off R s t r) (known k)))

  pub frame_rel : {f g : Frame} {h k : Body} → FrameRel R f g → BodyRel R f.inst g.inst h k → FrameRel R (frame_of f h) (frame_of g k)
  frame_rel f r = record { locals = r.locals; results = f.results; levels = cons (record { values = r.values; code = r.rest; gives = r.gives; takes = r.takes; back = r.back }) r.outer }

  pub left_rel : {i j : _} {h k : Body} {vs ws : List Val} → BodyRel R i j h k → ListRel (ValRel R) vs ws → BodyRel R i j (with_values h vs) (with_values k ws)
  left_rel r v = record { locals = r.locals; values = v; rest = r.rest; gives = r.gives; takes = r.takes; back = r.back; outer = r.outer }

  pub frame_given : {f g : Frame} {l m : Level} {ls ms : List Level} {vs ws : List Val} → FrameRel R f g → LevelRel R f.inst g.inst l m → ListRel (LevelRel R f.inst g.inst) ls ms → ListRel (ValRel R) vs ws →
      FrameRel R (record f { levels = record l { values = onto vs l.values } ∷ ls }) (record g { levels = record m { values = onto ws m.values } ∷ ms })
  frame_given f l ls v = record { locals = f.locals; results = f.results; levels = cons (record { values = onto_rel v l.values; code = l.code; gives = l.gives; takes = l.takes; back = l.back }) ls }

  -- What is known of the entry on top of two stacks, if C relates what is below it.
  pub data TopView (C : Store → Store → List Entry → List Entry → Type 0) (s t : Store) : List Entry → List Entry → Type 0 where
    top_none : C s t [] [] → TopView C s t [] []
    top_mark : {es fs : List Entry} → C s t es fs → TopView C s t (Mark ∷ es) (Mark ∷ fs)
    top_opening : {xs ys : List ℕ} {es fs : List Entry} → ListRel (R.of space.Functions) xs ys → C s t es fs → TopView C s t (Opening xs ∷ es) (Opening ys ∷ fs)
    top_waiting : {ts : List ValType} {es fs : List Entry} → C s t es fs → TopView C s t (Waiting ts ∷ es) (Waiting ts ∷ fs)
    top_ended : {vs ws : List Val} {es fs : List Entry} → ListRel (ValRel R) vs ws → C s t es fs → TopView C s t (Ended vs ∷ es) (Ended ws ∷ fs)
    top_growing : {g h : Growth} {es fs : List Entry} → GrowthRel R g h → C s t es fs → TopView C s t (Growing g ∷ es) (Growing h ∷ fs)
    top_running : {f g : Frame} {es fs : List Entry} → TopView C s t (Running f ∷ es) (Running g ∷ fs)

  -- B relates whole configurations and C what is below the frames on top; calls and ends of frames
  -- keep both.
  pub record Stacks (B C : Store → Store → List Entry → List Entry → Type 0) : Type 0 where
    pub steady : {s t : Store} {es fs : List Entry} → C s t es fs → B s t es fs
    pub cleared : {s t : Store} {es fs : List Entry} → B s t es fs → C s t [] []
    pub changes : {s t : Store} {c d : Change} {es fs : List Entry} → ChangeRel R c d → C s t es fs → C (changed s c) (changed t d) es fs
    pub changes_all : {s t : Store} {c d : Change} {es fs : List Entry} → ChangeRel R c d → B s t es fs → B (changed s c) (changed t d) es fs
    pub push : {s t : Store} {e f : Entry} {es fs : List Entry} → EntryRel R e f → C s t es fs → C s t (e ∷ es) (f ∷ fs)
    pub marks : {s t : Store} {es fs : List Entry} → B s t es fs → ResRel (PairRel (◌≡◌ {A = Caller}) (C s t)) (to_mark es) (to_mark fs)
    pub marked : {s t : Store} {es fs : List Entry} → C s t es fs → is_mark es ≡ is_mark fs
    pub gives : {s t : Store} {vs ws : List Val} {es fs : List Entry} → StoreRel R s t → ListRel (ValRel R) vs ws → C s t es fs → ResRel (NextRel R B) (give s vs es) (give t ws fs)
    pub enters : {s t : Store} {a b : ℕ} {u : FuncType} {vs ws : List Val} {es fs : List Entry} → StoreRel R s t → R.of space.Functions a b → ¬ R.listed a → type_at s a ≡ Some u → HaveTypes u.params vs → ListRel (ValRel R) vs ws → C s t es fs →
        ResRel (NextRel R B) (enter_at s a vs es) (enter_at t b ws fs)

  module _ (S : Store → Store → Type 0) (B C : Store → Store → List Entry → List Entry → Type 0) (steady : (s t : Store) (es fs : List Entry) → C s t es fs → B s t es fs) (push : (s t : Store) (e f : Entry) (es fs : List Entry) → EntryRel R e f → C s t es fs → B s t (e ∷ es) (f ∷ fs)) where
    pub enter_rel : {s t : Store} {f g : Func} {vs ws : List Val} {es fs : List Entry} → S s t → FuncRel R f g → ListRel (ValRel R) vs ws → C s t es fs → NextRelBy R S B (enter s f vs es) (enter t g ws fs)
    enter_rel s (defined {ls = ls} c) v e =
        ran s (push _ _ _ _ _ _ (Related.running (record { locals = append_rel v (zeros_rel R ls); results = refl; levels = cons (record { values = nil; code = c; gives = refl; takes = refl; back = end }) nil })) e)
    enter_rel s own v e = asked v s (push _ _ _ _ _ _ waiting e)
    enter_rel s slot v e = loads v s (steady _ _ _ _ e)

    pub give_levels_rel : {s t : Store} {f g : Frame} {ls ms : List Level} {vs ws : List Val} {es fs : List Entry} → S s t → FrameRel R f g → ListRel (LevelRel R f.inst g.inst) ls ms → ListRel (ValRel R) vs ws → C s t es fs →
        ResRel (NextRelBy R S B) (give_levels s vs f ls es) (give_levels t ws g ms fs)
    give_levels_rel s f nil v e = wrong
    give_levels_rel s f (cons l ls) v e = done (ran s (push _ _ _ _ _ _ (Related.running (frame_given f l ls v)) e))
