-- The stages of the sequential run and of the run at once: parts are added, a start runs, the view
-- opens.
use Rattle.base_lists.proofs.Common.{◌≡◌, ◌∙◌, refl, sym, ap, ap₂, ℕ, zero, suc, ◌+◌, ◌<◌, ◌≤◌, List, [], ◌∷◌, ◌++◌, length, Option, Some, None, ◌⊎◌, inl, inr, arith, drop, slice_get, cases_lt, slice_get_there, slice_get_within}
use Rattle.wasm_tree_spec.specs.Prelude.{Functions, Module, Space}
use Rattle.wasm_meaning.specs.Prelude.{const_value, Linked, Text, Inst, Func, Store, Entry, Opening, type_of_func, Part, module_at, Environment, ExternalValue, World, base, all_there, joined_stores, start_in, one_place, seen_as, Pending, Opened, Closed, Run, Out, tick, GivesNothing, a_frame, a_call}
use Rattle.wasm_meaning.specs.Prelude.{over, StartDependsOnlyOnItsFrames, SequentialRun, view_over, goes_on, tick_sequential, HasNoActive}
use Rattle.wasm_meaning.specs.Sequential.{with_run, turn_at}
use Rattle.run_simulation.specs.Prelude.{nil, opened, RunRel, CodeIsRelatedToItself, EntryByEntry, RelatedTicksAgree, OthersStay}
use Rattle.std.proofs.Math.Seq.{drop-length}
use Rattle.base_simulation.proofs.StepwiseSimulation.{NextStepsAreRelated, both, second}
use Rattle.merge_proof.proofs.ExternalValues.{space_in}
use Rattle.merge_proof.proofs.JoinedImports.{made_upto, module_is}
use Rattle.merge_proof.proofs.ReachedAddresses.{is_reached, reaching, one_to_one, defined_more}
use Rattle.merge_proof.proofs.InstanceAddresses.{inst_low}
use Rattle.merge_proof.proofs.ExtensionLaws.{ExtensionLaws}
use Rattle.merge_proof.proofs.StartSteps.{nothing_to_nothing, opening_bottom, Abreast, Stepped, on, done, stopped, step, open_both}
use Rattle.merge_proof.proofs.PartTurns.{IsGiven, IsTurn, made_all, starts_from, starts_next, turned, turn_stays, next_turn}
use Rattle.merge_proof.proofs.TurnsBetweenStarts.{holds_of, abreast_next, within}
use Rattle.merge_proof.proofs.AfterStarts.{closed_stays, view_self}

-- The next part has its turn only if no start is left to be run.
turn_runs : (q : SequentialRun) → (q.run.entries ≡ Opening [] ∷ [] → ⊥) → tick_sequential q ≡ with_run q (tick q.run)
turn_runs q n = go q.rest q.run.entries n
  where
    go : (rest : List Part) (es : List Entry) → (es ≡ Opening [] ∷ [] → ⊥) → turn_at q rest es ≡ with_run q (tick q.run)
    go (part ∷ rest) (Opening [] ∷ []) n = absurd (n refl)
    go _ _ n = refl

not_opening : (es cs : List Entry) → GivesNothing es → es ++ cs ≡ Opening [] ∷ [] → ⊥
not_opening _ cs (a_frame e) h = cc
not_opening _ cs a_call h = cc
not_opening _ cs (over {e = Opening xs} n g) h = cc
not_opening _ cs (over {e = _} n g) h = cc

turn_last : (q : SequentialRun) → q.rest ≡ [] → tick_sequential q ≡ with_run q (tick q.run)
turn_last q e = rw e

module _ (env : Environment) (w : World) (insts : List Inst) (allocated : Store) (g : IsGiven env w insts allocated) (itself : CodeIsRelatedToItself) (below : StartDependsOnlyOnItsFrames) (extend : ExtensionLaws) (ticks : RelatedTicksAgree) (others : OthersStay) (view : List (Text × ExternalValue))
    (view_is : all_there (seen_as insts) w.view ≡ Some view) where
  abbrev Same : ℕ → Run → Run → Type 0
  Same k u r = RunRel (reaching env w.parts k) (EntryByEntry (reaching env w.parts k)) (EntryByEntry (reaching env w.parts k)) u r

  -- A state in which k parts are added. The entries es and fs of a running start are on the stacks,
  -- and ys is the start of the last part if it has still to be run.
  pub record Stands (k : ℕ) (es fs : List Entry) (ys : List ℕ) (r : Run) (q : SequentialRun) : Type 0 where
    pub abreast : Abreast below extend ticks others env w.parts allocated k es fs r q.run
    pub first : r.entries ≡ es ++ Opening (ys ++ starts_from w insts k) ∷ []
    pub phase : r.phase ≡ Pending view
    pub second_entries : q.run.entries ≡ fs ++ Opening ys ∷ []
    pub second_phase : q.run.phase ≡ Pending (view_over (made_upto k w.parts insts) w.view)
    pub turn : IsTurn w insts k q
    pub quiet : (p : ℕ) (m : Module) → k ≤ p → module_at w.parts p ≡ Some m → HasNoActive m
    pub most : k ≤ length w.parts

  abbrev pub Waits : ℕ → List ℕ → Run → SequentialRun → Type 0
  Waits k ys r q = Stands k [] [] ys r q

  -- A start that is to be run.
  pub record IsStart (k a : ℕ) (q : SequentialRun) : Type 0 where
    pub func : Func
    pub there : slice_get q.run.store.funcs a ≡ Some func
    pub type : type_of_func func ≡ nothing_to_nothing
    pub low : a < base env w.parts Functions k

  -- A stage of both runs, in which the sequential run has at most d parts left to add in steps of
  -- its own.
  pub data Stage (d : ℕ) (r : Run) (q : SequentialRun) : Type 0 where
    waits : {k : ℕ} → length w.parts ≤ k + d → Waits k [] r q → Stage d r q
    opens : {k a : ℕ} → length w.parts ≤ k + d → IsStart k a q → Waits k (a ∷ []) r q → Stage d r q
    makes : {k : ℕ} {es fs : List Entry} → length w.parts ≤ k + d → GivesNothing es → GivesNothing fs → Stands k es fs [] r q → Stage d r q
    shut : (k : ℕ) → Same k q.run r → r.entries ≡ [] → r.phase ≡ Closed → q.run.entries ≡ [] → q.run.phase ≡ Closed → Stage d r q
    seen : (k : ℕ) → Same k q.run r → q.rest ≡ [] → Stage d r q

  abbrev pub LeadsToStage : ℕ → Run → SequentialRun → Type 0
  LeadsToStage d r q = NextStepsAreRelated tick tick_sequential (λ d e r q. Stage d r q) d 0 r q

  -- A step of both runs, in which the sequential run adds no part.
  in_step : (d : ℕ) (r : Run) (q : SequentialRun) → tick_sequential q ≡ with_run q (tick q.run) → (tick r).1 ≡ (tick q.run).1 → Stage d (tick r).0 (record q { run = (tick q.run).0 }) → LeadsToStage d r q
  in_step d r q e same stage = both (rw e same) (rw e stage)

  -- ---- the turn of the next part ----

  -- The stage after a part is added: its start is to be run, or there is none.
  pub added_stage : (d k : ℕ) (part : Part) (i : Inst) (r : Run) (q : SequentialRun) → slice_get w.parts k ≡ Some part → slice_get insts k ≡ Some i → length w.parts ≤ suc k + d → q.run.entries ≡ Opening (start_in i part.«module».start) ∷ [] →
      ((ys : List ℕ) → start_in i part.«module».start ≡ ys → Waits (suc k) ys r q) → Stage d r q
  added_stage d k part i r q at_part at_inst l e h = go part.«module».start refl
    where
      go : (s : Option ℕ) → part.«module».start ≡ s → Stage d r q
      go None is = waits l (h [] (ap (start_in i) is))
      go (Some x) is =
          let is_part = module_is w.parts k part at_part in
          let s = g.starts k x part.«module» i is_part at_inst is in
          let low = inst_low env w.parts insts g.are g.size g.earlier g.own k part.«module» i is_part at_inst Functions x s.0 s.2 in
          let now = h (s.0 ∷ []) (ap (start_in i) is ∙ ap one_place s.2) in
          opens l (record { func = s.1; there = now.abreast.beside.same_funcs s.0 low ∙ s.3; type = s.4; low = low }) now

  module _ (k d : ℕ) (r : Run) (q : SequentialRun) (h : Waits k [] r q) where
    -- The next part is added in a step of the sequential run alone.
    add_part : (part : Part) (i : Inst) → slice_get w.parts k ≡ Some part → slice_get insts k ≡ Some i → length w.parts ≤ k + suc d → LeadsToStage (suc d) r q
    add_part part i at_part at_inst l =
        let t = q.run.store in
        let next = joined_stores t (g.laid.adds k) in
        let holds = holds_of env w.parts k allocated t r.store h.abreast.beside h.abreast.extends in
        let f = g.no_segments (const_value t.globals i) part.«module» i next (h.quiet k part.«module» (omega arith) (module_is w.parts k part at_part)) in
        let e = rw f at (turned env w insts allocated g k part i at_part at_inst q h.turn h.second_entries h.abreast.second_owned h.abreast.beside.sized holds (ap (λ f. f.trapped) f)) in
        let turn = next_turn env w insts allocated g k part i at_part at_inst q next h.turn in
        second (rw e) (rw e (added_stage d k part i r (goes_on q part (drop (suc k) w.parts) i next) at_part at_inst (omega arith) refl (λ ys e. record {
          abreast = abreast_next env w insts allocated g itself k part i at_part at_inst below extend ticks others r q h.abreast;
          first = h.first ∙ ap (λ xs. Opening xs ∷ []) (starts_next w insts k part i at_part at_inst ∙ ap (λ ys. ys ++ starts_from w insts (suc k)) e);
          phase = h.phase;
          second_entries = ap (λ ys. Opening ys ∷ []) e;
          second_phase = ap Pending (ap₂ view_over turn.made h.turn.view);
          turn = turn;
          quiet = λ p m l e. h.quiet p m (omega arith) e;
          most = within env w insts allocated g itself k part i at_part at_inst;
        })))

  -- ---- the view opens ----

  all_low : (q : ℕ) (i : Inst) → slice_get insts q ≡ Some i → (k : Space) (n a : ℕ) → slice_get (space_in i k) n ≡ Some a → a < base env w.parts k (length w.parts)
  all_low q i e k n a h =
      let l = slice_get_within insts q i e in
      let part = slice_get_there w.parts q (rw (← g.size) l) in
      let r = inst_low env w.parts insts g.are g.size g.earlier g.own q part.0.«module» i (module_is w.parts q part.0 part.1) e k n a h in
      let m = defined_more k w.parts (suc q) (length w.parts) (rw (← g.size) l) in
      omega (arith, r, m)

  opened_run : (r : Run) (view : List (Text × ExternalValue)) → r.entries ≡ Opening [] ∷ [] → r.phase ≡ Pending view → tick r ≡ (record r { entries = []; phase = Opened; view = view }, Some Linked)
  opened_run r view e f = rw (e, f)

  open_view : (k d : ℕ) (r : Run) (q : SequentialRun) → k ≡ length w.parts → Waits k [] r q → LeadsToStage d r q
  open_view k d r q all h =
      let none : starts_from w insts k ≡ [] = rw (all, drop-length w.parts) in
      let rest : q.rest ≡ [] = rw (h.turn.rest, all, drop-length w.parts) in
      let made : view_over (made_upto k w.parts insts) w.view ≡ view = rw (all, made_all w.parts insts g.size, view_is) in
      let a = opened_run r view (rw none at h.first) h.phase in
      let b = opened_run q.run view h.second_entries (rw made at h.second_phase) in
      let c = h.abreast.related in
      let shows = view_self env w.parts k insts (rw all all_low) w.view view view_is in
      in_step d r q (turn_last q rest) (rw (a, b)) (rw (a, b) (seen k (record { store = c.store; entries = nil; phase = opened; shown = c.shown; view = shows; owned = c.owned; moves = c.moves }) rest))

  -- ---- a start ----

  -- The stage after a step of both runs within a start.
  stepped : {d k : ℕ} {es fs : List Entry} {ys : List ℕ} {r : Run} {q : SequentialRun} {o p : Out} → length w.parts ≤ k + d → Stands k es fs ys r q →
      Stepped below extend ticks others env w.parts allocated k (Opening (starts_from w insts k) ∷ []) view (view_over (made_upto k w.parts insts) w.view) o p → (o.1 ≡ p.1) × Stage d o.0 (record q { run = p.0 })
  stepped l h (on es fs x y a b c e f) = (refl, makes l x y (record { abreast = a; first = b; phase = c; second_entries = e; second_phase = f; turn = turn_stays h.turn; quiet = h.quiet; most = h.most }))
  stepped l h (done a b c e f) = (refl, waits l (record { abreast = a; first = b; phase = c; second_entries = e; second_phase = f; turn = turn_stays h.turn; quiet = h.quiet; most = h.most }))
  stepped l h (stopped a b c e f) = (refl, shut _ a b c e f)

  -- ---- every stage has a next ----

  pub next : (d : ℕ) (r : Run) (q : SequentialRun) → Stage d r q → LeadsToStage d r q
  next d r q (waits {k = k} l h) = go (cases_lt k (length w.parts))
    where
      add : (d : ℕ) → length w.parts ≤ k + d → k < length w.parts → LeadsToStage d r q
      add zero l low = absurd (omega arith)
      add (suc d) l low =
          let part = slice_get_there w.parts k low in
          let i = slice_get_there insts k (rw g.size low) in
          add_part k d r q h part.0 i.0 part.1 i.1 l

      go : (k < length w.parts) ⊎ (length w.parts ≤ k) → LeadsToStage d r q
      go (inl low) = add d l low
      go (inr high) = open_view k d r q (omega (arith, h.most)) h
  next d r q (opens {k = k} {a = a} l s h) =
      let o = open_both below extend ticks others env w.parts allocated k a (starts_from w insts k) s.func s.type r q.run h.abreast s.there s.low view (view_over (made_upto k w.parts insts) w.view) h.first h.phase h.second_entries h.second_phase in
      let n = stepped l h o in
      in_step d r q (turn_runs q (λ e. cc)) n.0 n.1
  next d r q (makes {k = k} {es = es} {fs = fs} l x y h) =
      let o = step below extend ticks others env w.parts allocated k (Opening (starts_from w insts k) ∷ []) (opening_bottom (starts_from w insts k)) view (view_over (made_upto k w.parts insts) w.view) es fs x y r q.run h.abreast h.first h.phase h.second_entries h.second_phase in
      let n = stepped l h o in
      in_step d r q (turn_runs q (λ e. not_opening fs _ y (sym h.second_entries ∙ e))) n.0 n.1
  next d r q (shut k same a b c e) =
      let o = ticks (is_reached env w.parts k) (one_to_one env w.parts k) q.run r same in
      let x = closed_stays r a b in
      let y = closed_stays q.run c e in
      in_step d r q (turn_runs q (λ e. cc)) (sym o.event) (shut k o.run x.entries x.phase y.entries y.phase)
  next d r q (seen k same rest) =
      let o = ticks (is_reached env w.parts k) (one_to_one env w.parts k) q.run r same in
      in_step d r q (turn_last q rest) (sym o.event) (seen k o.run rest)
