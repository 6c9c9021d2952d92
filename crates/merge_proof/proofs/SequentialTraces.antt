-- The traces of the whole run: sequential instantiation has the events of instantiation at once.
use Rattle.base_lists.proofs.Common.{◌≡◌, ◌∙◌, refl, sym, ap, ap₂, ℕ, zero, suc, ◌+◌, ◌*◌, ◌<◌, ◌≤◌, List, [], ◌∷◌, ◌++◌, length, Option, Some, None, false, ◌⊎◌, inl, inr, arith, drop, slice_get, unwrap_or, cases_lt, slice_get_there, slice_get_within, and_then_is}
use Rattle.wasm_tree_spec.specs.Prelude.{Module}
use Rattle.wasm_meaning.specs.Prelude.{Text, Inst, Store, Opening, Part, Entity, module_at, Environment, ExternalValue, owned_of, World, Begun, own_store, begun, all_there, start_in, starts_of, seen_as, segments, Pending, Move, Run, IsPrefix, fresh_run, tick, events_of, StartDependsOnlyOnItsFrames}
use Rattle.wasm_meaning.specs.Prelude.{SequentialRun, view_over, goes_on, tick_sequential, events_sequential, HasNoActive}
use Rattle.wasm_meaning.specs.Sequential.{before_parts}
use Rattle.base_simulation.proofs.Prefixes.{in_more_steps}
use Rattle.run_simulation.specs.Prelude.{nil, cons, opening, pending, CodeIsRelatedToItself, RelatedTicksAgree, OthersStay}
use Rattle.base_simulation.proofs.StepwiseSimulation.{NextStepsAreRelated, both, second, stuttering_traces_are_equal}
use Rattle.merge_proof.proofs.JoinedImports.{module_is}
use Rattle.merge_proof.proofs.ClosedStores.{self_by, func_self}
use Rattle.merge_proof.proofs.ExtensionLaws.{ExtensionLaws}
use Rattle.merge_proof.proofs.PartTurns.{IsGiven, IsTurn, starts_from, starts_next, next_turn}
use Rattle.merge_proof.proofs.TurnsBetweenStarts.{within}
use Rattle.merge_proof.proofs.RunStages.{Waits, Stage, added_stage}
use Rattle.merge_proof.proofs.RunStages as stages
use Rattle.merge_proof.proofs.BeforeFirstStart.{FillLaws, Fills, Advances, advances, beside_after, own_related, own_sound}

no_view : (vs : List (Text × Entity)) → unwrap_or (all_there (seen_as []) vs) [] ≡ []
no_view [] = refl
no_view (v ∷ vs) = refl

module _ (env : Environment) (w : World) (insts : List Inst) (allocated : Store) (g : IsGiven env w insts allocated) (itself : CodeIsRelatedToItself) (below : StartDependsOnlyOnItsFrames) (extend : ExtensionLaws) (ticks : RelatedTicksAgree) (others : OthersStay) (view : List (Text × ExternalValue))
    (view_is : all_there (seen_as insts) w.view ≡ Some view) (IsFilled : ℕ → Store → Type 0) (laws : FillLaws env w insts allocated g itself below extend ticks others view view_is IsFilled) (fine : (segments env w.parts insts allocated).trapped ≡ false) (moves : List Move) where
  abbrev after : Store
  after = (segments env w.parts insts allocated).store

  abbrev instance : Begun
  instance = begun env w insts view (segments env w.parts insts allocated)

  abbrev at_once : Run
  at_once = record { store = after; entries = Opening (starts_of w.parts insts) ∷ []; phase = Pending view; shown = []; view = []; owned = owned_of env; moves = moves }

  abbrev Filling : ℕ → Run → SequentialRun → Type 0
  Filling = Fills env w insts allocated g itself below extend ticks others view view_is IsFilled laws moves

  abbrev TheStage : ℕ → Run → SequentialRun → Type 0
  TheStage = Stage env w insts allocated g itself below extend ticks others view view_is

  pub data Early (d : ℕ) (r : Run) (q : SequentialRun) : Type 0 where
    fresh : r ≡ fresh_run env (Some instance) moves → q ≡ before_parts env w moves → 0 < length w.parts → length w.parts ≤ suc d → Early d r q
    fills : (k : ℕ) → length w.parts ≤ k + d → Filling k r q → Early d r q
    later_on : TheStage d r q → Early d r q

  -- The stage after the turn of a part before which there was no start.
  module _ (k d : ℕ) (part : Part) (i : Inst) (r : Run) (q : SequentialRun) (at_part : slice_get w.parts k ≡ Some part) (at_inst : slice_get insts k ≡ Some i) (h : Filling k r q) (a : Advances env w insts allocated g itself below extend ticks others view view_is IsFilled laws moves k part i q)
      (l : length w.parts ≤ suc k + d) where
    abbrev next_state : SequentialRun
    next_state = goes_on q part (drop (suc k) w.parts) i a.next_store

    is_part : module_at w.parts k ≡ Some part.«module»
    is_part = module_is w.parts k part at_part

    low : suc k ≤ length w.parts
    low = within env w insts allocated g itself k part i at_part at_inst

    turn : IsTurn w insts (suc k) next_state
    turn = next_turn env w insts allocated g k part i at_part at_inst q a.next_store h.turn

    starts_are : starts_of w.parts insts ≡ start_in i part.«module».start ++ starts_from w insts (suc k)
    starts_are = sym h.none_before ∙ starts_next w insts k part i at_part at_inst

    -- All segments are copied, if no part after this one has an active segment.
    waits_now : ((p : ℕ) (m : Module) → suc k ≤ p → module_at w.parts p ≡ Some m → HasNoActive m) → (ys : List ℕ) → start_in i part.«module».start ≡ ys → Waits env w insts allocated g itself below extend ticks others view view_is (suc k) ys r next_state
    waits_now quiet ys e =
        let whole = laws.filled_all (suc k) a.next_store low a.filled quiet in
        let sized = laws.filled_sized (suc k) a.next_store low a.filled in
        let beside = beside_after env w insts allocated g (suc k) a.next_store low whole sized a.of_first in
        record {
          abreast = rw (h.first, h.second_run) (record {
            related = record {
              store = beside.related;
              entries = cons (opening nil) nil;
              phase = pending nil;
              shown = nil;
              view = nil;
              owned = (own_related env w insts allocated g (suc k)).owned;
              moves = refl;
            };
            beside = beside;
            extends = extend.segments env w.parts insts allocated;
            first_owned = refl;
            second_owned = refl;
          });
          first = ap (λ r. r.entries) h.first ∙ ap (λ xs. Opening xs ∷ []) (starts_are ∙ ap (λ ys. ys ++ starts_from w insts (suc k)) e);
          phase = ap (λ r. r.phase) h.first;
          second_entries = ap (λ ys. Opening ys ∷ []) e;
          second_phase = ap Pending (ap₂ view_over turn.made h.turn.view);
          turn = turn;
          quiet = quiet;
          most = low;
        }

    stage_now : ((p : ℕ) (m : Module) → suc k ≤ p → module_at w.parts p ≡ Some m → HasNoActive m) → Early d r next_state
    stage_now quiet = later_on (added_stage env w insts allocated g itself below extend ticks others view view_is d k part i r next_state at_part at_inst (omega (arith, l)) refl (waits_now quiet))

    -- A part that has no start and is not the last leads to the turn of the next part.
    fills_on : start_in i part.«module».start ≡ [] → suc k < length w.parts → Early d r next_state
    fills_on none less = fills (suc k) (omega (arith, l)) (record {
      filled = a.filled;
      of_first = a.of_first;
      first = h.first;
      second_run = rw (h.second_run, none, turn.made, h.turn.view);
      turn = turn;
      none_before = sym (starts_are ∙ ap (λ ys. ys ++ starts_from w insts (suc k)) none);
      most = less;
    })

    pub after_turn : Early d r next_state
    after_turn = go part.«module».start refl (cases_lt (suc k) (length w.parts))
      where
        go : (s : Option ℕ) → part.«module».start ≡ s → (suc k < length w.parts) ⊎ (length w.parts ≤ suc k) → Early d r next_state
        go (Some x) e last = stage_now (λ p m less is. g.late k p x part.«module» m (omega (arith, less)) is_part is e)
        go None e (inl less) = fills_on (ap (start_in i) e) less
        go None e (inr all) = stage_now (λ p m less is. let part = and_then_is (slice_get w.parts p) _ m is in absurd (omega (arith, slice_get_within w.parts p part.0 part.1)))

  abbrev LeadsToEarly : ℕ → ℕ → Run → SequentialRun → Type 0
  LeadsToEarly d e r q = NextStepsAreRelated tick tick_sequential (λ d e r q. Early d r q) d e r q

  -- ---- the first step ----

  first_tick : tick (fresh_run env (Some instance) moves) ≡ (at_once, None)
  first_tick = rw fine

  nothing_yet : 0 < length w.parts → Filling 0 at_once (before_parts env w moves)
  nothing_yet some =
      let own = own_related env w insts allocated g 0 in
      let sound = own_sound env w.parts 0 env in
      record {
        filled = laws.filled_none;
        of_first = record {
          extends = rw g.laid.first_none (extend.reflexive (own_store env));
          closed = record { funcs = self_by (own_store env).funcs (λ n f e. func_self itself env w.parts 0 f (sound n f e)); tables = own.tables; globals = own.globals; elems = nil };
          sound = sound;
        };
        first = refl;
        second_run = rw (no_view w.view);
        turn = record { made = refl; rest = refl; view = refl };
        none_before = refl;
        most = some;
      }

  step_of : (k d : ℕ) (r : Run) (q : SequentialRun) → (h : Filling k r q) → length w.parts ≤ suc k + d → (q' : SequentialRun) × (tick_sequential q ≡ (q', None)) × Early d r q'
  step_of k d r q h l =
      let part = slice_get_there w.parts k h.most in
      let i = slice_get_there insts k (rw g.size h.most) in
      let a = advances env w insts allocated g itself below extend ticks others view view_is IsFilled laws moves k part.0 i.0 r q part.1 i.1 h in
      (goes_on q part.0 (drop (suc k) w.parts) i.0 a.next_store, a.is, after_turn k d part.0 i.0 r q part.1 i.1 h a l)

  next : (d e : ℕ) (r : Run) (q : SequentialRun) → Early d r q → LeadsToEarly d e r q
  next d e r q (fresh at_start before some l) =
      let s = step_of 0 d at_once (before_parts env w moves) (nothing_yet some) (omega arith) in
      both (rw (at_start, before, first_tick, s.1)) (rw (at_start, before, first_tick, s.1) s.2)
  next d e r q (fills k l h) = go d l
    where
      go : (d : ℕ) → length w.parts ≤ k + d → LeadsToEarly d e r q
      go zero l = absurd (omega (arith, h.most))
      go (suc d) l = let s = step_of k d r q h (omega arith) in second (rw s.1) (rw s.1 s.2)
  next d e r q (later_on h) = on (stages.next env w insts allocated g itself below extend ticks others view view_is d r q h)
    where
      on : {d : ℕ} → NextStepsAreRelated tick tick_sequential (λ d e r q. TheStage d r q) d 0 r q → LeadsToEarly d e r q
      on (both p i) = both p (later_on i)
      on (second p i) = second p (later_on i)

  -- ---- traces ----

  pub seen_the_same : 0 < length w.parts → (n : ℕ) → IsPrefix (events_of tick (fresh_run env (Some instance) moves) n) (events_sequential w env moves (n + 4 * length w.parts)) × IsPrefix (events_sequential w env moves n) (events_of tick (fresh_run env (Some instance) moves) (n + 4 * length w.parts))
  seen_the_same some n =
      let k = length w.parts in
      let r = fresh_run env (Some instance) moves in
      let q = before_parts env w moves in
      let seen = stuttering_traces_are_equal tick tick_sequential (λ d e r q. Early d r q) next k 0 r q (fresh refl refl some (omega arith)) n in
      (in_more_steps tick_sequential _ (n + k) (n + 4 * k) q (omega arith) seen.0, in_more_steps tick _ (n + 0) (n + 4 * k) r (omega arith) seen.1)
