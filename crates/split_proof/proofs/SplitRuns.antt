-- A split module under its loader has the traces of the module alone, where each call of a moved
-- function is answered.
use Rattle.base_lists.proofs.Common.{◌≡◌, ◌∙◌, refl, ap, sym, subst, ℕ, ◌+◌, ◌*◌, List, [], Option, Some, None, Bool, true, false, arith}
use Rattle.std.specs.List.{cons_option}
use Rattle.base_simulation.specs.Machines.{IsPrefix, events_of}
use Rattle.base_simulation.proofs.StepwiseSimulation.{IsAnsweredBySome, stuttering_simulation}
use Rattle.base_simulation.proofs.Prefixes.{is_prefix, more_events, prefix_trans}
use Rattle.wasm_tree_spec.specs.Prelude.{Module}
use Rattle.wasm_meaning.specs.Prelude.{Inst, Environment, LoaderRun, LoaderWorld, begun_under, events_loaded, fresh_loader, loader_made, tick_loader, Closed, Move, Opened, Out, Run, events, fresh_run, made, tick, transition, Begun, alone, instantiate}
use Rattle.run_simulation.specs.Prelude.{OptRel, none, some, nil, BegunRel, closed, TickSkips, calls_placeholder, FramesBetween}
use Rattle.world_simulation.specs.FailedRuns.{IsOver}
use Rattle.split_spec.specs.declared.names.SplitNames.{SplitNames}
use Rattle.wasm_valid.specs.Prelude.{ItemsHold}
use Rattle.split_proof.specs.Addresses.{split_pairing}
use Rattle.split_proof.specs.SplitInstantiation.{RunsRelated}
use Rattle.split_proof.specs.SplitLaws.{CanBeSplit, most_params}
use Rattle.split_proof.specs.LoadedCode.{InstancesAreRelated, InstancesOfSplitsAreRelated}
use Rattle.split_proof.specs.CorrespondingStates.{Corresponds}
use Rattle.split_proof.proofs.InstantiatedSplits.{begin_alike}
use Rattle.split_proof.proofs.InitialFunctions.{first_insts, second_begins}
use Rattle.split_proof.proofs.InitialStates as states
use Rattle.split_proof.proofs.IndexEntries.{Laws, holds, split}
use Rattle.split_proof.proofs.AddressPartners.{one_to_one}
use Rattle.split_proof.proofs.AnsweredSteps.{CallsAnswered, StepLaws, answered, goes, in_two}

module _ (laws : Laws) (steps : StepLaws) (alike : InstancesOfSplitsAreRelated) (namespace : ℕ → List ℕ) (names : SplitNames) (m : Module) (moved : List ℕ) (owns : List (List ℕ)) (g : CanBeSplit namespace names m moved owns) (env : Environment) where
  abbrev valid : ItemsHold m
  valid = holds laws namespace names m moved owns g

  abbrev w : LoaderWorld
  w = split laws namespace names m moved owns g

  abbrev most : ℕ
  most = most_params m moved

  -- Each call of a moved function is answered.
  abbrev pub EachCallAnswered : Type 0
  EachCallAnswered = (i j : Inst) → InstancesAreRelated env m moved i j → CallsAnswered steps env m moved w i j (one_to_one namespace names.export_prefix m valid moved g.can_move env) most

  module _ (calls : EachCallAnswered) (moves : List Move) where
    -- The relation between the two runs: both at the beginning; both over, and equal or related; or
    -- in corresponding states.
    data Place (r : Run) (q : LoaderRun) : Type 0 where
      fresh : r ≡ fresh_run env (instantiate env (alone m)) moves → q ≡ fresh_loader env w moves → Place r q
      as_one : IsOver r → q.run ≡ r → Place r q
      over : IsOver r → RunsRelated (split_pairing env m moved []) r q.run → Place r q
      going : (i j : Inst) → InstancesAreRelated env m moved i j → (loaded : List (ℕ × ℕ)) → Corresponds env m moved w i j loaded r q → Place r q

    abbrev LeadsToPlace : Run → LoaderRun → Type 0
    LeadsToPlace = IsAnsweredBySome tick (tick_loader w) (most + 3) Place

    -- ---- runs that are over ----

    from_one : (r : Run) (q : LoaderRun) → IsOver r → q.run ≡ r → LeadsToPlace r q
    from_one r q h e =
        let o = steps.over r h in
        let first : tick r ≡ o.0 = ap made o.1 in
        let second : tick_loader w q ≡ (record q { run = o.0.0 }, o.0.1) = ap (λ x. loader_made w q (transition x)) e ∙ ap (loader_made w q) o.1 in
        record {
          further = 0;
          bound = omega arith;
          shown = ap (λ x. cons_option x.1 []) second ∙ sym (ap (λ (x : Out). cons_option x.1 []) first);
          states = subst (λ (x : Out). Place x.0 (tick_loader w q).0) (sym first) (subst (λ x. Place o.0.0 x.0) (sym second) (as_one o.2 refl));
        }

    from_over : (r : Run) (q : LoaderRun) → IsOver r → RunsRelated (split_pairing env m moved []) r q.run → LeadsToPlace r q
    from_over r q h related =
        let o = steps.over r h in
        let apart = one_to_one namespace names.export_prefix m valid moved g.can_move env in
        let free : TickSkips (split_pairing env m moved []) r r.entries = subst (TickSkips (split_pairing env m moved []) r) (sym h.entries) (λ e. absurd (let z : Closed ≡ Opened = sym h.phase ∙ e in cc)) in
        let a = in_two steps env m moved w apart [] r q.run related free in
        let s = goes steps env m moved w apart [] r q a (ap calls_placeholder o.1) in
        let few = a.bound in
        let first : tick r ≡ o.0 = ap made o.1 in
        record {
          further = a.further;
          bound = omega (arith, few);
          shown = s.shown ∙ a.shown;
          states = subst (Place (tick r).0) (sym s.state) (over (subst (λ (x : Out). IsOver x.0) (sym first) o.2) a.run);
        }

    -- ---- the first step ----

    begins : (o p : Option Begun) → instantiate env (alone m) ≡ o → begun_under env w ≡ p → OptRel (BegunRel (split_pairing env m moved []) (FramesBetween (split_pairing env m moved []))) o p → LeadsToPlace (fresh_run env (instantiate env (alone m)) moves) (fresh_loader env w moves)
    begins None None e f none = rw (e, f) (record { further = 0; bound = omega arith; shown = refl; states = as_one (record { phase = refl; entries = refl }) refl })
    begins None (Some c) e f h = elim h [ ]
    begins (Some b) None e f h = elim h [ ]
    begins (Some b) (Some c) e f (some h) = by b.trapped c.trapped refl refl
      where
        shown : (t : Bool) → b.trapped ≡ t → c.trapped ≡ t → events_of (tick_loader w) (fresh_loader env w moves) 1 ≡ events_of tick (fresh_run env (instantiate env (alone m)) moves) 1
        shown true x y = rw (e, f, x, y) refl
        shown false x y = rw (e, f, x, y) refl

        by : (t u : Bool) → b.trapped ≡ t → c.trapped ≡ u → LeadsToPlace (fresh_run env (instantiate env (alone m)) moves) (fresh_loader env w moves)
        by true true x y = record {
          further = 0;
          bound = omega arith;
          shown = shown true x y;
          states = rw (e, f, x, y) (over (record { phase = refl; entries = refl }) (record { store = h.store; entries = h.closed; phase = closed; shown = nil; view = nil; owned = h.owned; moves = refl }));
        }
        by false false x y = record {
          further = 0;
          bound = omega arith;
          shown = shown false x y;
          states = subst (λ o. Place (tick (fresh_run env o moves)).0 (tick_loader w (fresh_loader env w moves)).0) (sym e)
              (going (states.i laws namespace names m moved owns g env moves b e c f) (states.j laws namespace names m moved owns g env moves b e c f)
              (alike namespace names m moved owns g env (states.i laws namespace names m moved owns g env moves b e c f) (first_insts laws namespace names m moved owns g env b e) (second_begins laws namespace names m moved owns g env c f).made
              (second_begins laws namespace names m moved owns g env c f).is_made)
              [] (states.states laws namespace names m moved owns g env moves b e c f x));
        }
        by true false x y = absurd (let t = h.trapped in cc)
        by false true x y = absurd (let t = h.trapped in cc)

    -- ---- each step ----

    next : (r : Run) (q : LoaderRun) → Place r q → LeadsToPlace r q
    next r q (fresh e f) = subst (λ r. LeadsToPlace r q) (sym e) (subst (LeadsToPlace (fresh_run env (instantiate env (alone m)) moves)) (sym f) (begins (instantiate env (alone m)) (begun_under env w) refl refl (begin_alike laws namespace names m moved owns g env)))
    next r q (as_one h e) = from_one r q h e
    next r q (over h e) = from_over r q h e
    next r q (going i j a loaded h) =
        let s = answered steps env m moved w i j (one_to_one namespace names.export_prefix m valid moved g.can_move env) most (calls i j a) loaded r q h in
        let few = s.bound in
        record { further = s.further; bound = omega (arith, few); shown = s.shown; states = going i j a s.loaded s.next }

    seen : (n : ℕ) → IsPrefix (events (alone m) env moves n) (events_loaded w env moves ((most + 3) * n)) × IsPrefix (events_loaded w env moves n) (events (alone m) env moves n)
    seen n = stuttering_simulation tick (tick_loader w) (most + 3) Place next (fresh_run env (instantiate env (alone m)) moves) (fresh_loader env w moves) (fresh refl refl) n

    -- The equivalence, with the larger number of steps that the law allows.
    pub shows : (n : ℕ) → IsPrefix (events (alone m) env moves n) (events_loaded w env moves ((most + 8) * (n + 1))) × IsPrefix (events_loaded w env moves n) (events (alone m) env moves n)
    shows n =
        let s = seen n in
        let count : (most + 3) * n + (5 * n + most + 8) ≡ (most + 8) * (n + 1) = grind arith in
        let more = more_events (tick_loader w) ((most + 3) * n) (5 * n + most + 8) (fresh_loader env w moves) in
        let all = prefix_trans (record { rest = s.0.0; is = s.0.1 }) more in
        (subst (λ k. IsPrefix (events (alone m) env moves n) (events_loaded w env moves k)) count (is_prefix all), s.1)

  pub behaves : EachCallAnswered → (moves : List Move) (n : ℕ) → IsPrefix (events (alone m) env moves n) (events_loaded w env moves ((most + 8) * (n + 1))) × IsPrefix (events_loaded w env moves n) (events (alone m) env moves n)
  behaves calls moves n = shows calls moves n
