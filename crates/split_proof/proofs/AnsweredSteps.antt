-- Steps that begin no call of a moved function are answered, and so are steps in which both runs
-- fail.
use Rattle.base_lists.proofs.Common.{◌≡◌, ◌∙◌, refl, ap, sym, subst, ℕ, zero, suc, List, [], ◌∷◌, false, arith, slice_get}
use Rattle.std.specs.List.{cons_option}
use Rattle.base_simulation.specs.Machines.{state_after}
use Rattle.wasm_tree_spec.specs.Prelude.{Module}
use Rattle.wasm_meaning.specs.Prelude.{Entry, Inst, Running, Store, Environment, LoaderRun, LoaderWorld, tick_loader, Phase, Run, tick, transition}
use Rattle.run_simulation.specs.Prelude.{OneToOne, Pairing, IsBegun, PhaseRel, closed, fresh, opened, pending, EntriesKnown, TickSkips, calls_placeholder, AnsweredInTwo}
use Rattle.run_simulation.specs.Trampolines.{PassingFramesStutter}
use Rattle.run_simulation.proofs.KnownNames.{top_known}
use Rattle.world_simulation.specs.StoreExtension.{LoadersExtend, StepsExtend}
use Rattle.world_simulation.specs.FailedRuns.{RunsThatAreOverStaySo}
use Rattle.world_simulation.specs.TypedInstances.{InstancesStayTyped, IsTyped}
use Rattle.world_simulation.specs.LoaderSteps.{GoesAsItsRun, LoadersGoAsTheirRun}
use Rattle.split_proof.specs.Addresses.{is_partner, may_stand, moved_addresses, slot_table_address, split_pairing}
use Rattle.split_proof.specs.AnsweringSteps.{StepAnswered}
use Rattle.split_proof.specs.SplitInstantiation.{RunsRelated}
use Rattle.split_proof.specs.MovedCalls.{NoCallBegins, ReplacementCode, EntersInBoth, EveryStepCallsMovedTogether, StepsCallMovedTogether, enters, instead, skips, wrong}
use Rattle.split_proof.specs.CorrespondingStates.{Corresponds}
use Rattle.split_proof.proofs.EnteredFunctions.{funcs_stay}
use Rattle.split_proof.proofs.StoresAfterLoads.{slot_table_alone}
use Rattle.split_proof.proofs.StoresWithoutPlaceholders.{no_placeholder_called}

-- The laws that the lemmas of this file assume.
pub record StepLaws : Type 0 where
  pub between : PassingFramesStutter
  pub runs : LoadersGoAsTheirRun
  pub loaders : LoadersExtend
  pub steps : StepsExtend
  pub stays : InstancesStayTyped
  pub over : RunsThatAreOverStaySo
  pub ways : EveryStepCallsMovedTogether

phase_begun : {R : Pairing} {B : _} {p o : Phase} → PhaseRel R B p o → IsBegun p → IsBegun o
phase_begun (fresh b) h = h
phase_begun (pending v) h = tt
phase_begun opened h = tt
phase_begun closed h = tt

module _ (laws : StepLaws) (env : Environment) (m : Module) (moved : List ℕ) (w : LoaderWorld) (apart : (loaded : List (ℕ × ℕ)) → OneToOne (split_pairing env m moved loaded)) (loaded : List (ℕ × ℕ)) where
  abbrev S : Pairing
  S = split_pairing env m moved loaded

  known : (es fs : List Entry) → EntriesKnown S es fs
  known (Running f ∷ es) (Running g ∷ fs) = top_known S (λ space a b related. related) f.inst g.inst f.levels g.levels
  known _ _ = tt

  -- A step of related runs that begins no call of a moved function and calls no placeholder.
  pub in_two : (r q : Run) → RunsRelated S r q → TickSkips S r r.entries → AnsweredInTwo S r q
  in_two r q h free = laws.between (is_partner env m moved) (is_partner env m moved) (moved_addresses env m moved) (may_stand env m moved loaded) (apart loaded) r q h free (known r.entries q.entries)

  pub goes : (r : Run) (q : LoaderRun) (a : AnsweredInTwo S r q.run) → calls_placeholder (transition r) ≡ false → GoesAsItsRun w q (suc a.further)
  goes r q a plain = laws.runs w q (suc a.further) (λ k lt. a.plain plain k (omega (arith, lt)))

module _ (laws : StepLaws) (env : Environment) (m : Module) (moved : List ℕ) (w : LoaderWorld) (first second : Inst) (apart : (loaded : List (ℕ × ℕ)) → OneToOne (split_pairing env m moved loaded)) (most : ℕ) where
  -- The instance of the primary module stays well typed.
  typed_after : (n : ℕ) (q : LoaderRun) → IsBegun q.run.phase → IsTyped w.primary second q.run.store → IsTyped w.primary second (state_after (tick_loader w) q n).run.store
  typed_after zero q begun typed = typed
  typed_after (suc n) q begun typed =
      let k = laws.loaders w q begun in typed_after n (tick_loader w q).0 k.begun (laws.stays w.primary second q.run.store (tick_loader w q).0.run.store k.store typed)

  module _ (loaded : List (ℕ × ℕ)) where
    abbrev R : Pairing
    R = split_pairing env m moved loaded

    module _ (r : Run) (q : LoaderRun) (h : Corresponds env m moved w first second loaded r q) where
      pub second_begun : IsBegun q.run.phase
      second_begun = phase_begun h.related.phase h.begun

      answered_skips : TickSkips R r r.entries → StepAnswered env m moved w first second most r q
      answered_skips free =
          let a = in_two laws env m moved w apart loaded r q.run h.related free in
          let g = goes laws env m moved w apart loaded r q a (no_placeholder_called r.store h.funcs.plain r refl) in
          let few = a.bound in
          let one = a.first h.begun in
          let two = a.second h.begun in
          record {
            further = a.further;
            bound = omega (arith, few);
            shown = g.shown ∙ a.shown;
            loaded = loaded;
            next = subst (Corresponds env m moved w first second loaded (tick r).0) (sym g.state) (record {
              related = a.run;
              begun = (laws.steps r h.begun).begun h.begun;
              inst = h.inst;
              typed = subst (λ (x : LoaderRun). IsTyped w.primary second x.run.store) g.state (typed_after (suc a.further) q second_begun h.typed);
              funcs = funcs_stay env m moved w first second loaded h.funcs one.funcs two.funcs (two.tables (slot_table_address env m) (slot_table_alone env m moved)) refl;
            });
          }

      answered_wrong : NoCallBegins R r q.run → StepAnswered env m moved w first second most r q
      answered_wrong b =
          let g = laws.runs w q 1 (λ k lt. let z : 0 ≡ k = omega (arith, lt) in subst (λ k. calls_placeholder (transition (state_after tick q.run k)) ≡ false) z b.plain) in
          record {
            further = 0;
            bound = omega arith;
            shown = g.shown ∙ ap (λ e. cons_option e []) (sym b.event);
            loaded = loaded;
            next = subst (Corresponds env m moved w first second loaded (tick r).0) (sym g.state) (record {
              related = b.runs;
              begun = (laws.steps r h.begun).begun h.begun;
              inst = h.inst;
              typed = subst (λ (s : Store). IsTyped w.primary second s) (sym b.second_store) h.typed;
              funcs = funcs_stay env m moved w first second loaded h.funcs (ap (λ (s : Store). s.funcs) b.first_store) (ap (λ (s : Store). s.funcs) b.second_store) (ap (λ (s : Store). slice_get s.tables (slot_table_address env m)) b.second_store) refl;
            });
          }

  -- ---- any step ----

  -- The two cases in which a call of a moved function begins.
  pub record CallsAnswered : Type 0 where
    pub enters : (loaded : List (ℕ × ℕ)) (r : Run) (q : LoaderRun) → Corresponds env m moved w first second loaded r q → EntersInBoth (split_pairing env m moved loaded) r q.run → StepAnswered env m moved w first second most r q
    pub instead : (loaded : List (ℕ × ℕ)) (r : Run) (q : LoaderRun) → Corresponds env m moved w first second loaded r q → ReplacementCode (split_pairing env m moved loaded) r q.run → StepAnswered env m moved w first second most r q

  pub answered : CallsAnswered → (loaded : List (ℕ × ℕ)) (r : Run) (q : LoaderRun) → Corresponds env m moved w first second loaded r q → StepAnswered env m moved w first second most r q
  answered calls loaded r q h = by (laws.ways (is_partner env m moved) (moved_addresses env m moved) (may_stand env m moved loaded) (apart loaded) r q.run h.begun h.related)
    where
      by : StepsCallMovedTogether (split_pairing env m moved loaded) r q.run → StepAnswered env m moved w first second most r q
      by (skips free) = answered_skips loaded r q h free
      by (enters e) = calls.enters loaded r q h e
      by (instead e) = calls.instead loaded r q h e
      by (wrong b) = answered_wrong loaded r q h b
