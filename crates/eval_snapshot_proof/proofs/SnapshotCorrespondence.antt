-- The store and view after the first step of a module with evaluated constructors correspond to
-- those after the instantiation of its snapshot, in each environment that links the module.
use Rattle.base_lists.proofs.Common.{◌≡◌, ◌∙◌, sym, ap, refl, subst, ℕ, List, [], ◌∷◌, ◌++◌, true, false, slice_get, Some, option_and_then, same_Some, and_then_is, all_rel, opt_at, opt_both, right_there}
use Rattle.wasm_tree_spec.specs.Prelude.{Functions, GlobalDef, Module}
use Rattle.wasm_valid.specs.Prelude.{IsValid, ItemsHold}
use Rattle.wasm_meaning.specs.Prelude.{Text, Inst, Val, Store, StepsWriteWhatTheyTouch, sites, Environment, ExternalValue, all_of, Begun, all_there, alone, begun, inst_of, insts_from, instantiate, is_matched, joined_stores, own_store, part_store, seen_as, segments, start_in, stores_from, value_of}
use Rattle.run_simulation.specs.Prelude.{Pairing, some, ListRel, nil, cons, opening, StoreRel, BegunRel, KeyRel, EntryByEntry, StoreRelOff, StepsAgreeOff, RunsAgreeOff}
use Rattle.index_remap_proof.specs.Indices.{TreeNamesOnly, with_entry}
use Rattle.world_simulation.specs.Prelude.{DeclaringSegmentsAreAllocated, WhatIsInstantiated, one, IsInstantiated, IsInst}
use Rattle.world_simulation.specs.InstantiatedStores.{Leaves, WorldsOfOneModuleLeave}
use Rattle.world_simulation.proofs.EnvironmentEntities.{owned_rel}
use Rattle.eval_spec.specs.declared.limits.TheConstants.{MOST_TURNS}
use Rattle.eval_snapshot_proof.specs.Ranges.{GlobalsAreExpressible}
use Rattle.eval_spec.specs.Prelude.{State, imported_store, own_inst, value_in, memory_bytes}
use Rattle.eval_proof.specs.KnownQuietSteps.{QuietCallsAreKnown}
use Rattle.eval_proof.specs.EndsAndCounts.{EndsAreReached}
use Rattle.eval_proof.specs.QuietCalls.{QuietCallsSimulate}
use Rattle.eval_proof.specs.QuietInstantiations.{InstantiatedAs, InstantiationsAreTheMachines}
use Rattle.eval_snapshot_spec.specs.After.{IsAfter}
use Rattle.eval_snapshot_spec.specs.Evaluated.{funcs_named}
use Rattle.eval_snapshot_spec.specs.Snapshot.{snapshot}
use Rattle.eval_snapshot_proof.specs.EvaluatedWorlds.{all_called, evaluated_from, evaluated_world, with_empty_func}
use Rattle.eval_snapshot_proof.proofs.RelatedInstances.{SnapshotLaws, R, enough}
use Rattle.eval_snapshot_proof.proofs.NamedIndices.{NamingLaws, each_index, names_there}
use Rattle.eval_snapshot_proof.proofs.RelatedDataCopies.{AreBytesOf}
use Rattle.eval_snapshot_proof.proofs.KnownGlobals.{Run}
use Rattle.world_simulation.specs.SegmentCopies.{OwnSegmentsLeave, OwnSegmentsRunAsCopies, SegmentsAloneRunAsCopies}
use Rattle.eval_snapshot_proof.proofs.QuietInstantiations.{quiet_leaves}
use Rattle.eval_snapshot_proof.proofs.QuietRuns.{BothInstantiated, QuietRun, quiet_run}
use Rattle.eval_snapshot_proof.proofs.QuietSegments.{IsQuietlyMade, memory_count, quietly_made}
use Rattle.eval_snapshot_proof.proofs.EqualTraces.{BeginAlike}
use Rattle.eval_snapshot_proof.proofs.SharedAddresses.{apart, shared, shares_own}
use Rattle.eval_snapshot_proof.proofs.SnapshotInstantiation.{untrapped}
use Rattle.eval_snapshot_proof.proofs.SnapshotParts.{shape, bound}
use Rattle.eval_snapshot_proof.proofs.SnapshotAllocation.{second_inst, second_matched, second_store, views_alike}
use Rattle.eval_snapshot_proof.proofs.UnchangedParts.{Steady, steady_run}
use Rattle.eval_snapshot_proof.proofs.RelatedGlobals.{inits_there}
use Rattle.eval_snapshot_proof.proofs.RelatedMemories.{are_bytes}
use Rattle.eval_snapshot_proof.proofs.RelatedStores.{stores_alike}

-- The laws of other crates that the lemmas below use.
pub record Laws : Type 0 where
  pub known : QuietCallsAreKnown
  pub lead : QuietCallsSimulate
  pub agree : StepsAgreeOff
  pub runs : RunsAgreeOff
  pub reached : EndsAreReached
  pub machines : InstantiationsAreTheMachines
  pub writes : StepsWriteWhatTheyTouch
  pub code : SnapshotLaws
  pub items : (m : Module) → IsValid m → ItemsHold m
  pub naming : NamingLaws
  pub run_own : OwnSegmentsRunAsCopies
  pub run_alone : SegmentsAloneRunAsCopies
  pub leave : OwnSegmentsLeave
  pub worlds_leave : WorldsOfOneModuleLeave
  pub declared : DeclaringSegmentsAreAllocated
  pub made : WhatIsInstantiated

same_inst : (i j : Inst) → i ∷ [] ≡ j ∷ [] → i ≡ j
same_inst i j e = let f = e in cc

module _ (laws : Laws) (env : Environment) (m : Module) (s : State) (name : Text) (names kept : List Text) (valid : IsValid m) (after : IsAfter m (name ∷ names) s)
    (b : BothInstantiated env m (name ∷ names) kept) (fit : GlobalsAreExpressible after.end.store) where
  abbrev first : Module
  first = with_empty_func m

  abbrev second : Module
  second = snapshot m s (name ∷ names) kept

  abbrev i : Inst
  i = b.inst

  abbrev Q : Pairing
  Q = R env m s name names kept

  named : TreeNamesOnly (with_entry (each_index m)) m
  named = names_there laws.naming m valid

  -- ---- the quiet run and the machine's ----

  run : QuietRun laws.known laws.lead laws.agree laws.runs laws.reached env m (name ∷ names) kept after.end b
  run = quiet_run laws.known laws.lead laws.agree laws.runs laws.reached env m (name ∷ names) kept after.end b after.quiet

  made : IsQuietlyMade m
  made = quietly_made m MOST_TURNS b.quiet b.is_quiet

  quietly : InstantiatedAs m b.quiet
  quietly = laws.machines m MOST_TURNS b.quiet b.is_quiet

  quiet : Leaves (value_in m) m (own_inst m) (imported_store m) b.quiet.store
  quiet = quiet_leaves laws.leave m b.quiet quietly

  steady : Steady b.quiet.store after.end.store
  steady = steady_run laws.writes m b.quiet after.end (funcs_named m (name ∷ names)) b.is_quiet after.quiet

  are : AreBytesOf m (memory_bytes m s)
  are = are_bytes m s after.end b.quiet quiet steady after.told (memory_count m laws.run_own b.quiet quietly) (laws.items m valid)

  left : Leaves (value_of env (one first) (i ∷ []) 0) first i (own_store env) b.begun.store
  left =
      let x = laws.worlds_leave env first (evaluated_world m (name ∷ names) kept).view b.begun b.is_begun b.untrapped in
      subst (λ k. Leaves (value_of env (one first) (k ∷ []) 0) first k (own_store env) b.begun.store) (same_inst x.0 i (same_Some _ _ (sym x.1 ∙ b.is_inst))) x.2

  related : StoreRelOff (Run m i) after.end.unknown after.end.store run.machines.begun.store
  related = subst (λ k. StoreRelOff (Run m k) after.end.unknown after.end.store run.machines.begun.store)
      (same_inst run.machines.inst i (same_Some _ _ (sym run.machines.is_inst ∙ b.is_inst))) run.machines.related

  -- The result of the machine's first step is that of the instantiation, except for the store, and
  -- without start functions.
  machines_begun : record b.begun { store = run.machines.begun.store; starts = [] } ≡ run.machines.begun
  machines_begun =
      let from : evaluated_from b.begun b.addresses ≡ Some run.machines.begun = sym (rw (b.is_begun, b.are_addresses) refl) ∙ run.machines.is_begun in
      let x = and_then_is (all_called b.begun.store (b.begun.starts ++ b.addresses)) _ run.machines.begun from in
      let same : record b.begun { store = x.0; starts = [] } ≡ run.machines.begun = same_Some _ _ x.2 in
      ap (λ (y : Begun). record b.begun { store = y.store; starts = [] }) (sym same) ∙ same

  -- ---- the snapshot's own instantiation ----

  module _ (j : Inst) (j_is : inst_of env (one second) 0 second ≡ Some j) (c : IsInst env (one second) 0 second j) where
    x : IsInstantiated env (evaluated_world m (name ∷ names) kept) b.begun
    x = laws.made env (evaluated_world m (name ∷ names) kept) b.begun b.is_begun

    insts_are : x.insts ≡ i ∷ []
    insts_are = same_Some _ _ (sym x.are_insts ∙ b.is_inst)

    added : (z : Store) × (part_store env (one first) (i ∷ []) 0 first i ≡ Some z) × (joined_stores (own_store env) z ≡ x.allocated)
    added =
        let y = and_then_is (part_store env (one first) (i ∷ []) 0 first i) _ x.allocated (ap (λ is. stores_from env (one first) is (own_store env) 0 (one first) is) (sym insts_are)
        ∙ x.is_allocated) in
        (y.0, y.1, same_Some _ _ y.2)

    inits : (n : ℕ) (g : GlobalDef) → slice_get second.globals n ≡ Some g → (w : Val) × (value_of env (one second) (j ∷ []) 0 g.init ≡ Some w)
    inits = inits_there laws.code.constants env m s name names kept i j b.shape c named b.begun.store run.machines.begun.store b.quiet after.end left quiet steady related run.alone after.told fit laws.code.globals

    stored : (z : Store) × (part_store env (one second) (j ∷ []) 0 second j ≡ Some z)
    stored = second_store env m s name names kept i b.shape j c named added.0 added.1 inits laws.code.constants laws.declared

    matched : all_of (is_matched env (one second) (joined_stores (own_store env) stored.0)) (sites (one second)) ≡ true
    matched = second_matched env m s name names kept i b.shape j c named added.0 added.1 inits stored.0 stored.1
        (subst (λ z. all_of (is_matched env (one first) z) (sites (one first)) ≡ true) (sym added.2) x.matched)

    viewed : (w : List (Text × ExternalValue)) × (all_there (seen_as (j ∷ [])) (alone second).view ≡ Some w) × ListRel (KeyRel Q) x.view w
    viewed =
        let views = all_rel (views_alike env m s name names kept i b.shape j c named) in
        let is = ap (λ is. all_there (seen_as is) (evaluated_world m (name ∷ names) kept).view) (sym insts_are) ∙ x.is_view in
        let w = right_there views is in
        (w.0, w.1, opt_both views is w.1)

    abbrev now : Begun
    now = begun env (alone second) (j ∷ []) viewed.0 (segments env (one second) (j ∷ []) (joined_stores (own_store env) stored.0))

    instantiated_is : instantiate env (alone second) ≡ Some now
    instantiated_is =
        let insts : insts_from env (one second) 0 (one second) ≡ Some (j ∷ []) = ap (option_and_then (λ i. option_and_then (λ is. Some (i ∷ is)) (Some []))) j_is in
        let stores : stores_from env (one second) (j ∷ []) (own_store env) 0 (one second) (j ∷ []) ≡ Some (joined_stores (own_store env) stored.0) = rw (stored.1) refl in
        rw (insts, stores, viewed.1, matched) refl

    good : now.trapped ≡ false
    good = untrapped laws.code.constants env m s name names kept i j b.shape c made named are b.begun.store left stored.0 stored.1 laws.run_alone

    right : Leaves (value_of env (one second) (j ∷ []) 0) second j (own_store env) now.store
    right =
        let y = laws.worlds_leave env second (alone second).view now instantiated_is good in
        let insts : insts_from env (one second) 0 (one second) ≡ Some (j ∷ []) = ap (option_and_then (λ i. option_and_then (λ is. Some (i ∷ is)) (Some []))) j_is in
        subst (λ k. Leaves (value_of env (one second) (k ∷ []) 0) second k (own_store env) now.store) (same_inst y.0 j (same_Some _ _ (sym y.1 ∙ insts))) y.2

    stores : StoreRel Q run.machines.begun.store now.store
    stores = stores_alike env m s name names kept i j b.shape c made named are b.begun.store run.machines.begun.store now.store b.quiet after.end left right quiet steady related run.alone
        after.told laws.code fit

    no_starts : now.starts ≡ []
    no_starts = ap (λ o. start_in j o ++ []) (shape m s name names kept).start

    begun_alike : BegunRel Q (EntryByEntry Q) (record b.begun { store = run.machines.begun.store; starts = [] }) now
    begun_alike = record {
      store = stores;
      entries = cons (opening (subst (λ xs. ListRel (Q.of Functions) [] xs) (sym no_starts) nil)) nil;
      closed = nil;
      trapped = b.untrapped ∙ sym good;
      view = subst (λ w. ListRel (KeyRel Q) w now.view) (ap (λ (y : Begun). y.view) x.is) viewed.2;
      owned = subst (λ w. ListRel (KeyRel Q) w now.owned) (ap (λ (y : Begun). y.owned) x.is) (owned_rel Q env (shares_own (bound m s name names kept env) env (enough env m s name names kept)));
    }

    alike : BeginAlike env m (name ∷ names) kept (snapshot m s (name ∷ names) kept)
    alike = record {
      of = shared (bound m s name names kept env);
      apart = apart (bound m s name names kept env);
      begun = opt_at run.machines.is_begun instantiated_is (some (subst (λ y. BegunRel Q (EntryByEntry Q) y now) machines_begun begun_alike));
    }

  pub begin_alike : BeginAlike env m (name ∷ names) kept (snapshot m s (name ∷ names) kept)
  begin_alike = let j = second_inst env m s name names kept i b.shape in alike j.0 j.1 j.2
