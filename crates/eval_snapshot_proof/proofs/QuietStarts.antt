-- A quiet instantiation and start correspond to those of the machine, for the module itself, in
-- each environment that links it.
use Rattle.base_lists.proofs.Common.{◌≡◌, ◌∙◌, sym, ap, ap₂, subst, refl, ◌≤◌, List, [], ◌∷◌, ◌++◌, append-nil, false, Some, arith, IsTrue, same_Some, and_then_is, is_some_there, append_rel}
use Rattle.wasm_tree_spec.specs.Prelude.{Functions, Module}
use Rattle.wasm_tree.specs.declared.module.Func as tree
use Rattle.wasm_valid.specs.Prelude.{IsValid}
use Rattle.wasm_meaning.specs.Prelude.{Inst, Store, Environment, Begun, alone, begun, insts_from, instantiate, joined_stores, links, own_store, part_store, segments, start_in, stores_from}
use Rattle.run_simulation.specs.Prelude.{Pairing, Unknowns, ListRel, OneToOneWhereWritten, nil, passed, StoreRelOff, StepsAgreeOff, RunsAgreeOff}
use Rattle.index_remap_proof.specs.Indices.{TreeNamesOnly, with_entry}
use Rattle.world_simulation.specs.Prelude.{one, WhatIsInstantiated, IsInst}
use Rattle.eval_spec.specs.declared.limits.TheConstants.{MOST_TURNS}
use Rattle.eval_spec.specs.Prelude.{State, Stage, Finished, after_start, instantiated, own_inst, called_in_order, evaluated}
use Rattle.eval_proof.specs.KnownQuietSteps.{FuncsOf, QuietCallsAreKnown}
use Rattle.eval_proof.specs.UnrelatedPlaces.{LeavesAlone}
use Rattle.eval_proof.specs.QuietCalls.{QuietCallsSimulate}
use Rattle.eval_proof.specs.EndsAndCounts.{EndsAreReached}
use Rattle.eval_snapshot_proof.specs.QuietRunAddresses.{EnvironmentStays, StartIsTheMachines, names_at, stands_at}
use Rattle.eval_snapshot_proof.proofs.EnvironmentEntities.{stays_after, stays_alone}
use Rattle.eval_snapshot_proof.proofs.FilledStores.{both_filled}
use Rattle.eval_snapshot_proof.proofs.RelatedCalls.{calls_alike}
use Rattle.eval_snapshot_proof.proofs.NamedIndices.{NamingLaws, each_index, names_there}
use Rattle.eval_snapshot_proof.proofs.InstantiatedStores.{instantiated_first, started, started_func}
use Rattle.eval_snapshot_proof.proofs.AddedFunctions.{with_funcs}
use Rattle.eval_snapshot_proof.proofs.QuietRuns.{start_first, start_of}
use Rattle.eval_snapshot_proof.proofs.IndexRelation.{apart, relates}
use Rattle.eval_snapshot_proof.proofs.RowsOfAddresses.{rows}

module _ (naming : NamingLaws) (env : Environment) (m : Module) (names : TreeNamesOnly (with_entry (each_index m)) m) (s : State) (quiet : instantiated m MOST_TURNS ≡ Finished s) where
  abbrev R : Inst → Pairing
  R i = passed (stands_at m i) (names_at m i) []

  -- Both stores after the segments are copied, and both start functions.
  record Filled (w : Module) (i : Inst) (there : Store) : Type 0 where
    pub store : Store
    pub filled : segments env (one w) (i ∷ []) (joined_stores (own_store env) there) ≡ record { store = store; trapped = false }
    pub related : StoreRelOff (R i) s.unknown s.store store
    pub funcs : FuncsOf (own_inst m) s.store.funcs
    pub turns : s.turns ≤ MOST_TURNS
    pub stays : EnvironmentStays env (own_store env) store
    pub all : (u : Unknowns) (r t : Store) → LeavesAlone (R i) u r t → EnvironmentStays env r t
    pub apart : OneToOneWhereWritten (R i)
    pub starts : ListRel ((R i).of Functions) (start_of m.start) (start_in i m.start ++ [])

  abbrev FilledIn : Module → Type 0
  FilledIn w = (i : Inst) → IsInst env (one w) 0 w i → (there : Store) → part_store env (one w) (i ∷ []) 0 w i ≡ Some there → Filled w i there

  with_none : FilledIn (with_funcs m [])
  with_none i is there made =
      let both = both_filled env m [] i is (apart m i (rows env m [] i is)) naming names there made MOST_TURNS s quiet in
      let left = both.left in
      record {
        store = both.store;
        filled = both.filled;
        related = both.related;
        funcs = both.funcs;
        turns = omega (arith, left);
        stays = both.stays;
        all = stays_alone env m [] i is;
        apart = apart m i (rows env m [] i is);
        starts = started m names env [] i is m.start (started_func m names);
      }

  -- The module with no additional functions is the module itself.
  itself : FilledIn m
  itself = subst FilledIn (ap (λ (fs : List tree.Func). record m { funcs = fs }) (append-nil m.funcs)) with_none

  -- The quiet run and the module in the environment are both instantiated, with related stores and
  -- starts.
  pub record BothStarted : Type 0 where
    pub begun : Begun
    pub is_begun : instantiate env (alone m) ≡ Some begun
    pub untrapped : begun.trapped ≡ false
    pub inst : Inst
    pub is_inst : insts_from env (one m) 0 (one m) ≡ Some (inst ∷ [])
    pub related : StoreRelOff (R inst) s.unknown s.store begun.store
    pub funcs : FuncsOf (own_inst m) s.store.funcs
    pub turns : s.turns ≤ MOST_TURNS
    pub stays : EnvironmentStays env (own_store env) begun.store
    pub all : (u : Unknowns) (r t : Store) → LeavesAlone (R inst) u r t → EnvironmentStays env r t
    pub apart : OneToOneWhereWritten (R inst)
    pub starts : ListRel ((R inst).of Functions) (start_of m.start) begun.starts

  pub both_started : WhatIsInstantiated → IsTrue (links env (alone m)) → BothStarted
  both_started is_made linked =
      let o = is_some_there (instantiate env (alone m)) linked in
      let x = is_made env (alone m) o.0 o.1 in
      let i : (i : Inst) × (x.insts ≡ i ∷ []) × IsInst env (one m) 0 m i = search (arith, x.are_insts) in
      let first : stores_from env (one m) (i.0 ∷ []) (own_store env) 0 (one m) (i.0 ∷ []) ≡ Some x.allocated =
      subst (λ is. stores_from env (one m) is (own_store env) 0 (one m) is ≡ Some x.allocated) i.1 x.is_allocated in
      let p = and_then_is (part_store env (one m) (i.0 ∷ []) 0 m i.0) _ x.allocated first in
      let f = itself i.0 i.2 p.0 p.1 in
      let allocated : x.allocated ≡ joined_stores (own_store env) p.0 = sym (same_Some _ _ p.2) in
      record {
        begun = begun env (alone m) (i.0 ∷ []) x.view (record { store = f.store; trapped = false });
        is_begun = o.1 ∙ ap Some (sym x.is ∙ ap₂ (λ is z. begun env (alone m) is x.view (segments env (one m) is z)) i.1 allocated ∙ ap (begun env (alone m) (i.0 ∷ []) x.view) f.filled);
        untrapped = refl;
        inst = i.0;
        is_inst = x.are_insts ∙ ap Some i.1;
        related = f.related;
        funcs = f.funcs;
        turns = f.turns;
        stays = f.stays;
        all = f.all;
        apart = f.apart;
        starts = f.starts;
      }

module _ (known : QuietCallsAreKnown) (lead : QuietCallsSimulate) (agree : StepsAgreeOff) (runs : RunsAgreeOff) (reached : EndsAreReached) (naming : NamingLaws)
    (env : Environment) (m : Module) (t : State) where
  -- The start ends in both.
  start_run : (names : TreeNamesOnly (with_entry (each_index m)) m) (s : State) (quiet : instantiated m MOST_TURNS ≡ Finished s) → BothStarted naming env m names s quiet →
      evaluated m [] ≡ Finished t → StartIsTheMachines env m t
  start_run names s quiet b e =
      let in_order : called_in_order m (Finished s) (start_of m.start ++ []) ≡ Finished t =
      sym (start_first m s m.start []) ∙ ap (λ (c : Stage). called_in_order m (after_start m c m.start) []) (sym quiet) ∙ e in
      let r = (calls_alike known lead agree runs reached m (stands_at m b.inst) (names_at m b.inst) (relates m b.inst) b.apart
      (start_of m.start ++ []) (b.begun.starts ++ []) (append_rel b.starts nil) s t b.begun.store b.funcs b.turns b.related in_order).ends in
      record {
        begun = record b.begun { store = r.after; starts = [] };
        is_begun = rw (b.is_begun, r.ends) refl;
        untrapped = b.untrapped;
        inst = b.inst;
        is_inst = b.is_inst;
        related = r.related;
        stays = stays_after env (own_store env) b.begun.store r.after b.stays (b.all t.unknown b.begun.store r.after r.alone);
      }

  pub start_is : WhatIsInstantiated → IsValid m → evaluated m [] ≡ Finished t → IsTrue (links env (alone m)) → StartIsTheMachines env m t
  start_is is_made valid e linked =
      let names = names_there naming m valid in
      let s = instantiated_first m (instantiated m MOST_TURNS) m.start [] t e in
      start_run names s.0 s.1 (both_started naming env m names s.0 s.1 is_made linked) e
