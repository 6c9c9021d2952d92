-- The whole quiet run as a run of the machine in an environment, from the related stores after both
-- are instantiated.
use Rattle.base_lists.proofs.Common.{◌≡◌, ◌∙◌, sym, ap, refl, ℕ, ◌≤◌, List, [], ◌∷◌, ◌++◌, Option, Some, None, false}
use Rattle.wasm_tree_spec.specs.Prelude.{Functions, Module}
use Rattle.wasm_meaning.specs.Prelude.{Text, Inst, Environment, Begun, insts_from, instantiate, own_store}
use Rattle.run_simulation.specs.Prelude.{ListRel, passed, StoreRelOff, StepsAgreeOff, RunsAgreeOff}
use Rattle.world_simulation.specs.Prelude.{one, IsInst}
use Rattle.eval_spec.specs.declared.limits.TheConstants.{MOST_TURNS}
use Rattle.eval_spec.specs.Prelude.{State, Stage, Finished, after_start, instantiated, own_inst, called_in_order, evaluated}
use Rattle.eval_proof.specs.KnownQuietSteps.{FuncsOf, QuietCallsAreKnown}
use Rattle.eval_proof.specs.UnrelatedPlaces.{LeavesAlone}
use Rattle.eval_proof.specs.QuietCalls.{QuietCallsSimulate}
use Rattle.eval_proof.specs.EndsAndCounts.{EndsAreReached}
use Rattle.eval_snapshot_spec.specs.Evaluated.{funcs_named}
use Rattle.eval_snapshot_spec.specs.Snapshot.{empty_func}
use Rattle.eval_snapshot_proof.specs.EvaluatedWorlds.{addresses_of, evaluated_world, with_empty_func}
use Rattle.eval_snapshot_proof.specs.QuietRunAddresses.{EnvironmentStays, IsTheMachines, names_at, stands_at}
use Rattle.eval_snapshot_proof.proofs.EnvironmentEntities.{stays_after, stays_alone}
use Rattle.eval_snapshot_proof.proofs.RelatedCalls.{calls_alike}
use Rattle.eval_snapshot_proof.proofs.IndexRelation.{apart, relates}
use Rattle.eval_snapshot_proof.proofs.RowsOfAddresses.{rows}

-- The index of the start function as a list, which is empty if there is no start.
abbrev pub start_of : Option ℕ → List ℕ
start_of None = []
start_of (Some func) = func ∷ []

pub start_first : (m : Module) (s : State) (o : Option ℕ) (ns : List ℕ) → called_in_order m (after_start m (Finished s) o) ns ≡ called_in_order m (Finished s) (start_of o ++ ns)
start_first m s None ns = refl
start_first m s (Some func) ns = refl

-- The quiet run in its own store and the world in the environment are both instantiated: the stores
-- are related, and so are the indices and the addresses of the functions to be called.
pub record BothInstantiated (env : Environment) (m : Module) (constructors kept : List Text) : Type 0 where
  pub begun : Begun
  pub is_begun : instantiate env (evaluated_world m constructors kept) ≡ Some begun
  pub untrapped : begun.trapped ≡ false
  pub inst : Inst
  pub is_inst : insts_from env (one (with_empty_func m)) 0 (one (with_empty_func m)) ≡ Some (inst ∷ [])
  pub shape : IsInst env (one (with_empty_func m)) 0 (with_empty_func m) inst
  pub addresses : List ℕ
  pub are_addresses : addresses_of env (with_empty_func m) (funcs_named m constructors) ≡ Some addresses
  pub quiet : State
  pub is_quiet : instantiated m MOST_TURNS ≡ Finished quiet
  pub turns : quiet.turns ≤ MOST_TURNS
  pub stays : EnvironmentStays env (own_store env) begun.store
  pub funcs : FuncsOf (own_inst m) quiet.store.funcs
  pub related : StoreRelOff (passed (stands_at m inst) (names_at m inst) []) quiet.unknown quiet.store begun.store
  pub called : ListRel ((passed (stands_at m inst) (names_at m inst) []).of Functions) (start_of m.start ++ funcs_named m constructors) (begun.starts ++ addresses)

module _ (known : QuietCallsAreKnown) (lead : QuietCallsSimulate) (agree : StepsAgreeOff) (runs : RunsAgreeOff) (reached : EndsAreReached) (env : Environment) (m : Module) (constructors kept : List Text) (t : State) where
  -- The calls end in both, and the stores that they leave are related. In the store of the machine,
  -- what is not related, and what is still unknown, is unchanged.
  pub record QuietRun (b : BothInstantiated env m constructors kept) : Type 0 where
    pub machines : IsTheMachines env m constructors kept t
    pub alone : LeavesAlone (passed (stands_at m b.inst) (names_at m b.inst) []) t.unknown b.begun.store machines.begun.store

  pub quiet_run : (b : BothInstantiated env m constructors kept) → evaluated m (funcs_named m constructors) ≡ Finished t → QuietRun b
  quiet_run b e =
      let ns = funcs_named m constructors in
      let in_order : called_in_order m (Finished b.quiet) (start_of m.start ++ ns) ≡ Finished t = sym (start_first m b.quiet m.start ns) ∙ ap (λ (c : Stage). called_in_order m (after_start m c m.start) ns) (sym b.is_quiet) ∙ e in
      let r = (calls_alike known lead agree runs reached m (stands_at m b.inst) (names_at m b.inst) (relates m b.inst) (apart m b.inst (rows env m (empty_func m ∷ []) b.inst b.shape))
      (start_of m.start ++ ns) (b.begun.starts ++ b.addresses) b.called b.quiet t b.begun.store b.funcs b.turns b.related in_order).ends in
      record {
        machines = record {
          begun = record b.begun { store = r.after; starts = [] };
          is_begun = rw (b.is_begun, b.are_addresses, r.ends) refl;
          untrapped = b.untrapped;
          inst = b.inst;
          is_inst = b.is_inst;
          related = r.related;
          stays = stays_after env (own_store env) b.begun.store r.after b.stays (stays_alone env m (empty_func m ∷ []) b.inst b.shape t.unknown b.begun.store r.after r.alone);
        };
        alone = r.alone;
      }
