-- Each secondary module can be loaded wherever a run of a split module under its loader asks for
-- it: the instance of the primary module stays well typed after its instantiation.
use Rattle.base_lists.proofs.Common.{◌≡◌, ◌∙◌, ap, sym, subst, refl, ℕ, zero, suc, ◌^◌, ◌<◌, List, [], ◌∷◌, length, Option, Some, None, Bool, true, false, cond, arith, same_Some, and_then_is}
use Rattle.base_lists.specs.Options.{◌>>=◌, all_there}
use Rattle.wasm_tree_spec.specs.Prelude.{Module, IsBounded}
use Rattle.wasm_valid.specs.Prelude.{IsValid, ValidWhereItemsHold}
use Rattle.base_simulation.specs.Machines.{state_after}
use Rattle.wasm_meaning.specs.Prelude.{Gives, Inst, Store, Opening, CallsPlaceholder, Environment, Begun, address_in, Added, added, Move, InstanceTrapped, Out, Steps, Makes, Pending, Closed, began, fresh_run, LoaderWorld, LoaderRun, secondary_of, store_under, supplied, primary_added, begun_of}
use Rattle.wasm_meaning.specs.Prelude.{loader_made, tick_loader, fresh_loader}
use Rattle.run_simulation.specs.Prelude.{IsBegun}
use Rattle.world_simulation.specs.InstantiatedStores.{AddedModulesLeave}
use Rattle.world_simulation.specs.StoreExtension.{CallsExtend, LoadersExtend}
use Rattle.world_simulation.specs.TypedInstances.{IsTyped, AddedModulesAreTyped, InstancesStayTyped}
use Rattle.world_simulation.specs.FailedRuns.{IsOver, RunsThatAreOverStaySo}
use Rattle.world_simulation.specs.StoreExtension.{ExtensionsKeepWhatIsThere}
use Rattle.split_spec.specs.declared.names.SplitNames.{SplitNames}
use Rattle.split_spec.specs.Prelude.{prefix_taken, primary_with, secondary_with}
use Rattle.split_proof.specs.Premises.{CanMove}
use Rattle.split_proof.specs.SplitWorlds.{placeholders_for, split_world}
use Rattle.split_proof.specs.Loads.{SecondariesLoad}
use Rattle.split_proof.specs.SplitLaws.{CanBeSplit, CanBeLoaded, LoadsWhereAsked, SecondariesAlwaysLoad}
use Rattle.split_proof.proofs.SecondaryLinking.{it_loads}
use Rattle.split_proof.proofs.SecondaryInstances.{own_can}
use Rattle.split_proof.proofs.SecondarySlots.{owns_slot}
use Rattle.split_proof.proofs.PlaceholderImports.{moved_few}

-- The laws that the lemmas of this file assume.
pub record LoadLaws : Type 0 where
  pub items : ValidWhereItemsHold
  pub primary : (namespace : ℕ → List ℕ) (prefix : List ℕ) (m : Module) (moved : List ℕ) → IsValid m → IsBounded m → CanMove m moved → prefix_taken prefix m moved ≡ None → IsValid (primary_with namespace prefix m moved)
  pub secondary : (names : SplitNames) (m : Module) (moved own : List ℕ) (before : ℕ) → IsValid m → CanMove m own → IsValid (secondary_with names m moved own before)
  pub leave : AddedModulesLeave
  pub typed : AddedModulesAreTyped
  pub stays : InstancesStayTyped
  pub calls : CallsExtend
  pub loaders : LoadersExtend
  pub over : RunsThatAreOverStaySo
  pub kept : ExtensionsKeepWhatIsThere

pub secondaries_load : LoadLaws → SecondariesLoad
secondaries_load laws namespace names m moved own before valid few can small free slots i s typed =
    it_loads namespace names m ((laws.items m).0 valid) moved can ((laws.items (primary_with namespace names.export_prefix m moved)).0 (laws.primary namespace names.export_prefix m moved valid few can free)) own before slots i s typed
    ((laws.items (secondary_with names m moved own before)).0 (laws.secondary names m moved own before valid (own_can m moved own before slots can))) small laws.leave

-- ---- runs ----

module _ (laws : LoadLaws) (namespace : ℕ → List ℕ) (names : SplitNames) (m : Module) (moved : List ℕ) (owns : List (List ℕ)) (g : CanBeSplit namespace names m moved owns) where
  abbrev w : LoaderWorld
  w = split_world namespace names m moved owns

  pub small : length moved < 2 ^ 32
  small = let a = moved_few namespace names m moved owns g ((laws.items m).0 g.valid) in let b = g.bounded.funcs in omega (arith, a, b)

  -- A run after its first step is over, or the instance of the primary module is well typed.
  data Stage (q : LoaderRun) : Type 0 where
    over : IsOver q.run → Stage q
    going : IsBegun q.run.phase → (i : Inst) → q.inst ≡ Some i → IsTyped w.primary i q.run.store → Stage q

  -- A secondary module can be loaded where the instance of the primary module is well typed.
  can_be_loaded : (q : LoaderRun) (i : Inst) → q.inst ≡ Some i → (s : Store) → IsTyped w.primary i s → (slot j : ℕ) → secondary_of w.secondaries slot ≡ Some j → CanBeLoaded w q j s
  can_be_loaded q i is_inst s typed slot j place =
      let x = owns_slot namespace names m moved owns [] 0 (sym g.lists) refl slot j place in
      let l = secondaries_load laws namespace names m moved x.own x.before g.valid g.bounded g.can_move small g.names_free x.slots i s typed in
      record {
        inst = i;
        is_inst = is_inst;
        loads = record { «module» = secondary_with names m moved x.own x.before; placeholders = placeholders_for namespace m x.before x.own };
        is_secondary = x.is;
        added = l.added;
        links = l.links;
        fills = l.fills;
      }

  stage_loads : (q : LoaderRun) → Stage q → LoadsWhereAsked w q
  stage_loads q (over h) r slot vs s es is j place loaded =
      let o = laws.over q.run h in
      let differ : Makes o.0 ≡ Steps r (Gives (CallsPlaceholder slot vs s es)) = sym o.1 ∙ is in
      absurd (let k = differ in cc)
  stage_loads q (going begun i is_inst typed) r slot vs s es is j place loaded =
      can_be_loaded q i is_inst s (laws.stays w.primary i q.run.store s (laws.kept q.run.store s (laws.calls q.run r slot vs s es begun is)) typed) slot j place

  next_stage : (q : LoaderRun) → Stage q → Stage (tick_loader w q).0
  next_stage q (over h) = let o = laws.over q.run h in subst (λ t. Stage (loader_made w q t).0) (sym o.1) (over o.2)
  next_stage q (going begun i is_inst typed) =
      let k = laws.loaders w q begun in
      going k.begun i (k.inst ∙ is_inst) (laws.stays w.primary i q.run.store (tick_loader w q).0.run.store k.store typed)

  later_stage : (n : ℕ) (q : LoaderRun) → Stage q → Stage (state_after (tick_loader w) q n)
  later_stage zero q h = h
  later_stage (suc n) q h = later_stage n (tick_loader w q).0 (next_stage q h)

  module _ (env : Environment) (moves : List Move) where
    -- The first step, by cases of the result of the instantiation.
    begun_stage : (a : Added) → primary_added env w ≡ Some a → (o : Option Begun) → begun_of env w a ≡ o →
        Stage (record { run = (began (fresh_run env o moves) o).0; inst = Some a.inst; loaded = (fresh_loader env w moves).loaded })
    begun_stage a is None h = over (record { phase = refl; entries = refl })
    begun_stage a is (Some b) h = by b.trapped
      where
        typed : IsTyped w.primary a.inst b.store
        typed =
            let things = and_then_is (all_there (supplied env w) w.primary.imports) (added (store_under env w) w.primary) a is in
            let view = and_then_is (all_there (λ v. address_in a.inst v.1 >>= λ x. Some (v.0, x)) w.view) _ b h in
            subst (λ s. IsTyped w.primary a.inst s) (ap (λ (b : Begun). b.store) (same_Some _ _ view.2)) (laws.typed (store_under env w) w.primary things.0 a things.2)

        by : (c : Bool) →
            Stage (record {
              run = (cond {A = Out} c (record (fresh_run env (Some b) moves) { store = b.store; entries = []; phase = Closed; owned = b.owned }, Some InstanceTrapped)
                  (record (fresh_run env (Some b) moves) { store = b.store; entries = Opening b.starts ∷ []; phase = Pending b.view; owned = b.owned }, None)).0;
              inst = Some a.inst;
              loaded = (fresh_loader env w moves).loaded;
            })
        by true = over (record { phase = refl; entries = refl })
        by false = going tt a.inst refl typed

    first_stage : (o : Option Added) → primary_added env w ≡ o → Stage (record { run = (began (fresh_run env (o >>= begun_of env w) moves) (o >>= begun_of env w)).0; inst = o >>= λ a. Some a.inst; loaded = (fresh_loader env w moves).loaded })
    first_stage None e = over (record { phase = refl; entries = refl })
    first_stage (Some a) e = begun_stage a e (begun_of env w a) refl

    always : (n : ℕ) → LoadsWhereAsked w (state_after (tick_loader w) (fresh_loader env w moves) n)
    always zero = λ r slot vs s es is j place loaded. absurd (let k = is in cc)
    always (suc n) = stage_loads (state_after (tick_loader w) (tick_loader w (fresh_loader env w moves)).0 n) (later_stage n (tick_loader w (fresh_loader env w moves)).0 (first_stage (primary_added env w) refl))

pub secondaries_always_load : LoadLaws → SecondariesAlwaysLoad
secondaries_always_load laws namespace names m moved owns g env is_env moves n = always laws namespace names m moved owns g env moves n
