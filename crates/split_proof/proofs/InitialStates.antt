-- The states of a module and its split correspond after their first steps, where neither traps.
use Rattle.base_lists.proofs.Common.{◌≡◌, ◌∙◌, ap, sym, subst, refl, ℕ, List, [], length, Option, Some, None, false, cond, ◌∷◌, ◌+◌, ◌<◌, option_and_then, slice_get, slice_get_within, opt_both}
use Rattle.wasm_tree_spec.specs.Prelude.{Module, Functions}
use Rattle.wasm_meaning.specs.Prelude.{Inst, Opening, Store, Environment, LoaderRun, LoaderWorld, begun_under, fresh_loader, store_under, tick_loader, Added, Closed, InstanceTrapped, Move, Pending, Run, Out, began, fresh_run, tick, Begun, alone, instantiate, own_count}
use Rattle.run_simulation.specs.Prelude.{nil, BegunRel, pending, FramesBetween}
use Rattle.world_simulation.specs.TypedInstances.{IsTyped}
use Rattle.split_spec.specs.declared.names.SplitNames.{SplitNames}
use Rattle.split_proof.specs.Addresses.{slot_table_address, split_pairing}
use Rattle.split_proof.specs.SplitLaws.{CanBeSplit}
use Rattle.split_proof.specs.CorrespondingStates.{Corresponds, FuncsComeFrom, waits}
use Rattle.split_proof.proofs.IndexEntries.{Laws, split}
use Rattle.split_proof.proofs.InstantiatedSplits.{begin_alike}
use Rattle.split_proof.proofs.InitialFunctions.{first_moves, first_plain, second_begins, second_trampolines, second_waits}
use Rattle.split_proof.proofs.InitialSlots as slots

module _ (laws : Laws) (namespace : ℕ → List ℕ) (names : SplitNames) (m : Module) (moved : List ℕ) (owns : List (List ℕ)) (g : CanBeSplit namespace names m moved owns) (env : Environment) (moves : List Move) (b : Begun) (h : instantiate env (alone m) ≡ Some b) (c : Begun)
    (l : begun_under env (split laws namespace names m moved owns g) ≡ Some c) where
  abbrev w : LoaderWorld
  w = split laws namespace names m moved owns g

  abbrev pub i : Inst
  i = slots.i laws namespace names m moved owns g env b h c l

  abbrev pub j : Inst
  j = slots.j laws namespace names m moved owns g env b h c l

  related : BegunRel (split_pairing env m moved []) (FramesBetween (split_pairing env m moved [])) b c
  related = opt_both (begin_alike laws namespace names m moved owns g env) h l

  module _ (good : b.trapped ≡ false) where
    second_good : c.trapped ≡ false
    second_good = sym related.trapped ∙ good

    funcs : (q : LoaderRun) → q.run.store ≡ c.store → q.loaded ≡ (fresh_loader env w moves).loaded → FuncsComeFrom env m moved w i j [] b.store q
    funcs q store loaded =
        let t = slots.table_there laws namespace names m moved owns g env b h c l second_good in
        record {
          plain = first_plain laws namespace names m moved owns g env b h;
          moves = first_moves laws namespace names m moved owns g env b h;
          trampolines = λ slot func d at left. ap (λ (s : Store). slice_get s.funcs d) store ∙ second_trampolines laws namespace names m moved owns g env c l slot func d at left;
          table = t.0;
          table_stands = ap (λ (s : Store). slice_get s.tables (slot_table_address env m)) store ∙ t.1;
          slots = λ slot func at.
              let s = slots.slot_secondary namespace names m moved 0 owns slot (subst (λ xs. slot < length xs) (sym g.lists) (slice_get_within moved slot func at)) in
              record {
                secondary = s.0;
                is_place = s.1;
                is_loaded = false;
                loaded_is = ap (λ bs. slice_get bs s.0) loaded ∙ s.2;
                holds = waits (slots.slot_refers laws namespace names m moved owns g env b h c l t.0 t.2 slot func at) (ap (λ (s : Store). slice_get s.funcs (own_count Functions env + slot)) store ∙ second_waits laws namespace names m moved owns g env c l slot func at);
              };
          pairs = λ a d e. absurd (let z = e in cc);
        }

    typed : IsTyped w.primary j c.store
    typed =
        let s = second_begins laws namespace names m moved owns g env c l in
        subst (λ (t : Store). IsTyped w.primary j t) s.store (laws.typed (store_under env w) w.primary s.things s.made s.is_added)

    abbrev first_run : Run
    first_run = record (fresh_run env (Some b) moves) { store = b.store; entries = Opening b.starts ∷ []; phase = Pending b.view; owned = b.owned }

    abbrev second_run : Run
    second_run = record (fresh_run env (Some c) moves) { store = c.store; entries = Opening c.starts ∷ []; phase = Pending c.view; owned = c.owned }

    first_is : (tick (fresh_run env (Some b) moves)).0 ≡ first_run
    first_is = ap (λ t. (cond {A = Out} t (record (fresh_run env (Some b) moves) { store = b.store; entries = []; phase = Closed; owned = b.owned }, Some InstanceTrapped) (first_run, None)).0) good

    second_is : (tick_loader w (fresh_loader env w moves)).0 ≡ record (fresh_loader env w moves) { run = second_run }
    second_is =
        ap (λ (o : Option Begun). record (fresh_loader env w moves) { run = (began (fresh_run env o moves) o).0 }) l
        ∙ ap (λ t. record (fresh_loader env w moves) { run = (cond {A = Out} t (record (fresh_run env (Some c) moves) { store = c.store; entries = []; phase = Closed; owned = c.owned }, Some InstanceTrapped) (second_run, None)).0 }) second_good

    pub states : Corresponds env m moved w i j [] (tick (fresh_run env (Some b) moves)).0 (tick_loader w (fresh_loader env w moves)).0
    states =
        subst (λ r. Corresponds env m moved w i j [] r (tick_loader w (fresh_loader env w moves)).0) (sym first_is)
        (subst (λ q. Corresponds env m moved w i j [] first_run q) (sym second_is) (record {
          related = record { store = related.store; entries = related.entries; phase = pending related.view; shown = nil; view = nil; owned = related.owned; moves = refl };
          begun = tt;
          inst = ap (option_and_then (λ (x : Added). Some x.inst)) (second_begins laws namespace names m moved owns g env c l).is_made;
          typed = typed;
          funcs = funcs (record (fresh_loader env w moves) { run = second_run }) refl refl;
        }))
